-- What the functions promise each other and the crates above: no promise of the program rests on
-- these words.
pub mod Statuses
pub mod Stops
pub mod Ways
pub mod RunTurns
