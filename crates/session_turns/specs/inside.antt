-- What the functions promise each other and the crates above: no promise of the program rests on
-- these words. Read in this order.
pub mod FeedCourses
pub mod Progress
pub mod Halts
pub mod SavedStops
pub mod Turns
pub mod TurnReads
pub mod RoundHalts
