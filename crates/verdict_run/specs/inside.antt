-- What the functions promise each other and the crates above: no promise of the program rests on
-- these words. Read in this order.
pub mod Working
pub mod Verdicts
pub mod Solving
pub mod Parts
pub mod Kept
pub mod SeasonReports
pub mod WorkLaws
