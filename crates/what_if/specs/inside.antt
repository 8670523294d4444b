-- What the functions promise each other and the crates above: no promise of the program rests on
-- these words. Read in this order.
pub mod StepCalls
pub mod StepLaws
pub mod SeasonParts
pub mod Tasks
pub mod GivenParts
pub mod WhenLaws
