-- What the functions promise each other and the crates above: no promise of the program rests on
-- these words. Read in this order.
pub mod AnswerParts
pub mod Outputs
pub mod Places
pub mod ItemRanges
pub mod RowItems
pub mod Verdicts
pub mod SpentLines
