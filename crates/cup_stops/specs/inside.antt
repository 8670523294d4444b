-- What the reading of a report on a cup amounts to: no promise of the program rests on these words.
-- Read in this order.
pub mod GroupTreeCases
pub mod CupCases
pub mod CupStops
