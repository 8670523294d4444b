-- The laws of both, and how what is left of a tree is listed: no promise of the program rests on
-- these words.
pub mod RetargetLaws
pub mod AskedLaws
pub mod Carrying
