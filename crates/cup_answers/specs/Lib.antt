-- CupTexts is what the answer of a cup writes; no promise of the program rests on what is inside.
pub mod CupTexts
pub mod inside
