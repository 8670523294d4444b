-- What the functions promise each other: no promise of the program rests on these words.
pub mod Judging
pub mod ModeEnds
