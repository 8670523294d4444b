-- No promise of the program rests on these words.
pub mod inside
