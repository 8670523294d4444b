-- What a function promises the crates above: no promise of the program rests on these words.
pub mod NodeCalls
