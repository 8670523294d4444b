-- The pool of such a league: no promise of the program rests on these words.
pub mod SamplePools
