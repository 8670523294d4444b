-- The laws of answers for cups, of what groups leave open, and of ends that are chosen.
pub mod CupTruths
pub mod GroupWays
pub mod ChosenEnds
