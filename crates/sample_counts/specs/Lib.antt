-- Reading order: the league that comes from a number, and what is counted in it.
pub mod Samples
pub mod SampleCounts
pub mod inside
