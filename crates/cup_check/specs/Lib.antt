-- What an input comes to with a report on a cup. Words of the functions stand in inside/.
pub mod CupOutcomes
pub mod inside
