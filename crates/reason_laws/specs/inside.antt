-- Read in this order: it is the order in which the notions rest on each other.
pub mod Laws
pub mod SureLaws
pub mod KeyLaws
pub mod Splits
pub mod OutcomeLaws
pub mod Refutations
pub mod Weights
pub mod WeightRows
