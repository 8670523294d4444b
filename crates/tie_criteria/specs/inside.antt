-- Read in this order: it is the order in which the notions rest on each other.
pub mod Measures
pub mod Sums
pub mod Parts
pub mod Groups
pub mod Records
pub mod MiniTables
pub mod Tails
pub mod Blocks
