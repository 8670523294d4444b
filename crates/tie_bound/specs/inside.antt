-- Read in this order: it is the order in which the notions rest on each other.
pub mod IntRanges
pub mod Sums
pub mod Sides
pub mod Boxes
pub mod Tables
pub mod Rows
pub mod Answers
pub mod Rivals
