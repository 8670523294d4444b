-- Read in this order: it is the order in which the notions rest on each other.
pub mod InputEnds
pub mod Rows
pub mod Courses
pub mod Texts
pub mod Runs
pub mod LastReads
pub mod inside
