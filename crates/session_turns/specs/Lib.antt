-- Read in this order: it is the order in which the notions rest on each other.
pub mod Plays
pub mod Courses
pub mod Answers
pub mod Texts
pub mod LastReads
pub mod inside
