-- Read in this order: it is the order in which the notions rest on each other.
pub mod CupCourses
pub mod CupLastReads
pub mod inside
