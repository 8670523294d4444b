-- Reading order: the words for refusals, what a record tells, and what a feed is.
pub mod Faults
pub mod Records
pub mod Feeds
pub mod inside
