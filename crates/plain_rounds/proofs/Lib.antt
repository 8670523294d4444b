-- Lemmas on what a feeder reads and reports.
pub mod FeedingLemmas
