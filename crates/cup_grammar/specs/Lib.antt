-- Read in this order: the groups of a cup as a report is judged by them, what must come, what each
-- line leaves due, and what lines come to.
pub mod PlacedGroups
pub mod CupDues
pub mod CupExpected
pub mod CupReports
pub mod inside
