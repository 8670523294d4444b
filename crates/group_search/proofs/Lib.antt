-- Counts of clubs, lots with one club first and a club right after it, questions about a group as
-- questions of its table, reasons and splits of a zone, trees of cases as a group's trees.
pub mod CountedLemmas
pub mod SecondLotsLemmas
pub mod GroupExampleLemmas
pub mod GroupReasonLemmas
pub mod GroupLookLemmas
pub mod GroupCaseLemmas
