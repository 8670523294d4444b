-- Reading order: the text of each line of a cup's proof, the ranges of its numbers, which line a
-- text has the form of, what texts are as JSON; then the lines of a group's trees, and what an
-- answer writes of a club.
pub mod CupLines
pub mod CupForms
pub mod CupRanges
pub mod CupValues
pub mod GroupNodeLines
pub mod CupItems
