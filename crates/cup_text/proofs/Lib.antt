-- The JSON text of a line's value is the line's text; it is printed; and it is read back as the
-- line. What is read is in range. The splits of written trees.
pub mod CupTextLemmas
pub mod CupPrintedLemmas
pub mod CupBackLemmas
pub mod ReadNumberLemmas
pub mod ReadRangeLemmas
pub mod ProperSplitLemmas
