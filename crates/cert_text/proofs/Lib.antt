-- Rows read back, the clubs of a set, the JSON of proof lines, and that it is printed; then lines
-- and rows worked by hand.
pub mod RowLemmas
pub mod PlainRowLemmas
pub mod SetListLemmas
pub mod ReadLemmas
pub mod RangeLemmas
pub mod BitSumLemmas
pub mod FormLemmas
pub mod TreeRangeLemmas
pub mod ProperLemmas
pub mod LotRangeLemmas
pub mod ExampleRangeLemmas
pub mod LineLemmas
pub mod ScoreLineLemmas
pub mod PrintedLemmas
pub mod ReadBackLemmas
pub mod PlainNumberLemmas
pub mod CutLemmas
pub mod PlainFormLemmas
pub mod WorkedLines
