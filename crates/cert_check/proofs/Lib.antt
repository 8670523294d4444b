-- Small facts on ways and rows; then what each line that may come makes of what is due and back,
-- then whole reports. After these inputs: how a reading of a sheet and of an entry goes on whatever
-- follows it, feeds entry by entry, what comes after them, and reports part by part.
pub mod ListLemmas
pub mod MachineLemmas
pub mod CountLemmas
pub mod AlikeLemmas
pub mod PieceLemmas
pub mod NextLemmas
pub mod TakenLemmas
pub mod LinePartLemmas
pub mod RowLemmas
pub mod NodeLemmas
pub mod ScoreLemmas
pub mod PartLemmas
pub mod GoesLemmas
pub mod CallLemmas
pub mod ExampleLemmas
pub mod FillLemmas
pub mod ReportLemmas
pub mod TruthLemmas
pub mod AnswerLemmas
pub mod ReadingLemmas
pub mod FeedLemmas
pub mod InputLemmas
pub mod OutcomeLemmas
