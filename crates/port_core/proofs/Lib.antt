-- Lemmas on lines, on pieces of bytes, on rows that go out in pieces; then on where an input stops
-- and what its first line adds to the contents; then on what a reader of lines returns, takes and
-- passes.
pub mod LineLemmas
pub mod PieceLemmas
pub mod RowLemmas
pub mod FirstLineLemmas
pub mod StopLemmas
pub mod ContentLemmas
pub mod AnswerLemmas
pub mod HandLemmas
pub mod AwaitedLemmas
pub mod TakingLemmas
pub mod PassingLemmas
pub mod WaitLemmas
