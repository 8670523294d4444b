-- The questions of a season and the rows of its answer, trees that are new, examples as lines, and
-- what stands for a question; then rows that go out one after the other, proof lines, and the
-- answers piece by piece.
pub mod AskedLemmas
pub mod RowItemLemmas
pub mod RowLemmas
pub mod NewTreeLemmas
pub mod ExampleLineLemmas
pub mod PartLemmas
pub mod OutputLemmas
pub mod TableLemmas
pub mod PlaceLemmas
