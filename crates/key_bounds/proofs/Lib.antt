-- Lemmas on one notion each: the rows of a side by the goals of both, the scores of one outcome,
-- both ends of two rows, sums over the fixtures, and keys by them.
pub mod RowLemmas
pub mod PartLemmas
pub mod HullLemmas
pub mod WalkLemmas
pub mod KeyLemmas
