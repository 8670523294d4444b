-- The text of a proof line, of a row, and of an answer; and lines as types hold them.
pub mod ReadBackLemmas
pub mod RowBackLemmas
pub mod WithinLemmas
pub mod BodyLemmas
pub mod WrittenLemmas
pub mod KeptLemmas
pub mod KeptTreeLemmas
pub mod KeptWideLemmas
