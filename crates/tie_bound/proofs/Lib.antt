-- Lemmas on one notion each: exact ranges, outcomes, margins, the two sides of a match, tables of
-- sums and of answers, the rounds of the criteria, and steps by the tables.
pub mod ExtentLemmas
pub mod OutcomeLemmas
pub mod MarginLemmas
pub mod SideLemmas
pub mod BoxLemmas
pub mod TableLemmas
pub mod SoFarLemmas
pub mod RowLemmas
pub mod PointLemmas
pub mod OpenLemmas
pub mod WantedLemmas
pub mod AnswerSetLemmas
pub mod AnswerLemmas
pub mod RoundLemmas
pub mod TakenLemmas
pub mod RivalLemmas
pub mod RefuteLemmas
pub mod GivenLemmas
