-- Splits that are due, boxes of longer zones, questions that are decided; then answers and tables
-- of seasons.
pub mod DueLemmas
pub mod BoxPrefixLemmas
pub mod DecidedLemmas
pub mod AnswerLemmas
pub mod TableLemmas
