-- What is found in a zone, trees of cases as wide trees, what a search comes to, what an answer is
-- put together from, and its text.
pub mod LookLemmas
pub mod WideCaseLemmas
pub mod SolvedLemmas
pub mod WidePartLemmas
pub mod DecidedAnswerLemmas
