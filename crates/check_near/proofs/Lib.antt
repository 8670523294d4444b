-- Lemmas on domains for the near reason.
pub mod MatchesOverLemmas
