-- Domains in the words of the near reason's test.
pub mod MatchesOver
