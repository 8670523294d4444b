-- What is rated best, which fixtures are looked at, which tests split, what is found.
pub mod RatedLemmas
pub mod RivalLemmas
pub mod SplitLemmas
pub mod OutcomeTestLemmas
pub mod GoalTestLemmas
pub mod FoundLemmas
