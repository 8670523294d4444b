-- What holds of the words of this crate: each statement is the contract of a function that does
-- nothing.
pub mod LogLaws
pub mod Laws
pub mod StandingLaws
pub mod FinishLaws
pub mod ProposalLaws
pub mod TreeLaws
pub mod LendingLaws
pub mod SplitLaws
pub mod ZoneLaws
pub mod GivenLaws
