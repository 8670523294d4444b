-- What is earned, a check, the answers of a cup, and the modes.
pub mod EarnedLemmas
pub mod CheckLemmas
pub mod CheckedLemmas
pub mod CupCheckLemmas
pub mod CheckedCupLemmas
pub mod GroupsAnsweredLemmas
pub mod FoundClubLemmas
pub mod ModeLemmas
