-- That no group has a candidate at the key beyond all; what a side comes to, in the words of the
-- contract, and what both come to.
pub mod FarKeyLemmas
pub mod CupSideLemmas
pub mod ClubFindingLemmas
