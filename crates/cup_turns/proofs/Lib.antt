-- The sheet of a cup, read before whatever follows it, and within its limits; that each ask of a
-- cup has an answer; rounds of its feed, and its turns.
pub mod CupElsewhereLemmas
pub mod CupLimitLemmas
pub mod CupAnsweredLemmas
pub mod CupRoundLemmas
pub mod CupTurnLemmas
pub mod CupBeginLemmas
pub mod CupEarnedLemmas
