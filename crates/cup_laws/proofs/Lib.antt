-- Refutations of questions about groups, places of a table, groups at their ends, counts of groups,
-- candidates; what answers for cups show, and what groups leave open; then ends of groups that are
-- chosen, and the way back.
pub mod GroupTruthLemmas
pub mod PlaceTakenLemmas
pub mod GroupEndLemmas
pub mod GroupCountLemmas
pub mod CandidateLemmas
pub mod CupTruthLemmas
pub mod SideLemmas
pub mod OtherGroupLemmas
pub mod WayLemmas
pub mod ChosenLemmas
pub mod PickedLemmas
pub mod FilledLemmas
pub mod JoinedEndLemmas
pub mod MadeFinishLemmas
pub mod MadeAnswerLemmas
pub mod WayBackLemmas
