-- Lemmas on one notion each: sums over clubs and pairs, the peel, the network, sets of clubs,
-- answers, what a fixture is worth, cuts.
pub mod PartLemmas
pub mod OneMoreLemmas
pub mod MeetingLemmas
pub mod PeelLemmas
pub mod SpareLemmas
pub mod PlaceLemmas
pub mod NetworkLemmas
pub mod SetLemmas
pub mod ChoiceLemmas
pub mod WorthLemmas
pub mod FixtureLemmas
pub mod PairsLemmas
pub mod OpenLemmas
pub mod SurplusLemmas
pub mod ChosenLemmas
pub mod NeededLemmas
pub mod CutLemmas
pub mod WorkedCuts
