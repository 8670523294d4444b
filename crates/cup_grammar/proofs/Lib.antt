-- Lines that were read; then the nodes of trees, groups by their places, refuted sides and joint
-- finishes; then rows and whole parts.
pub mod CupTokenLemmas
pub mod ReadLineLemmas
pub mod ScoreTextLemmas
pub mod GroupNodeLemmas
pub mod PlacedGroupLemmas
pub mod CupRefutationLemmas
pub mod JointFinishLemmas
pub mod CupRowLemmas
pub mod ReadsOnLemmas
pub mod OwnNumberLemmas
pub mod ToldNodeLemmas
pub mod WrittenTreeLemmas
pub mod WrittenGroupLemmas
pub mod WrittenSideLemmas
pub mod WrittenJointLemmas
pub mod WrittenSpentLemmas
pub mod WrittenItemLemmas
pub mod WrittenAnswerLemmas
