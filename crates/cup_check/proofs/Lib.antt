-- Lines one by one, and parts one after another; groups; trees; what refutes a side; joint
-- finishes. Then entries of a feed with the parts of a report, readings of a cup's sheet, whole
-- inputs, and that what is accepted is true.
pub mod CupCallLemmas
pub mod CupReachLemmas
pub mod PlaceLemmas
pub mod GroupTreeLemmas
pub mod CupSideLemmas
pub mod JointLemmas
pub mod JointCallLemmas
pub mod JointLotLemmas
pub mod CupEntryLemmas
pub mod CupReadingLemmas
pub mod CupInputLemmas
pub mod CupInputTruthLemmas
