-- Reading order: what a cup may be, the words for refusals, what a record makes of a cup, the cup
-- of an input's contents, the seasons of its feed; then how a cup may end, who qualifies, what can
-- be asked of one group, the trees that show it, the key on which it turns, what an answer shows.
pub mod CupLimits
pub mod Cups
pub mod CupFaults
pub mod CupRecords
pub mod CupReadings
pub mod CupFeeds
pub mod JointFinishes
pub mod Qualifying
pub mod GroupQuestions
pub mod GroupTrees
pub mod KeyBounds
pub mod CupAnswers
-- What the functions promise each other and the crates above, and what holds of lots.
pub mod CupDrafts
pub mod LotLaws
