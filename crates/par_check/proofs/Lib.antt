-- The laws first, then one item, the cut, the reading from place to place, whole reports, feeds.
pub mod StopLemmas
pub mod ShapeLemmas
pub mod OutlineLemmas
pub mod RowAtLemmas
pub mod CutLemmas
pub mod ToldLemmas
pub mod AskLemmas
pub mod JudgeLemmas
pub mod EpochLemmas
pub mod PlaceLemmas
pub mod WholeLemmas
pub mod FeedAskLemmas
pub mod AsksOfLemmas
