-- Points of examples, the least that a club can reach, ranges and their halves, what a window
-- question says, the range of a search, the numbers so far, and that each season has some.
pub mod PointLemmas
pub mod LeastLemmas
pub mod PointRangeLemmas
pub mod WindowLemmas
pub mod SearchLemmas
pub mod AllLemmas
pub mod ScoreLemmas
pub mod SeasonScoreLemmas
