-- Lemmas on one notion each: counts over clubs, clubs taken of each block, the clubs around one,
-- tiers, points, places and spans.
pub mod TableLemmas
pub mod FirstLemmas
pub mod AroundLemmas
pub mod TierLemmas
pub mod PointsLemmas
pub mod PlaceLemmas
pub mod SpanLemmas
