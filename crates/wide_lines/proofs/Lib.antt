-- The texts of near leaves; who a near reason is by; wide trees, and the ranges of their lines.
pub mod NearTextLemmas
pub mod RivalLemmas
pub mod WideTreeLemmas
pub mod WideRangeLemmas
