-- Lemmas on one notion each: cells, outcomes, boxes, trails, boxes along a path, points.
pub mod CellLemmas
pub mod OutcomeLemmas
pub mod BoxLemmas
pub mod TrailLemmas
pub mod PathLemmas
pub mod PointLemmas
pub mod LeftLemmas
pub mod ExactLemmas
pub mod SideLemmas
pub mod EndLemmas
pub mod TotalLemmas
pub mod SplitLemmas
pub mod OpenSideLemmas
pub mod SetLemmas
pub mod BeyondLemmas
