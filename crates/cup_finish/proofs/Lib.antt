-- Lots within a group; a walk over the groups of a cup with their results; and what it makes of who
-- qualifies.
pub mod GroupLotsLemmas
pub mod GroupWalkLemmas
pub mod QualifyingLemmas
