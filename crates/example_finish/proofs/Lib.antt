-- How scores come one after another, then the first ones of a cell, then the proposed finish.
pub mod OrderLemmas
pub mod FirstLemmas
pub mod FirstOutcomeLemmas
pub mod ProposedLemmas
pub mod GroupStandingLemmas
pub mod PlaceLemmas
pub mod UnplayedLemmas
pub mod ProposedTotalLemmas
pub mod CriterionLemmas
pub mod ProposedPointLemmas
