-- Read in this order: trees of cases, what a search finds and comes to, the law of refuted trees,
-- kinds of which each zone is decided, trees of zones.
pub mod Cases
pub mod Searches
pub mod Laws
pub mod Decided
pub mod ZoneTrees
