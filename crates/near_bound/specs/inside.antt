-- What a zone leaves of each match; the worst of it and its margins; points, and what is fit for a
-- club; what the played matches add up to; and then the zones that all this stands for.
pub mod MatchesLeft
pub mod Margins
pub mod Points
pub mod PlayedParts
pub mod ZonesLeft
pub mod AllEnds
pub mod Ties
pub mod PairLeads
pub mod Decisions
pub mod GroupsLeft
pub mod AbleRivals
pub mod FitEnds
pub mod Levels
