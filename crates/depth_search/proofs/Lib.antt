-- The first nodes of a tree; refuted trees; zones that are decided; trees of zones.
pub mod PrefixLemmas
pub mod LawLemmas
pub mod DecidedLemmas
pub mod ZoneTreeLemmas
