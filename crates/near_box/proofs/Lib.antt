-- Lemmas on one notion each: goals of two kinds of scores, what a cell leaves of its match, rivals
-- that are pressed, what the tests say of a box, and the matches that are kept.
pub mod HullLemmas
pub mod CellMatchLemmas
pub mod PressedLemmas
pub mod SightLemmas
pub mod ZoneMatchLemmas
pub mod BarredLemmas
pub mod BoxEndLemmas
