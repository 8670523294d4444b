-- The nearest of finitely many keys, and that of a club's keys as its group's candidate; how
-- large the parts of a key are; keys that are no farther in than others; what examples and
-- refutations say of keys; that keys on the way are no larger; one part, a step of halving, all
-- parts, and what the search comes to.
pub mod NearestKeyLemmas
pub mod TurningKeyLemmas
pub mod KeyBoundLemmas
pub mod FartherLemmas
pub mod ReachedLemmas
pub mod HalfwayKeyLemmas
pub mod PartLemmas
pub mod WholePartLemmas
pub mod StepLemmas
pub mod FindLemmas
pub mod EndLemmas
