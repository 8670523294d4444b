-- That turning keys exist; what a search for one asks, what it knows on the way, and what it comes
-- to.
pub mod TurningLaws
pub mod TurningQuestions
pub mod TurningSearches
pub mod KeyEndings
