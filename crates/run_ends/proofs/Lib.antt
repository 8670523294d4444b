-- What fields write; courses and their texts; how a session ends; its way, its rounds, and where
-- its reading stops.
pub mod FieldLemmas
pub mod FeedCourseLemmas
pub mod RunTextLemmas
pub mod AnsweredCourseLemmas
pub mod RunEndLemmas
pub mod SettledLemmas
pub mod StopLemmas
pub mod WayLemmas
pub mod RunRoundLemmas
pub mod StandLemmas
