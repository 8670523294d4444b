-- Courses and sheets; that each ask has an answer; the way of a session, and its turns.
pub mod CourseLemmas
pub mod SheetLemmas
pub mod LimitLemmas
pub mod SavedThereLemmas
pub mod DecidedThereLemmas
pub mod AnsweredLemmas
pub mod AnswerLemmas
pub mod TurnLemmas
pub mod OriginLemmas
pub mod HaltLemmas
pub mod RoundLemmas
pub mod LastReadLemmas
pub mod CloseLemmas
pub mod OpeningLemmas
pub mod ClosingLemmas
