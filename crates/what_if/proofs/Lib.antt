-- Lemmas on steps, on what a call for one answers, and on a round of them.
pub mod StepLemmas
pub mod StepCallLemmas
pub mod WorkedSteps
-- Bases, zones below them, and work on a question; parts, verdicts and texts of an answer.
pub mod BaseFinishLemmas
pub mod BaseLemmas
pub mod BelowLemmas
pub mod HintLemmas
pub mod TaskLemmas
pub mod PartLemmas
pub mod GivenLemmas
pub mod PartPutsLemmas
pub mod OutcomeTextLemmas
pub mod WhenLemmas
