-- Turns of work, questions that are settled, what is shown, reported and known of them, the
-- verdicts.
pub mod WorkLemmas
pub mod TurnLemmas
pub mod NewTreeLemmas
pub mod SettledLemmas
pub mod ShownLemmas
pub mod ReportedLemmas
pub mod PartLemmas
pub mod KeptLemmas
pub mod VerdictLemmas
