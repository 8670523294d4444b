-- Lemmas on one notion each: ways to end, numbers of finishes, the first finish, the step to the
-- next, one finish more, the walk, and verdicts by reaches; then lending, lists of nodes, and tests
-- that are of the sheet.
pub mod WaysLemmas
pub mod NumberLemmas
pub mod StartLemmas
pub mod StepLemmas
pub mod OneMoreLemmas
pub mod WalkLemmas
pub mod ReachLemmas
pub mod LendRules
pub mod ListLemmas
pub mod TestLemmas
