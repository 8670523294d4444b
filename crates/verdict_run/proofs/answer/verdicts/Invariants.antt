use Rattle.verdict_run.proofs.VerdictLemmas.{AreAnswered}
use Rattle.verdict_run.proofs.answer.verdicts.Given as goal

-- the verdicts of the rows so far
abbrev pub invariant-loop-row : goal.invariant-loop-row
invariant-loop-row l = AreAnswered l.pool l.row l.found.items
