use Rattle.check_bounds.specs.inside.Steps.{sure_by_tables}
use Rattle.check_bounds.proofs.StepLemmas.{IsTakenBelow}
use Rattle.check_bounds.proofs.tie_rounds.step.Given as goal

-- the clubs passed have taken the next answer
abbrev pub invariant-loop-rival : goal.invariant-loop-rival
invariant-loop-rival l =
    IsTakenBelow l.fn.answers l.answers l.rival (sure_by_tables l.tables l.club)
