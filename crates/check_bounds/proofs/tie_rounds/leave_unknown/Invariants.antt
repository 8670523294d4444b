use Rattle.league_core.specs.declared.sure.Sure.TheVariants.{Unknown}
use Rattle.check_bounds.proofs.StepLemmas.{IsTakenBelow}
use Rattle.check_bounds.proofs.tie_rounds.leave_unknown.Given as goal

-- the clubs passed have taken the next answer
abbrev pub invariant-loop-rival : goal.invariant-loop-rival
invariant-loop-rival l = IsTakenBelow l.fn.answers l.answers l.rival (λ rival. Unknown)
