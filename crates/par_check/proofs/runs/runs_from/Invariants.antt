use Rattle.std.specs.Prelude.{All}
use Rattle.par_check.specs.Places.{IsIn}
use Rattle.par_check.proofs.runs.runs_from.Given as goal

-- each run so far begins at a place, and so does the next one
abbrev pub invariant-loop-at : goal.invariant-loop-at
invariant-loop-at l = record {
  runs : All (λ run. IsIn l.whole run.from) l.runs.items;
  begun : IsIn l.whole l.begun;
  due : IsIn l.whole l.due;
}
