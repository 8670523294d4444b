use Rattle.std.proofs.Common.{◌≡◌}
use Rattle.verdict_run.specs.inside.Working.{WorksTo}
use Rattle.verdict_run.proofs.WorkLemmas.{turns_left}
use Rattle.verdict_run.proofs.turns.finish_by.Given as goal

-- some turns were made, by a worker for the same season
abbrev pub invariant-loop-pool : goal.invariant-loop-pool
invariant-loop-pool g l = record {
  work : WorksTo l.fn.pool l.pool;
  sheet : g.W.Solver.sheet l.worker ≡ l.pool.sheet;
  season : g.W.Solver.season l.worker ≡ l.pool.season;
}

-- each turn leaves less to do
abbrev pub decreases-loop-pool : goal.decreases-loop-pool
decreases-loop-pool g l = turns_left l.pool
