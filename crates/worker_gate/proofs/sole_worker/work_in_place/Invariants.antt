use mathlib.Core.List.{IsPrefix}
use Rattle.worker_gate.specs.inside.Workers.{IsSameSolver, WorksInPool}
use Rattle.worker_gate.proofs.sole_worker.work_in_place.Given as goal

-- the solver is one for the season after what was seen, which is so many events
abbrev pub invariant-loop : goal.invariant-loop
invariant-loop g l =
    (goal.iterator-loop g).can_next l.iterator' × (goal.iterator-loop g).is_finite l.iterator'
    × WorksInPool g.J.Job.sheet l.badge.list l.epoch (g.W.Solver.sheet l.solver)
    (g.W.Solver.season l.solver)
    × IsSameSolver g.W.Solver.sheet g.W.Solver.season l.fn.solver l.solver
    × IsPrefix l.fn.badge.list l.badge.list
