use Rattle.std.proofs.Common.{◌≡◌}
use mathlib.Core.List.{IsPrefix}
use Rattle.worker_gate.specs.inside.Workers.{HasWork}
use Rattle.worker_gate.proofs.worker.work_on.Given as goal

-- the solver has the ticket, which is of the first one's epoch
abbrev pub invariant-loop : goal.invariant-loop
invariant-loop g l =
    (goal.iterator-loop g).can_next l.iterator' × (goal.iterator-loop g).is_finite l.iterator'
    × HasWork g.J.Job.sheet l.badge.list (g.W.Solver.sheet l.solver) (g.W.Solver.season l.solver)
    l.ticket
    × IsPrefix l.fn.badge.list l.badge.list
    × (l.ticket.epoch ≡ l.epoch)
