use mathlib.Core.List.{IsPrefix}
use Rattle.worker_gate.specs.inside.Workers.{IsNextFor}
use Rattle.worker_gate.proofs.worker.run_worker.Given as goal

-- what comes next is work after what was seen
abbrev pub invariant-loop : goal.invariant-loop
invariant-loop g l =
    (goal.iterator-loop g).can_next l.iterator' × (goal.iterator-loop g).is_finite l.iterator'
    × IsNextFor g.J.Job.sheet l.badge l.next
    × IsPrefix l.fn.badge.list l.badge.list
