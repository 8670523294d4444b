use Rattle.std.proofs.Common.{◌≡◌}
use mathlib.Core.List.{IsPrefix}
use Rattle.pool_lock.proofs.lock.PoolLock.lend.Given as goal

-- what the badge has seen is still seen, and nothing else of it changes
abbrev pub invariant-loop : goal.invariant-loop
invariant-loop g l =
    (goal.iterator-loop g).can_next l.iterator' × (goal.iterator-loop g).is_finite l.iterator'
    × IsPrefix l.initial.badge.list l.badge.list
    × (l.badge
    ≡ record l.initial.badge { list = l.badge.list; is_over = l.badge.is_over })
