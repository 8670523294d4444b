use Rattle.std.proofs.Common.{◌≡◌, map}
use Rattle.pool_lock.specs.inside.Badges.{new_badge}
use Rattle.pool_lock.proofs.work_badge.badges_of.Given as goal

-- the badges so far are those for the eyes so far
abbrev pub invariant-loop-eye : goal.invariant-loop-eye
invariant-loop-eye g l = l.badges.items ≡ map (new_badge l.is_sole) l.yielded
