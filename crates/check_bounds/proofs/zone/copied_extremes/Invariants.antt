use Rattle.std.proofs.Common.{◌≡◌, take}
use Rattle.check_bounds.proofs.zone.copied_extremes.Given as goal

-- those so far
abbrev pub invariant-loop-own : goal.invariant-loop-own
invariant-loop-own l = l.copied.items ≡ take l.own-index l.corners
