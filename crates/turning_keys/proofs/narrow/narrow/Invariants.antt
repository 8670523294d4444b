use Rattle.std.proofs.Common.{◌≡◌}
use Rattle.turning_keys.specs.inside.TurningSearches.{range_spanned, IsHalving, numbers_past}
use Rattle.turning_keys.proofs.narrow.narrow.Given as goal

-- the part lies in the range, and as many parts are known as at first
abbrev pub invariant-loop-alloc : goal.invariant-loop-alloc
invariant-loop-alloc l =
    IsHalving l.sheet l.season l.sought.claim l.sought.club l.reached (range_spanned l.range)
    × (l.reached.known ≡ l.fn.reached.known)

abbrev pub decreases-loop-alloc : goal.decreases-loop-alloc
decreases-loop-alloc l = numbers_past (range_spanned l.range)
