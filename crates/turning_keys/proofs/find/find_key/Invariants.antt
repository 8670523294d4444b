use Rattle.std.proofs.Common.{◌≡◌}
use Rattle.turning_keys.specs.inside.TurningSearches.{IsReachedTo}
use Rattle.turning_keys.proofs.find.find_key.Given as goal

-- the parts before the place are known
abbrev pub invariant-loop-place : goal.invariant-loop-place
invariant-loop-place l =
    IsReachedTo l.sheet l.season l.sought.claim l.sought.club l.reached
    × (l.reached.known ≡ l.place)
