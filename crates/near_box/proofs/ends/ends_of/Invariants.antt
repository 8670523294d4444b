use Rattle.std.proofs.Common.{◌≡◌, ◌<◌, ℕ, length}
use Rattle.near_bound.specs.inside.Points.{ends_listed}
use Rattle.near_box.specs.inside.ZoneMatches.{IsKeptOf}
use Rattle.near_box.proofs.ends.ends_of.Given as goal

-- the clubs so far have their points
abbrev pub invariant-loop-club : goal.invariant-loop-club
invariant-loop-club l =
    (length l.ends ≡ 32)
    × ((x : ℕ) → x < l.club → IsKeptOf l.zone_box x (ends_listed l.ends x))
