use Rattle.std.proofs.Common.{◌≡◌, ◌<◌, ℕ, [], ◌∷◌, length}
use Rattle.league_core.specs.search.PointRanges.{points_range}
use Rattle.check_bounds.specs.inside.IntRanges.{as_sum_range, range_at}
use Rattle.check_bounds.proofs.total.points_table.Given as goal

-- the clubs passed have their points
abbrev pub invariant-loop-club : goal.invariant-loop-club
invariant-loop-club l =
    (length l.table ≡ 32)
    × ((x : ℕ) → x < l.club → as_sum_range (range_at l.table x)
    ≡ points_range l.cells.sheet l.season l.cells.corners (x ∷ []))
