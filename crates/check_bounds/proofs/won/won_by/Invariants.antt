use Rattle.std.proofs.Common.{◌≡◌, ◌*◌, drop}
use Rattle.league_core.specs.game.ClubSets.{clubs_in}
use Rattle.league_core.specs.search.PointRanges.{added, range_from, points_together}
use Rattle.check_bounds.specs.inside.IntRanges.{as_sum_range, IsRangeWithin}
use Rattle.check_bounds.proofs.won.won_by.Given as goal

-- the points so far, and those of the matches that are left, make the whole
abbrev pub invariant-loop-i : goal.invariant-loop-i
invariant-loop-i l =
    (added (as_sum_range l.won)
    (range_from (points_together (clubs_in l.set)) (drop l.i l.fixtures) (drop l.i l.corners))
    ≡ range_from (points_together (clubs_in l.set)) l.fixtures l.corners)
    × IsRangeWithin (255 * l.i) l.won
