use Rattle.std.proofs.Common.{◌≡◌, ℕ, ◌<◌, length}
use Rattle.score_box.specs.inside.Ends.{end_at}
use Rattle.score_box.specs.inside.Totals.{totals_at}
use Rattle.score_box.proofs.ends.points_won.Given as goal

-- the points of the clubs so far
abbrev pub invariant-loop-club : goal.invariant-loop-club
invariant-loop-club l =
    (length l.points ≡ 24)
    × ((k : ℕ) → k < l.club → end_at l.points k ≡ (totals_at l.tables.clubs.items k).points)
