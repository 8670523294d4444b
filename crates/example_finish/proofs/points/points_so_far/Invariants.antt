-- The clubs before this one have their points.
use Rattle.std.proofs.Common.{◌≡◌, length, ℕ, ◌<◌}
use Rattle.league_core.specs.game.Sums.{points_of}
use Rattle.score_box.specs.inside.Ends.{end_at}
use Rattle.example_finish.specs.inside.ProposedPoints.{ArePointsNear}
use Rattle.example_finish.proofs.points.points_so_far.Given as goal

abbrev pub invariant-loop-club : goal.invariant-loop-club
invariant-loop-club l = record {
  long : length l.points ≡ 24;
  points : (x : ℕ) → x < l.club
      → end_at l.points x ≡ points_of l.zone_box.sheet l.zone_box.season x;
  near : ArePointsNear 200000 l.points;
}
