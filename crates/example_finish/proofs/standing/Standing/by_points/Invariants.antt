-- The clubs found so far are those that were passed.
use Rattle.std.proofs.Common.{◌≡◌, ◌&&◌, ℕ, nat_lt}
use Rattle.std.specs.Ordering.{is_eq, is_lt}
use Rattle.league_core.specs.game.Sums.{has_club}
use Rattle.league_core.specs.game.ClubSets.{clubs_in}
use Rattle.example_finish.specs.inside.GroupStandings.{by_number_in}
use Rattle.example_finish.proofs.standing.Standing.by_points.Given as goal

abbrev pub invariant-loop-other : goal.invariant-loop-other
invariant-loop-other l = record {
  ahead : (x : ℕ) → has_club (clubs_in l.standing.ahead) x
      ≡ (nat_lt x l.other && is_lt (by_number_in l.points x l.club));
  level : (x : ℕ) → has_club (clubs_in l.standing.level) x
      ≡ (nat_lt x l.other && is_eq (by_number_in l.points x l.club));
}
