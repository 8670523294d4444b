use Rattle.std.proofs.Common.{◌≡◌, ◌<◌, ◌≤◌, ◌-◌, ◌*◌, pos, ◌≤ℤ◌, true, List, length, take, get_or}
use Rattle.std.specs.Prelude.{neg_ℤ}
use Rattle.league_core.specs.declared.club_set.ClubSet.{ClubSet}
use Rattle.league_core.specs.declared.sheet.Fixture.{Fixture}
use Rattle.league_core.specs.game.ClubSets.{clubs_in}
use Rattle.score_box.specs.inside.Boxes.{IsSetOf}
use Rattle.score_box.specs.inside.OpenSides.{AreSidesOf, are_of_group, is_side}
use Rattle.score_box.specs.inside.Points.{IsBeyondOver}
use Rattle.score_box.proofs.set_points.beyond.Given as goal

-- the place is that of a match that counts, or past the last; what the matches before it add
abbrev pub invariant-loop-place : goal.invariant-loop-place
invariant-loop-place l = record {
  within : l.place ≤ length l.open_matches.numbers.items;
  found : l.place < length l.open_matches.numbers.items → (match : Fixture)
      → ((d : ClubSet) → IsSetOf (get_or l.open_matches.sides.items l.place d) (is_side match))
      → are_of_group l.set match ≡ true;
  beyond : (fixtures : List Fixture)
      → AreSidesOf fixtures l.open_matches.numbers.items l.open_matches.sides.items
      → IsBeyondOver fixtures l.cells (take l.place l.open_matches.numbers.items) (clubs_in l.set)
      l.points;
  near_least : (neg_ℤ (pos (6 * l.place)) ≤ℤ l.points.least)
      × (l.points.least ≤ℤ pos (6 * l.place));
  near_most : (neg_ℤ (pos (6 * l.place)) ≤ℤ l.points.most)
      × (l.points.most ≤ℤ pos (6 * l.place));
}

abbrev pub decreases-loop-place : goal.decreases-loop-place
decreases-loop-place l = length l.open_matches.numbers.items - l.place
