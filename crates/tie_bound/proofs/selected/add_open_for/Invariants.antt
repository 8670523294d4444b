use Rattle.std.proofs.Common.{◌≡◌, ℕ, ◌+◌, ◌*◌, false}
use Rattle.league_core.specs.game.Sums.{has_club, worth_to}
use Rattle.league_core.specs.game.ClubSets.{clubs_in}
use Rattle.score_box.specs.inside.Unplayed.{unplayed_in}
use Rattle.tie_bound.specs.inside.Sums.{sums_at, AreNear}
use Rattle.tie_bound.specs.inside.Boxes.{options_in_box}
use Rattle.tie_bound.proofs.RowLemmas.{IsOpenSoFar}
use Rattle.tie_bound.proofs.selected.add_open_for.Given as goal

-- the sums, over what is played and the matches so far, of clubs that are none of the others; and
-- none is far from zero
abbrev pub invariant-loop-place : goal.invariant-loop-place
invariant-loop-place l = record {
  sums : (club : ℕ) → has_club (clubs_in l.others) club ≡ false
      → IsOpenSoFar worth_to l.zone_box.sheet.fixtures l.zone_box.season.scores
      (options_in_box l.zone_box) (unplayed_in l.zone_box.season.scores) l.place club
      (sums_at l.table club);
  near : (club : ℕ) → AreNear (5000000 + 255 * l.place) (sums_at l.table club);
}
