use Rattle.std.proofs.Common.{◌≡◌, ℕ, ◌-◌, ◌<◌, ◌≤◌, true, length}
use Rattle.score_box.specs.inside.Unplayed.{unplayed_in, are_open_among}
use Rattle.tie_bound.specs.inside.Sums.{sums_at}
use Rattle.tie_bound.proofs.OpenLemmas.{IsSoFarAmong}
use Rattle.tie_bound.proofs.table.add_open.Given as goal

-- each club's sums over what is played and the matches so far; the next one is of the group
abbrev pub invariant-loop-place : goal.invariant-loop-place
invariant-loop-place l = record {
  within : l.place ≤ length (unplayed_in l.zone_box.season.scores);
  counts : l.place < length (unplayed_in l.zone_box.season.scores)
      → are_open_among l.zone_box l.group l.place ≡ true;
  sums : (club : ℕ) → IsSoFarAmong l.zone_box l.group l.place club (sums_at l.table club);
}

abbrev pub decreases-loop-place : goal.decreases-loop-place
decreases-loop-place l = l.end - l.place
