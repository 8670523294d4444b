use Rattle.std.proofs.Common.{ℕ}
use Rattle.league_core.specs.game.Sums.{worth_among}
use Rattle.league_core.specs.game.ClubSets.{clubs_in}
use Rattle.tie_bound.specs.inside.Sums.{sums_at}
use Rattle.tie_bound.specs.inside.Boxes.{options_in_box}
use Rattle.tie_bound.proofs.SoFarLemmas.{IsSoFar}
use Rattle.tie_bound.proofs.table.add_all.Given as goal

-- each club's sums so far, and what is left of the matches, make its whole sums
abbrev pub invariant-loop-i : goal.invariant-loop-i
invariant-loop-i l =
    (club : ℕ) → IsSoFar l.fixtures (options_in_box l.zone_box) (worth_among (clubs_in l.group)) l.i
    club (sums_at l.table club)
