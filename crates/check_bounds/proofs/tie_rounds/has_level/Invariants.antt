use Rattle.std.proofs.Common.{◌≡◌, ◌<◌, ℕ, true, false}
use Rattle.league_core.specs.game.Sums.{has_club}
use Rattle.league_core.specs.game.ClubSets.{clubs_in}
use Rattle.league_core.specs.search.SureOrder.{is_level}
use Rattle.check_bounds.specs.inside.Steps.{sure_at}
use Rattle.check_bounds.proofs.tie_rounds.has_level.Given as goal

-- none of the clubs passed
abbrev pub invariant-loop-rival : goal.invariant-loop-rival
invariant-loop-rival l =
    (x : ℕ) → x < l.rival → has_club (clubs_in l.rivals) x ≡ true
    → is_level (sure_at l.answers x) ≡ false
