-- The best so far is one of the rivals.
use Rattle.std.proofs.Common.{◌≡◌, true}
use Rattle.league_core.specs.game.Sums.{has_club}
use Rattle.league_core.specs.game.ClubSets.{clubs_in}
use Rattle.branch_rules.proofs.rivals.best_rival.Given as goal

abbrev pub invariant-loop-rival : goal.invariant-loop-rival
invariant-loop-rival l = has_club (clubs_in l.fn.rivals) l.best.club ≡ true
