use Rattle.std.proofs.Common.{◌≡◌, true}
use Rattle.league_core.specs.game.ClubSets.{clubs_in}
use Rattle.league_core.specs.game.Sums.{has_club}
use Rattle.near_bound.proofs.leads.Leads.worst_of.Given as goal

abbrev pub invariant-loop-club : goal.invariant-loop-club
invariant-loop-club l = record { among : has_club (clubs_in l.fn.clubs) l.worst ≡ true }
