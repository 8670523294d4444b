use Rattle.league_core.specs.game.ClubSets.{clubs_in}
use Rattle.league_core.specs.inside.KeptClubs.{AreKept}
use Rattle.league_core.proofs.club_set.ClubSet.keep.Given as goal

-- of the clubs seen those are found that the test keeps
abbrev pub invariant-loop-club : goal.invariant-loop-club
invariant-loop-club g l = AreKept (goal.F-post g l.test) l.yielded (clubs_in l.found)
