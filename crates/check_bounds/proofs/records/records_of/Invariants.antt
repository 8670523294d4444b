use Rattle.league_core.specs.game.ClubSets.{clubs_in}
use Rattle.check_bounds.proofs.WalkLemmas.{AreRecordsSoFar}
use Rattle.check_bounds.proofs.records.records_of.Given as goal

-- what each table has so far, and what is left of the matches, make the whole
abbrev pub invariant-loop-i : goal.invariant-loop-i
invariant-loop-i l =
    AreRecordsSoFar (clubs_in l.group) l.fixtures l.corners l.i l.records
