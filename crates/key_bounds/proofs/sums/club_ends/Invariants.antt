use Rattle.league_core.specs.search.Options.{options_in}
use Rattle.key_bounds.proofs.WalkLemmas.{AreEndsSoFar}
use Rattle.key_bounds.proofs.sums.club_ends.Given as goal

-- the sums so far, and what is left of the matches, make the whole sums
abbrev pub invariant-loop-i : goal.invariant-loop-i
invariant-loop-i l =
    AreEndsSoFar l.fixtures
    (options_in l.zone_box.sheet l.zone_box.season l.zone_box.zone) l.club l.i l.sums
