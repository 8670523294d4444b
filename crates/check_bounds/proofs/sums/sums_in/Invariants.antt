use Rattle.league_core.specs.game.ClubSets.{clubs_in}
use Rattle.check_bounds.specs.inside.Terms.{worth_by}
use Rattle.check_bounds.specs.inside.Walks.{worth_near}
use Rattle.check_bounds.proofs.TableLemmas.{IsTableSoFar}
use Rattle.check_bounds.proofs.sums.sums_in.Given as goal

-- each club's sum so far, and what is left of the matches, make its whole sum
abbrev pub invariant-loop-i : goal.invariant-loop-i
invariant-loop-i l =
    IsTableSoFar (worth_near (clubs_in l.group) (worth_by l.kind)) l.fixtures l.corners l.i l.table
