use Rattle.league_core.specs.game.Sums.{worth_to}
use Rattle.check_bounds.specs.inside.Terms.{worth_by}
use Rattle.check_bounds.proofs.TableLemmas.{IsTableSoFar}
use Rattle.check_bounds.proofs.table.sums_of.Given as goal

-- each club's sums so far, and what is left of the matches, make its whole sums
abbrev pub invariant-loop-i : goal.invariant-loop-i
invariant-loop-i l =
    IsTableSoFar (worth_to (worth_by l.kind)) l.fixtures l.corners l.i l.table
