use Rattle.check_bounds.proofs.TableLemmas.{AreRanksBelow}
use Rattle.check_bounds.proofs.table.ranks_of.Given as goal

-- the clubs passed have their ranks
abbrev pub invariant-loop-club : goal.invariant-loop-club
invariant-loop-club l = AreRanksBelow l.sheet l.table l.club
