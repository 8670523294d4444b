use Rattle.std.proofs.Common.{◌*◌, length}
use Rattle.score_box.specs.inside.Totals.{AddsPairs, AreTotalsNear}
use Rattle.score_box.proofs.tables.Tables.of_group.Given as goal

-- the rows against the clubs so far are added
abbrev pub invariant-loop-rival : goal.invariant-loop-rival
invariant-loop-rival l = record {
  sums : AddsPairs l.self.pairs.items l.club l.yielded l.totals;
  near : AreTotalsNear (153000 * length l.yielded) l.totals;
}
