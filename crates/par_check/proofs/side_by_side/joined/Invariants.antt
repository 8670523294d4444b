use Rattle.std.proofs.Common.{Ok}
use Rattle.par_check.specs.Places.{ReadsWhole}
use Rattle.par_check.proofs.side_by_side.joined.Given as goal

-- what was read so far
abbrev pub invariant-loop-at : goal.invariant-loop-at
invariant-loop-at l = record { reads : ReadsWhole l.whole l.fn.from (Ok l.reached) }
