use Rattle.std.proofs.Common.{Ok}
use Rattle.par_check.specs.Places.{ReadsWhole}
use Rattle.par_check.proofs.side_by_side.read_together.Given as goal

-- what was read so far
abbrev pub invariant-loop-batch : goal.invariant-loop-batch
invariant-loop-batch g l = record { reads : ReadsWhole l.whole l.fn.from (Ok l.reached) }
