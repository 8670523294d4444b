-- So far the literals are the same.
use Rattle.std.proofs.Common.{◌≡◌, take}
use Rattle.branch_rules.proofs.worker.common_prefix.Given as goal

abbrev pub invariant-loop-k : goal.invariant-loop-k
invariant-loop-k l = take l.k l.zone ≡ take l.k l.other
