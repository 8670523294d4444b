use Rattle.std.proofs.Common.{◌+◌, ◌*◌, length}
use Rattle.worker_gate.proofs.slots.+fn-run_all-join+arg2+fn-run_all-join+arg3+run_all.Given as goal

-- the left half is fewer
abbrev pub decreases-join+arg2 : goal.decreases-join+arg2
decreases-join+arg2 g l = 2 * length l.left.now + 1

-- and so is the right half
abbrev pub decreases-join+arg3 : goal.decreases-join+arg3
decreases-join+arg3 g l = 2 * length l.right.now + 1

-- so many workers are to begin
abbrev pub decreases-run_all : goal.decreases-run_all
decreases-run_all g l = 2 * length l.slots.now
