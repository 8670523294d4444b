use Rattle.std.proofs.Common.{◌≡◌, ◌≤◌, length, take}
use Rattle.tree_arena.proofs.shorten.shorten.Given as goal

abbrev pub invariant-loop-literals : goal.invariant-loop-literals
invariant-loop-literals l =
    (l.depth ≤ length l.literals) × (take l.depth l.literals ≡ take l.depth l.fn.literals)

abbrev pub decreases-loop-literals : goal.decreases-loop-literals
decreases-loop-literals l = length l.literals
