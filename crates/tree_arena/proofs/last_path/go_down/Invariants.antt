use Rattle.std.proofs.Common.{◌≡◌, ◌++◌, reverse, length}
use Rattle.tree_arena.proofs.last_path.go_down.Given as goal

abbrev pub invariant-loop-literal : goal.invariant-loop-literal
invariant-loop-literal l = l.hand ++ reverse l.zone_box ≡ l.fn.hand ++ reverse l.fn.zone_box

abbrev pub decreases-loop-literal : goal.decreases-loop-literal
decreases-loop-literal l = length l.hand
