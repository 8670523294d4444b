use Rattle.std.proofs.Common.{◌≡◌, ℕ, ◌<◌, ◌≤◌, length, get_or}
use Rattle.tree_arena.specs.declared.node.Node.{Node}
use Rattle.tree_arena.specs.inside.Arena.{open_mark}
use Rattle.tree_arena.proofs.arena.last_open.Given as goal

-- none from here on is open
abbrev pub invariant-loop-place : goal.invariant-loop-place
invariant-loop-place l = record {
  within : l.place ≤ length l.list;
  none : (k : ℕ) (default : Node) → l.place ≤ k → k < length l.list
      → open_mark (get_or l.nodes (get_or l.list k 0) default).kind ≡ 0;
}

abbrev pub decreases-loop-place : goal.decreases-loop-place
decreases-loop-place l = l.place
