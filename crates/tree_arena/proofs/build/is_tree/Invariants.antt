use Rattle.std.proofs.Common.{◌+◌, ◌≤◌, length}
use Rattle.tree_arena.proofs.ListLemmas.{ReadsTrees}
use Rattle.tree_arena.proofs.build.is_tree.Given as goal

abbrev pub invariant-loop-at : goal.invariant-loop-at
invariant-loop-at l = record {
  within : l.trees + l.at ≤ length l.nodes;
  reads : ReadsTrees l.nodes l.at l.trees;
}

abbrev pub decreases-loop-at : goal.decreases-loop-at
decreases-loop-at l = l.at
