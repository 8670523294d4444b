use Rattle.std.proofs.Common.{◌≡◌, ◌≤◌, length, drop, reverse, Some}
use Rattle.league_core.specs.search.TreeLists.{trees_of}
use Rattle.reference_programs.proofs.boxed.BoxedTree.of_nodes.Given as goal

abbrev pub invariant-loop-at : goal.invariant-loop-at
invariant-loop-at l =
    (l.at ≤ length l.nodes.items)
    × (trees_of (drop l.at l.nodes.items) ≡ Some (reverse l.trees.items))

abbrev pub decreases-loop-at : goal.decreases-loop-at
decreases-loop-at l = l.at
