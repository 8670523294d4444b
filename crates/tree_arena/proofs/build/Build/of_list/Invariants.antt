use Rattle.std.proofs.Common.{List, ℕ, length, drop}
use Rattle.league_core.specs.search.TreeLists.{tree_of, tree_or_leaf}
use Rattle.tree_arena.proofs.BuildLemmas.{IsBuilding}
use Rattle.tree_arena.proofs.OrderLemmas.{IsOrdered}
use Rattle.tree_arena.proofs.build.Build.of_list.Given as goal

abbrev pub invariant-loop-node : goal.invariant-loop-node
invariant-loop-node l = record {
  opens : List ℕ;
  building : IsBuilding (tree_or_leaf (tree_of l.list)) (length l.list) (drop l.node-index l.list)
      l.build.nodes.items l.build.places.items opens l.build.lent.items;
  order : IsOrdered l.build.nodes.items l.build.places.items l.build.live.items opens
      l.build.lent.items;
}
