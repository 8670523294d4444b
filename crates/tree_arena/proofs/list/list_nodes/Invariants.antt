use Rattle.std.proofs.Common.{reverse}
use Rattle.league_core.specs.search.Trees.{preorder}
use Rattle.tree_arena.specs.inside.Arena.{tree_below, pending_count}
use Rattle.tree_arena.specs.inside.Steps.{from_next}
use Rattle.tree_arena.proofs.VisitLemmas.{ListsNodes}
use Rattle.tree_arena.proofs.list.list_nodes.Given as goal

abbrev pub invariant-loop-next : goal.invariant-loop-next
invariant-loop-next l =
    ListsNodes l.nodes (from_next l.next (reverse l.stack.items)) l.found.items
    (preorder (tree_below l.nodes 0))

abbrev pub decreases-loop-next : goal.decreases-loop-next
decreases-loop-next l = pending_count l.nodes (from_next l.next (reverse l.stack.items))
