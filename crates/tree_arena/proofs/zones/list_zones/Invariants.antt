use Rattle.std.proofs.Common.{drop, reverse}
use Rattle.league_core.specs.search.Trees.{zones_of}
use Rattle.league_core.specs.search.TreeLists.{tree_of, tree_or_leaf}
use Rattle.tree_arena.specs.inside.Calls.{literals_of}
use Rattle.tree_arena.specs.inside.Steps.{ListsZones}
use Rattle.tree_arena.proofs.zones.list_zones.Given as goal

abbrev pub invariant-loop-node : goal.invariant-loop-node
invariant-loop-node l =
    ListsZones l.zone_box (drop l.node-index l.list) (reverse l.steps.items)
    (literals_of l.found.items) (zones_of (tree_or_leaf (tree_of l.list)))
