use Rattle.std.proofs.Common.{◌≡◌, map}
use Rattle.depth_search.specs.inside.ZoneTrees.{new_node}
use Rattle.depth_search.proofs.zone_nodes.new_nodes.Given as goal

-- the nodes so far
abbrev pub invariant-loop-node : goal.invariant-loop-node
invariant-loop-node l = l.all.items ≡ map new_node l.yielded
