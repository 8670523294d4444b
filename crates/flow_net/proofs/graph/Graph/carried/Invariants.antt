use Rattle.std.proofs.Common.{◌≡◌, ◌+◌, ◌≤◌, take, length}
use Rattle.flow_net.specs.inside.Flow.{carried}
use Rattle.flow_net.specs.inside.Lists.{IsNewest}
use Rattle.flow_net.specs.inside.Graph.{begins_at}
use Rattle.flow_net.proofs.graph.Graph.carried.Given as goal

-- what is added up, and what the arcs before the named one carry, make up the whole
abbrev pub invariant-loop-name : goal.invariant-loop-name
invariant-loop-name l = record {
  named : l.name ≤ length l.self.arcs.items;
  newest : IsNewest l.way l.self.arcs.items l.node l.name l.name;
  whole : l.total + carried (begins_at l.way l.node) (take l.name l.self.arcs.items)
      (take l.name l.flow) ≡ carried (begins_at l.way l.node) l.self.arcs.items l.flow;
}

abbrev pub decreases-loop-name : goal.decreases-loop-name
decreases-loop-name l = l.name
