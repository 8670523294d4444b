use Rattle.std.proofs.Common.{◌≡◌, ◌+◌, ◌-◌, ◌≤◌, ◌==◌}
use Rattle.flow_net.specs.inside.Flow.{IsWholeFlow, carried, enters, leaves}
use Rattle.flow_net.specs.inside.Cut.{capacity_of}
use Rattle.flow_net.specs.inside.Search.{IsSized}
use Rattle.flow_net.proofs.fill.fill.Given as goal

-- the flow stays whole, and more of it leaves the source unless it is still the first
abbrev pub invariant-more : goal.invariant-more
invariant-more l =
    let arcs = l.graph.arcs.items in
    record {
      sized : IsSized l.graph.nodes l.search;
      whole : IsWholeFlow arcs l.source l.sink l.flow;
      more : carried (leaves l.source) arcs l.fn.flow + carried (enters l.source) arcs l.flow
          ≤ carried (leaves l.source) arcs l.flow + carried (enters l.source) arcs l.fn.flow;
      first : carried (leaves l.source) arcs l.flow + carried (enters l.source) arcs l.fn.flow
          ≡ carried (leaves l.source) arcs l.fn.flow + carried (enters l.source) arcs l.flow
          → l.flow ≡ l.fn.flow;
    }

-- no more leaves the source than the arcs from it can carry
abbrev pub decreases-more : goal.decreases-more
decreases-more l =
    let arcs = l.graph.arcs.items in
    capacity_of (λ node. l.source == node) arcs + carried (enters l.source) arcs l.flow - carried
    (leaves l.source) arcs l.flow
