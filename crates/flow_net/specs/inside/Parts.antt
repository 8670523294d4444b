-- What the parts of a network keep.
use Rattle.std.specs.Prelude.{◌≤◌, length, vec_capacity}
use Rattle.std.specs.Option.{ForSome}
use Rattle.flow_net.specs.declared.network.Net.TheInside.{Inside}
use Rattle.flow_net.specs.inside.Flow.{IsWholeFlow, IsWithinArcs}
use Rattle.flow_net.specs.inside.Graph.{HasRoom, IsGraph}

-- the graph is right, has the room it was made with, and the flow is whole between its ends
pub record IsKept (net : Inside) : Type 0 where
  pub graph : IsGraph net.graph
  pub graph_room : HasRoom net.room net.graph
  pub flow_room : net.room ≤ vec_capacity net.flow
  pub fits : length net.graph.arcs.items ≤ net.room
  pub few : net.room ≤ 4294967295
  pub within : IsWithinArcs net.graph.arcs.items net.flow.items
  pub whole : ForSome net.ends (λ ends. IsWholeFlow net.graph.arcs.items ends.source ends.sink
      net.flow.items)
