-- The arcs of a network with the lists by which a search finds them.
use Rattle.std.specs.Prelude.{◌≡◌, ◌==◌, ℕ, ◌<◌, ◌≤◌, Bool, length, vec_capacity}
use Rattle.flow_net.specs.declared.arcs.Arc.{Arc}
use Rattle.flow_net.specs.declared.arcs.Direction.{Direction}
use Rattle.flow_net.specs.declared.arcs.Direction.TheVariants.{Along, Against}
use Rattle.flow_net.specs.declared.graph.Graph.{Graph}
use Rattle.flow_net.specs.inside.Flow.{arc_at}
use Rattle.flow_net.specs.inside.Direction.{tail_of}
use Rattle.flow_net.specs.inside.Lists.{AreLists}

-- a step over the arc begins at the node
abbrev pub begins_at : Direction → ℕ → Arc → Bool
begins_at way node arc = tail_of way arc == node

-- both ends of the arc are nodes of the network
pub record HasEnds (nodes : ℕ) (arc : Arc) : Type 0 where
  pub from : arc.from < nodes
  pub to : arc.to < nodes

-- each arc has its ends, and the lists at each node are those of its arcs
pub record IsGraph (graph : Graph) : Type 0 where
  pub few_nodes : graph.nodes < 65536
  pub few : length graph.arcs.items ≤ 4294967295
  pub ends : (place : ℕ) → place < length graph.arcs.items
      → HasEnds graph.nodes (arc_at graph.arcs.items place)
  pub leaving : AreLists Along graph.arcs.items graph.leaving.first.items graph.leaving.next.items
  pub entering : AreLists Against graph.arcs.items graph.entering.first.items
      graph.entering.next.items
  pub leaving_nodes : length graph.leaving.first.items ≡ graph.nodes
  pub entering_nodes : length graph.entering.first.items ≡ graph.nodes

-- so many arcs fit without more memory
pub record HasRoom (room : ℕ) (graph : Graph) : Type 0 where
  pub arcs : room ≤ vec_capacity graph.arcs
  pub leaving : room ≤ vec_capacity graph.leaving.next
  pub entering : room ≤ vec_capacity graph.entering.next
