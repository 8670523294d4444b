-- What a caller sees of a network: its nodes and arcs, the flow that it holds, and between which
-- two nodes that flow is whole.
use Rattle.std.specs.Prelude.{◌==◌, ℕ, Bool, false, ◌&&◌, if◌then◌else◌, Option, None, Some, List}
use Rattle.std.specs.Prelude.{length, replicate}
use Rattle.flow_net.specs.declared.arcs.Arc.{Arc}
use Rattle.flow_net.specs.declared.ends.Ends.{Ends}

-- the network as a value: `room` is how many arcs it can have, and `ends` are the two nodes between
-- which its flow was started or found, or none while it has not been
pub record NetView : Type 0 where
  pub nodes : ℕ
  pub room : ℕ
  pub arcs : List Arc
  pub flow : List ℕ
  pub ends : Option Ends

-- the flow was started or found for these two nodes
abbrev pub is_between : Option Ends → ℕ → ℕ → Bool
is_between None source sink = false
is_between (Some ends) source sink = ends.source == source && ends.sink == sink

-- what is begun with for these two nodes: the flow that is held for them, or nothing on any arc
abbrev pub start_of : Option Ends → List ℕ → ℕ → ℕ → List ℕ
start_of ends flow source sink =
    if is_between ends source sink then flow else replicate (length flow) 0
