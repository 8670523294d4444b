-- How a flow changes when more is sent from a node to a node.
use Rattle.std.specs.Prelude.{◌≡◌, ◌==◌, ℕ, ◌+◌, if◌then◌else◌, List}
use Rattle.flow_net.specs.declared.arcs.Arc.{Arc}
use Rattle.flow_net.specs.inside.Flow.{carried, enters, leaves}

-- what leaves a node, less what enters it, rises by the amount at the one end, falls by it at the
-- other, and stays at every other node
pub record IsMoved (arcs : List Arc) (old new : List ℕ) (from to amount : ℕ) : Type 0 where
  pub balance : (node : ℕ) → carried (leaves node) arcs new + carried (enters node) arcs old +
      (if to == node then amount else 0) ≡ carried (leaves node) arcs old + carried
      (enters node) arcs new + (if from == node then amount else 0)
