-- Flows through a network: what its arcs carry. Nodes and arcs are numbered from 0.
use Rattle.std.specs.Prelude.{◌≡◌, ◌≢◌, ◌==◌, ℕ, ◌+◌, ◌<◌, ◌≤◌, Bool, if◌then◌else◌, List, [], ◌∷◌}
use Rattle.std.specs.Prelude.{length, slice_index, slice_index_or}
use Rattle.flow_net.specs.declared.arcs.Arc.{Arc}

-- what stands for an arc past the last one
abbrev pub no_arc : Arc
no_arc = record { from = 0; to = 0; capacity = 0 }

-- the arc at a place
abbrev pub arc_at : List Arc → ℕ → Arc
arc_at arcs place = slice_index_or arcs place no_arc

-- what the chosen arcs carry together
abbrev pub carried : (Arc → Bool) → List Arc → List ℕ → ℕ
carried chosen [] flow = 0
carried chosen (arc ∷ arcs) [] = 0
carried chosen (arc ∷ arcs) (amount ∷ flow) =
    (if chosen arc then amount else 0) + carried chosen arcs flow

-- the arc leads away from the node
abbrev pub leaves : ℕ → Arc → Bool
leaves node arc = arc.from == node

-- the arc leads to the node
abbrev pub enters : ℕ → Arc → Bool
enters node arc = arc.to == node

-- one number for each arc, at most its capacity
pub record IsWithinArcs (arcs : List Arc) (flow : List ℕ) : Type 0 where
  pub one_each : length flow ≡ length arcs
  pub within : (place : ℕ) → place < length arcs
      → slice_index flow place ≤ (arc_at arcs place).capacity

-- a whole flow between two nodes: every other node passes on what it takes
pub record IsWholeFlow (arcs : List Arc) (source sink : ℕ) (flow : List ℕ) : Type 0 where
  pub within : IsWithinArcs arcs flow
  pub passed_on : (node : ℕ) → node ≢ source → node ≢ sink
      → carried (leaves node) arcs flow ≡ carried (enters node) arcs flow

-- a whole flow of a value: so much leaves the source, and reaches the sink, beyond what comes back
pub record IsFlow (arcs : List Arc) (source sink : ℕ) (flow : List ℕ) (value : ℕ) : Type 0 where
  pub whole : IsWholeFlow arcs source sink flow
  pub sent : carried (leaves source) arcs flow ≡ carried (enters source) arcs flow + value
  pub received : carried (enters sink) arcs flow ≡ carried (leaves sink) arcs flow + value
