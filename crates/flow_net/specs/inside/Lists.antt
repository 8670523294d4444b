-- For each node the list of the arcs that have it at one end, the newest first. Arcs are named by
-- one more than their place, and 0 is none.
use Rattle.std.specs.Prelude.{◌≡◌, ◌≢◌, ℕ, ◌+◌, ◌<◌, ◌≤◌, List, length, slice_index}
use Rattle.flow_net.specs.declared.arcs.Arc.{Arc}
use Rattle.flow_net.specs.declared.arcs.Direction.{Direction}
use Rattle.flow_net.specs.inside.Flow.{arc_at}
use Rattle.flow_net.specs.inside.Direction.{tail_of}

-- the last arc at the node among the first so many arcs, or none
pub record IsNewest (way : Direction) (arcs : List Arc) (node count name : ℕ) : Type 0 where
  pub among : name ≤ count
  pub at_node : (place : ℕ) → place + 1 ≡ name → tail_of way (arc_at arcs place) ≡ node
  pub newest : (place : ℕ) → name ≤ place → place < count → tail_of way (arc_at arcs place) ≢ node

-- each list begins at its newest arc, and goes on from each arc to the next older one
pub record AreLists (way : Direction) (arcs : List Arc) (first next : List ℕ) : Type 0 where
  pub one_each : length next ≡ length arcs
  pub begins : (node : ℕ) → node < length first
      → IsNewest way arcs node (length arcs) (slice_index first node)
  pub goes_on : (place : ℕ) → place < length arcs
      → IsNewest way arcs (tail_of way (arc_at arcs place)) place (slice_index next place)
