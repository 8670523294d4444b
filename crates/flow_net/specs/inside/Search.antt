-- What a search from the source has reached: a queue of nodes, each but the first reached by a step
-- over an arc with room from a node earlier in the queue.
use Rattle.std.specs.Prelude.{◌≡◌, ◌≢◌, ℕ, ◌-◌, ◌<◌, ◌≤◌, Bool, true, false, if◌then◌else◌, List}
use Rattle.std.specs.Prelude.{length, slice_index, slice_index_or, sum_by, vec_capacity}
use Rattle.flow_net.specs.declared.arcs.Arc.{Arc}
use Rattle.flow_net.specs.declared.arcs.Direction.{Direction}
use Rattle.flow_net.specs.declared.arcs.Direction.TheVariants.{Along}
use Rattle.flow_net.specs.declared.graph.Graph.{Graph}
use Rattle.flow_net.specs.declared.search.Reach.{Reach}
use Rattle.flow_net.specs.declared.search.Search.{Search}
use Rattle.flow_net.specs.inside.Flow.{arc_at}
use Rattle.flow_net.specs.inside.Cut.{marked}
use Rattle.flow_net.specs.inside.Direction.{tail_of, head_of, room_of}

-- what stands for an entry past the end of the queue
abbrev pub no_reach : Reach
no_reach = record { node = 0; before = 0; arc = 0; way = Along; room = 0 }

-- the entry at a place of the queue
abbrev pub reached_at : List Reach → ℕ → Reach
reached_at queue place = slice_index_or queue place no_reach

-- how many nodes are marked
abbrev pub mark_count : List Bool → ℕ
mark_count marks = sum_by (λ mark. if mark then 1 else 0) marks

-- so much more can be sent over the arc from the one node to the other
pub record IsOpen (arcs : List Arc) (flow : List ℕ) (way : Direction)
    (arc amount from to : ℕ) : Type 0 where
  pub in_range : arc < length arcs
  pub begins : tail_of way (arc_at arcs arc) ≡ from
  pub ends : head_of way (arc_at arcs arc) ≡ to
  pub room : amount ≤ room_of way (arc_at arcs arc) (slice_index flow arc)

-- an entry after the first was reached from an earlier one, and has room for no more than that
pub record IsReached (arcs : List Arc) (flow : List ℕ) (queue : List Reach)
    (place : ℕ) : Type 0 where
  pub earlier : (reached_at queue place).before < place
  pub step : IsOpen arcs flow (reached_at queue place).way (reached_at queue place).arc
      (reached_at queue place).room (reached_at queue (reached_at queue place).before).node
      (reached_at queue place).node
  pub narrows : (reached_at queue place).room ≤
      (reached_at queue (reached_at queue place).before).room

-- the marks are those of the nodes in the queue, each reached once, and no arc serves two steps
pub record IsSearch (arcs : List Arc) (flow : List ℕ) (marks : List Bool)
    (queue : List Reach) : Type 0 where
  pub some : 0 < length queue
  pub counted : mark_count marks ≡ length queue
  pub all_marked : (place : ℕ) → place < length queue
      → marked marks (reached_at queue place).node ≡ true
  pub listed : (node : ℕ) → marked marks node ≡ true → (place : ℕ) × (place < length queue)
      × ((reached_at queue place).node ≡ node)
  pub reached : (place : ℕ) → 0 < place → place < length queue → IsReached arcs flow queue place
  pub wide : (place : ℕ) → place < length queue → 0 < (reached_at queue place).room
  pub apart : (older newer : ℕ) → 0 < older → older < newer → newer < length queue
      → (reached_at queue older).arc ≢ (reached_at queue newer).arc

-- the search is one of this flow through the graph
abbrev pub IsSearchOf : Graph → List ℕ → Search → Type 0
IsSearchOf graph flow search =
    IsSearch graph.arcs.items flow search.reached.items search.queue.items

-- the node has been reached
abbrev pub has_reached : Search → ℕ → Bool
has_reached search node = marked search.reached.items node

-- the node at a place of the queue
abbrev pub node_at : Search → ℕ → ℕ
node_at search place = (reached_at search.queue.items place).node

-- the node reached last
abbrev pub last_node : Search → ℕ
last_node search = node_at search (length search.queue.items - 1)

-- nothing that was reached is lost
pub record IsGrown (old new : Search) : Type 0 where
  pub nodes : length new.reached.items ≡ length old.reached.items
  pub marks : (node : ℕ) → marked old.reached.items node ≡ true
      → marked new.reached.items node ≡ true
  pub longer : length old.queue.items ≤ length new.queue.items
  pub entries : (place : ℕ) → place < length old.queue.items
      → reached_at new.queue.items place ≡ reached_at old.queue.items place
  pub capacity : vec_capacity old.queue ≤ vec_capacity new.queue

-- the queue has room for each node
pub record IsSized (nodes : ℕ) (search : Search) : Type 0 where
  pub one_each : length search.reached.items ≡ nodes
  pub room : nodes ≤ vec_capacity search.queue

-- each step with room from the node over an arc from the given one on leads to a marked node
pub record IsScanned (arcs : List Arc) (flow : List ℕ) (way : Direction) (marks : List Bool)
    (node low : ℕ) : Type 0 where
  pub reached : (arc : ℕ) → low ≤ arc → arc < length arcs → tail_of way (arc_at arcs arc) ≡ node
      → 0 < room_of way (arc_at arcs arc) (slice_index flow arc)
      → marked marks (head_of way (arc_at arcs arc)) ≡ true

-- the marks hold the source and not the sink, and no step with room leads out of them
pub record IsClosed (arcs : List Arc) (flow : List ℕ) (source sink : ℕ)
    (marks : List Bool) : Type 0 where
  pub has_source : marked marks source ≡ true
  pub lacks_sink : marked marks sink ≡ false
  pub steps : (way : Direction) (arc : ℕ) → arc < length arcs
      → marked marks (tail_of way (arc_at arcs arc)) ≡ true
      → 0 < room_of way (arc_at arcs arc) (slice_index flow arc)
      → marked marks (head_of way (arc_at arcs arc)) ≡ true
