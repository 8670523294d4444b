-- Cuts of a network: sides that have the source and not the sink.
use Rattle.std.specs.Prelude.{◌≡◌, ℕ, ◌≤◌, Bool, true, false, ◌&&◌, not, if◌then◌else◌, List}
use Rattle.std.specs.Prelude.{sum_by, slice_index_or}
use Rattle.flow_net.specs.declared.arcs.Arc.{Arc}
use Rattle.flow_net.specs.inside.Flow.{IsFlow}

-- the arc leads out of the side
abbrev pub crosses : (ℕ → Bool) → Arc → Bool
crosses side arc = side arc.from && not (side arc.to)

-- what the arcs that lead out of the side can carry together
abbrev pub capacity_of : (ℕ → Bool) → List Arc → ℕ
capacity_of side arcs = sum_by (λ arc. if crosses side arc then arc.capacity else 0) arcs

-- the side of a cut has the source and not the sink
pub record IsCut (source sink : ℕ) (side : ℕ → Bool) : Type 0 where
  pub has_source : side source ≡ true
  pub lacks_sink : side sink ≡ false

-- the least cut: none has less capacity, and each of the same capacity has all of this side
pub record IsLeastCut (arcs : List Arc) (source sink capacity : ℕ) (side : ℕ → Bool) : Type 0 where
  pub cut : IsCut source sink side
  pub value : capacity ≡ capacity_of side arcs
  pub none_less : (other : ℕ → Bool) → IsCut source sink other → capacity ≤ capacity_of other arcs
  pub contained : (other : ℕ → Bool) → IsCut source sink other → capacity_of other arcs ≡ capacity
      → (node : ℕ) → side node ≡ true → other node ≡ true

-- the nodes that a list marks
abbrev pub marked : List Bool → ℕ → Bool
marked marks node = slice_index_or marks node false

-- no flow is greater than any cut
abbrev pub NoFlowExceedsACut : Type 0
NoFlowExceedsACut = (arcs : List Arc) (source sink : ℕ) (flow : List ℕ) (value : ℕ)
    (side : ℕ → Bool) → IsFlow arcs source sink flow value → IsCut source sink side
    → value ≤ capacity_of side arcs
