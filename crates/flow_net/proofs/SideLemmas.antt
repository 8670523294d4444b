-- Sums over the nodes of a side.
use Rattle.std.proofs.Common.{◌≡◌, ◌≢◌, ◌==◌, ℕ, zero, suc, ◌+◌, ◌<◌, ◌≤◌, Bool, true, List, []}
use Rattle.std.proofs.Common.{◌∷◌, length, sym, ap, ◌∙◌, refl, inl, inr, arith}
use Rattle.std.proofs.lemmas.Bool.{cases_eq, eq-eqb, ne_eqb}
use Rattle.flow_net.specs.declared.arcs.Arc.{Arc}
use Rattle.flow_net.specs.declared.arcs.Direction.{Direction}
use Rattle.flow_net.specs.inside.Flow.{arc_at, carried}
use Rattle.flow_net.specs.inside.Direction.{tail_of}
use Rattle.flow_net.specs.inside.Graph.{HasEnds, begins_at}
use Rattle.flow_net.proofs.ArcLemmas.{tail_in_range}
use Rattle.flow_net.proofs.ShareLemmas.{share, share-add, share-same, share-zero}

-- a number of each node, added over those of the side among the first so many
abbrev pub over : ℕ → (ℕ → Bool) → (ℕ → ℕ) → ℕ
over zero side number = 0
over (suc nodes) side number = share (side nodes) (number nodes) + over nodes side number

module _ (side : ℕ → Bool) where
  -- the sum of sums is the sum of both
  pub over-add : (nodes : ℕ) (f g : ℕ → ℕ)
      → over nodes side (λ node. f node + g node) ≡ over nodes side f + over nodes side g
  over-add zero f g = refl
  over-add (suc nodes) f g = omega
      (arith, share-add (side nodes) (f nodes) (g nodes), over-add nodes f g)

  -- nothing at each node is nothing
  pub over-zero : (nodes : ℕ) → over nodes side (λ node. 0) ≡ 0
  over-zero zero = refl
  over-zero (suc nodes) = omega (arith, share-zero (side nodes), over-zero nodes)

  -- numbers that agree on the side have the same sum
  pub over-agree : (nodes : ℕ) (f g : ℕ → ℕ)
      → ((node : ℕ) → node < nodes → side node ≡ true → f node ≡ g node)
      → over nodes side f ≡ over nodes side g
  over-agree zero f g agree = refl
  over-agree (suc nodes) f g agree =
      omega (
        arith,
        share-same (side nodes) (f nodes) (g nodes) (agree nodes (omega arith)),
        over-agree nodes f g (λ node below. agree node (omega arith)),
      )

  -- an amount at a node past the counted ones is not counted
  over-past : (nodes at amount : ℕ) → nodes ≤ at
      → over nodes side (λ node. share (at == node) amount) ≡ 0
  over-past nodes at amount past =
      over-agree nodes (λ node. share (at == node) amount) (λ node. 0)
      (λ node below on_side. ap (λ b. share b amount) (ne_eqb at node (λ same. omega arith)))
      ∙ over-zero nodes

  -- an amount at one node counts if the side has the node
  pub over-one : (nodes at amount : ℕ) → at < nodes
      → over nodes side (λ node. share (at == node) amount) ≡ share (side at) amount
  over-one zero at amount below = omega arith
  over-one (suc nodes) at amount below =
      elim (cases_eq at nodes) [
        | inl last ↦
            let here : share (at == nodes) amount ≡ amount =
            ap (λ b. share b amount) (eq-eqb at nodes last) in
            omega (
              arith,
              over-past nodes at amount (omega arith),
              ap (share (side nodes)) here,
              ap (λ (n : ℕ). share (side n) amount) last,
            )
        | inr older ↦
            let here : share (at == nodes) amount ≡ 0 =
            ap (λ b. share b amount) (ne_eqb at nodes older) in
            omega (
              arith,
              over-one nodes at amount (omega arith),
              ap (share (side nodes)) here,
              share-zero (side nodes),
            )
      ]

  -- what the arcs at each node of the side carry, added up, is what the arcs with that end on the
  -- side carry
  pub over-carried : (way : Direction) (nodes : ℕ) (arcs : List Arc) (flow : List ℕ)
      → ((place : ℕ) → place < length arcs → HasEnds nodes (arc_at arcs place))
      → over nodes side (λ node. carried (begins_at way node) arcs flow) ≡ carried
      (λ arc. side (tail_of way arc)) arcs flow
  over-carried way nodes [] flow ends = over-zero nodes
  over-carried way nodes (arc ∷ arcs) [] ends = over-zero nodes
  over-carried way nodes (arc ∷ arcs) (amount ∷ flow) ends =
      omega (
        arith,
        over-add nodes (λ node. share (tail_of way arc == node) amount)
            (λ node. carried (begins_at way node) arcs flow),
        over-one nodes (tail_of way arc) amount (tail_in_range way arc (ends 0 (omega arith))),
        over-carried way nodes arcs flow (λ place below. ends (suc place) (omega arith)),
      )

  -- numbers that agree on the side but at one node differ in their sums by that node
  pub over-but_one : (nodes at : ℕ) (f g : ℕ → ℕ) → at < nodes → side at ≡ true
      → ((node : ℕ) → side node ≡ true → node ≢ at → f node ≡ g node)
      → over nodes side f + g at ≡ over nodes side g + f at
  over-but_one zero at f g below on_side agree = absurd (omega arith)
  over-but_one (suc nodes) at f g below on_side agree =
      elim (cases_eq at nodes) [
        | inl last ↦
            let whole = over-agree nodes f g
            (λ node lower on. agree node on (λ same. omega arith)) in
            let here : side nodes ≡ true = ap side (sym last) ∙ on_side in
            omega (
              arith,
              whole,
              ap (λ b. share b (f nodes)) here,
              ap (λ b. share b (g nodes)) here,
              ap f last,
              ap g last,
            )
        | inr older ↦
            omega (
              arith,
              over-but_one nodes at f g (omega arith) on_side agree,
              share-same (side nodes) (f nodes) (g nodes)
                  (λ on. agree nodes on (λ same. older (sym same))),
            )
      ]
