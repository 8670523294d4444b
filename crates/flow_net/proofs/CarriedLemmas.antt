-- What chosen arcs carry together.
use Rattle.std.proofs.Common.{◌≡◌, ℕ, zero, suc, ◌+◌, ◌*◌, ◌<◌, ◌≤◌, Bool, false, List, [], ◌∷◌}
use Rattle.std.proofs.Common.{length, get_or, take, sym, ap, ◌∙◌, inl, inr, arith, add-one}
use Rattle.std.proofs.lemmas.Bool.{cases_eq, cases_Bool, ne_eqb, eq-eqb}
use Rattle.std.proofs.lemmas.List.{take_all}
use Rattle.flow_net.specs.declared.arcs.Arc.{Arc}
use Rattle.flow_net.specs.declared.arcs.Direction.{Direction}
use Rattle.flow_net.specs.inside.Flow.{arc_at, carried}
use Rattle.flow_net.specs.inside.Direction.{tail_of}
use Rattle.flow_net.specs.inside.Lists.{IsNewest}
use Rattle.flow_net.specs.inside.Graph.{begins_at}
use Rattle.flow_net.proofs.ShareLemmas.{share}

module _ (chosen : Arc → Bool) where
  -- one arc more
  pub carried_more-suc : (arcs : List Arc) (flow : List ℕ) (place : ℕ) → place < length arcs
      → place < length flow → carried chosen (take (suc place) arcs) (take (suc place) flow)
      ≡ carried chosen (take place arcs) (take place flow) + share (chosen (arc_at arcs place))
      (get_or flow place 0)
  carried_more-suc [] flow place below below' = omega arith
  carried_more-suc (arc ∷ arcs) [] place below below' = omega arith
  carried_more-suc (arc ∷ arcs) (amount ∷ flow) zero below below' = omega arith
  carried_more-suc (arc ∷ arcs) (amount ∷ flow) (suc place) below below' =
      omega (arith, carried_more-suc arcs flow place (omega arith) (omega arith))

  pub carried_more : (arcs : List Arc) (flow : List ℕ) (place : ℕ) → place < length arcs
      → place < length flow → carried chosen (take (place + 1) arcs) (take (place + 1) flow)
      ≡ carried chosen (take place arcs) (take place flow) + share (chosen (arc_at arcs place))
      (get_or flow place 0)
  carried_more arcs flow place below below' =
      rw add-one (carried_more-suc arcs flow place below below')

  -- arcs that are not chosen add nothing
  pub carried_skip : (arcs : List Arc) (flow : List ℕ) (from count : ℕ) → from ≤ count
      → count ≤ length arcs → length flow ≡ length arcs
      → ((place : ℕ) → from ≤ place → place < count → chosen (arc_at arcs place) ≡ false)
      → carried chosen (take count arcs) (take count flow) ≡ carried chosen (take from arcs)
      (take from flow)
  carried_skip arcs flow from zero above below same none =
      let both : 0 ≡ from = omega arith in
      ap (λ n. carried chosen (take n arcs) (take n flow)) both
  carried_skip arcs flow from (suc count) above below same none =
      elim (cases_eq from (suc count)) [
        | inl all ↦ ap (λ n. carried chosen (take n arcs) (take n flow)) (sym all)
        | inr some ↦
            let more = carried_more-suc arcs flow count (omega arith) (omega arith) in
            let not_chosen : share (chosen (arc_at arcs count)) (get_or flow count 0) ≡ 0 =
            ap (λ b. share b (get_or flow count 0)) (none count (omega arith) (omega arith)) in
            let rest = carried_skip arcs flow from count (omega arith) (omega arith) same
            (λ place high low. none place high (omega arith)) in
            omega (arith, more, not_chosen, rest)
      ]

  -- a bound on each number bounds the whole
  pub carried_le : (most : ℕ) (arcs : List Arc) (flow : List ℕ)
      → ((place : ℕ) → get_or flow place 0 ≤ most) → carried chosen arcs flow ≤ length arcs * most
  carried_le most [] flow each = omega arith
  carried_le most (arc ∷ arcs) [] each = omega arith
  carried_le most (arc ∷ arcs) (amount ∷ flow) each =
      let rest = carried_le most arcs flow (λ place. each (suc place)) in
      let here : amount ≤ most = each 0 in
      elim (cases_Bool (chosen arc)) [
        | inl taken ↦ omega (arith, rest, here, ap (λ b. share b amount) taken)
        | inr left ↦ omega (arith, rest, here, ap (λ b. share b amount) left)
      ]

-- from the newest arc at a node to the next older one
pub carried_next : (way : Direction) (arcs : List Arc) (flow : List ℕ) (node place older : ℕ)
    → place < length arcs → length flow ≡ length arcs → tail_of way (arc_at arcs place) ≡ node
    → IsNewest way arcs node place older
    → carried (begins_at way node) (take (place + 1) arcs) (take (place + 1) flow) ≡ carried
    (begins_at way node) (take older arcs) (take older flow) + get_or flow place 0
carried_next way arcs flow node place older below same at_node newest =
    let chosen = begins_at way node in
    let more = carried_more chosen arcs flow place below (omega arith) in
    let here : share (chosen (arc_at arcs place)) (get_or flow place 0) ≡ get_or flow place 0 =
    ap (λ b. share b (get_or flow place 0))
    (eq-eqb (tail_of way (arc_at arcs place)) node at_node) in
    let rest = carried_skip chosen arcs flow older place newest.among (omega arith) same
    (λ at high low. ne_eqb (tail_of way (arc_at arcs at)) node (newest.newest at high low)) in
    omega (arith, more, here, rest)

-- all arcs at a node are those up to the newest
pub carried_newest : (way : Direction) (arcs : List Arc) (flow : List ℕ) (node newest : ℕ)
    → length flow ≡ length arcs → IsNewest way arcs node (length arcs) newest
    → carried (begins_at way node) (take newest arcs) (take newest flow) ≡ carried
    (begins_at way node) arcs flow
carried_newest way arcs flow node name same newest =
    let chosen = begins_at way node in
    sym (carried_skip chosen arcs flow name (length arcs) newest.among (omega arith) same
    (λ at high low. ne_eqb (tail_of way (arc_at arcs at)) node (newest.newest at high low)))
    ∙ ap (λ xs. carried chosen xs (take (length arcs) flow))
    (take_all (length arcs) arcs (omega arith))
    ∙ ap (λ xs. carried chosen arcs xs) (take_all (length arcs) flow (omega arith))

-- the newest arc at a node is among those up to it
pub le-carried_newest : (way : Direction) (arcs : List Arc) (flow : List ℕ) (node place : ℕ)
    → place < length arcs → length flow ≡ length arcs → tail_of way (arc_at arcs place) ≡ node
    → get_or flow place 0 ≤ carried (begins_at way node) (take (place + 1) arcs)
    (take (place + 1) flow)
le-carried_newest way arcs flow node place below same at_node =
    let chosen = begins_at way node in
    let more = carried_more chosen arcs flow place below (omega arith) in
    let here : share (chosen (arc_at arcs place)) (get_or flow place 0) ≡ get_or flow place 0 =
    ap (λ b. share b (get_or flow place 0))
    (eq-eqb (tail_of way (arc_at arcs place)) node at_node) in
    omega (arith, more, here)
