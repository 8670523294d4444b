-- Flow and cut: across any cut goes the value, so no flow is greater than a cut, and a cut that no
-- step with room leads out of has the value of the flow.
use Rattle.std.proofs.Common.{◌≡◌, ◌≢◌, ◌==◌, ℕ, zero, suc, ◌+◌, ◌-◌, ◌<◌, ◌≤◌, Bool, true, false}
use Rattle.std.proofs.Common.{◌&&◌, not, List, [], ◌∷◌, length, get_or, sym, ap, ◌∙◌, refl, arith}
use Rattle.std.proofs.lemmas.Bool.{both_ways, eq-eqb, ne_eqb, and_from, and_parts, not-true}
use Rattle.std.proofs.lemmas.Bool.{true_from_ne_false}
use Rattle.flow_net.specs.declared.arcs.Arc.{Arc}
use Rattle.flow_net.specs.declared.arcs.Direction.{Direction}
use Rattle.flow_net.specs.declared.arcs.Direction.TheVariants.{Along, Against}
use Rattle.flow_net.specs.inside.Flow.{IsFlow, IsWholeFlow, arc_at, carried, enters, leaves}
use Rattle.flow_net.specs.inside.Cut.{IsCut, IsLeastCut, NoFlowExceedsACut, capacity_of, crosses}
use Rattle.flow_net.specs.inside.Cut.{marked}
use Rattle.flow_net.specs.inside.Direction.{head_of, room_of, tail_of}
use Rattle.flow_net.specs.inside.Graph.{HasEnds}
use Rattle.flow_net.specs.declared.search.Reach.{Reach}
use Rattle.flow_net.specs.inside.Search.{IsClosed, IsSearch, reached_at}
use Rattle.flow_net.proofs.ShareLemmas.{share}
use Rattle.flow_net.proofs.CapacityLemmas.{carried-le-limit, carried_full, carried_none}
use Rattle.flow_net.proofs.CapacityLemmas.{full_from_carried, none_from_carried}
use Rattle.flow_net.proofs.SideLemmas.{over-but_one, over-carried}
use Rattle.league_core.proofs.plain.Numbers.{eqb-swap}

-- the arc leads into the side
abbrev pub comes_back : (ℕ → Bool) → Arc → Bool
comes_back side arc = side arc.to && not (side arc.from)

-- the arc stays on the side
abbrev stays : (ℕ → Bool) → Arc → Bool
stays side arc = side arc.from && side arc.to

-- arcs in two parts carry what the parts carry
carried_parts : (whole part rest : Arc → Bool)
    → ((arc : Arc) (amount : ℕ) → share (whole arc) amount ≡ share (part arc) amount + share
    (rest arc) amount) → (arcs : List Arc) (flow : List ℕ)
    → carried whole arcs flow ≡ carried part arcs flow + carried rest arcs flow
carried_parts whole part rest each [] flow = refl
carried_parts whole part rest each (arc ∷ arcs) [] = refl
carried_parts whole part rest each (arc ∷ arcs) (amount ∷ flow) =
    omega (arith, each arc amount, carried_parts whole part rest each arcs flow)

-- what begins on the side leads out of it or stays
share-from : (from to : Bool) (amount : ℕ)
    → share from amount ≡ share (from && not to) amount + share (from && to) amount
share-from true true amount = omega arith
share-from true false amount = omega arith
share-from false true amount = refl
share-from false false amount = refl

share-to : (from to : Bool) (amount : ℕ)
    → share to amount ≡ share (to && not from) amount + share (from && to) amount
share-to true true amount = omega arith
share-to true false amount = refl
share-to false true amount = omega arith
share-to false false amount = refl

-- more than any node of an arc
abbrev node_bound : List Arc → ℕ
node_bound [] = 0
node_bound (arc ∷ arcs) = arc.from + arc.to + 1 + node_bound arcs

HasEnds-node_bound : (arcs : List Arc) (more place : ℕ) → place < length arcs
    → HasEnds (node_bound arcs + more) (arc_at arcs place)
HasEnds-node_bound [] more place below = absurd (omega arith)
HasEnds-node_bound (arc ∷ arcs) more zero below = record { from = omega arith; to = omega arith }
HasEnds-node_bound (arc ∷ arcs) more (suc place) below =
    let rest = HasEnds-node_bound arcs more place (omega arith) in
    record { from = omega (arith, rest.from); to = omega (arith, rest.to) }

module _ (arcs : List Arc) (source sink : ℕ) (flow : List ℕ)
    (whole : IsWholeFlow arcs source sink flow) where
  -- what leaves the source, less what comes back to it, is what crosses any cut, less what comes
  -- back over it
  pub across : (side : ℕ → Bool) → IsCut source sink side
      → carried (leaves source) arcs flow + carried (comes_back side) arcs flow ≡ carried
      (enters source) arcs flow + carried (crosses side) arcs flow
  across side cut =
      let nodes = node_bound arcs + (source + 1) in
      let ends = HasEnds-node_bound arcs (source + 1) in
      let leaving = λ (node : ℕ). carried (leaves node) arcs flow in
      let entering = λ (node : ℕ). carried (enters node) arcs flow in
      let balance = over-but_one side nodes source leaving entering (omega arith) cut.has_source
      (λ node on not_source. whole.passed_on node not_source
      (λ is_sink. both_ways (side node) (ap side is_sink ∙ cut.lacks_sink) on)) in
      let from = over-carried side Along nodes arcs flow ends in
      let to = over-carried side Against nodes arcs flow ends in
      let from_parts = carried_parts (λ arc. side arc.from) (crosses side) (stays side)
      (λ arc amount. share-from (side arc.from) (side arc.to) amount) arcs flow in
      let to_parts = carried_parts (λ arc. side arc.to) (comes_back side) (stays side)
      (λ arc amount. share-to (side arc.from) (side arc.to) amount) arcs flow in
      omega (arith, balance, from, to, from_parts, to_parts)

  -- no more crosses a cut than its capacity
  crosses-le : (side : ℕ → Bool) → carried (crosses side) arcs flow ≤ capacity_of side arcs
  crosses-le side = carried-le-limit
      (crosses side) arcs flow whole.within.one_each whole.within.within

  -- so no more leaves the source than the capacity of a cut
  pub leaves-le_cut : (side : ℕ → Bool) → IsCut source sink side
      → carried (leaves source) arcs flow ≤ carried (enters source) arcs flow
      + capacity_of side arcs
  leaves-le_cut side cut = omega (arith, across side cut, crosses-le side)

  -- what leaves the source beyond what comes back arrives at the sink
  pub arrives : source ≢ sink → carried (leaves source) arcs flow + carried (leaves sink) arcs flow
      ≡ carried (enters source) arcs flow + carried (enters sink) arcs flow
  arrives apart =
      let side = λ (node : ℕ). not (sink == node) in
      let cut : IsCut source sink side = record {
        has_source = ap not (ne_eqb sink source (λ same. apart (sym same)));
        lacks_sink = ap not (eq-eqb sink sink refl);
      } in
      let into = carried_parts (enters sink) (crosses side)
      (λ arc. arc.from == sink && arc.to == sink)
      (λ arc amount. share-into arc.from arc.to amount) arcs flow in
      let out = carried_parts (leaves sink) (comes_back side)
      (λ arc. arc.from == sink && arc.to == sink)
      (λ arc amount. share-out arc.from arc.to amount) arcs flow in
      omega (arith, across side cut, into, out)
    where
      parts-into : (from to : Bool) (amount : ℕ)
          → share to amount ≡ share (not from && not (not to)) amount + share (from && to) amount
      parts-into true true amount = omega arith
      parts-into true false amount = omega arith
      parts-into false true amount = omega arith
      parts-into false false amount = omega arith

      share-into : (from to amount : ℕ)
          → share (to == sink) amount ≡ share (not (sink == from) && not (not (sink == to))) amount
          + share (from == sink && to == sink) amount
      share-into from to amount = rw (eqb-swap sink from, eqb-swap sink to)
          (parts-into (from == sink) (to == sink) amount)

      parts-out : (from to : Bool) (amount : ℕ)
          → share from amount ≡ share (not to && not (not from)) amount + share (from && to) amount
      parts-out true true amount = omega arith
      parts-out true false amount = omega arith
      parts-out false true amount = omega arith
      parts-out false false amount = omega arith

      share-out : (from to amount : ℕ)
          → share (from == sink) amount ≡ share
          (not (sink == to) && not (not (sink == from))) amount + share
          (from == sink && to == sink) amount
      share-out from to amount = rw (eqb-swap sink from, eqb-swap sink to)
          (parts-out (from == sink) (to == sink) amount)

  -- a whole flow of which so much leaves the source is one of that value
  pub IsFlow-from_whole : (value : ℕ) → source ≢ sink
      → carried (leaves source) arcs flow ≡ carried (enters source) arcs flow + value
      → IsFlow arcs source sink flow value
  IsFlow-from_whole value apart sent =
      record { whole = whole; sent = sent; received = omega (arith, sent, arrives apart) }

  -- if no step with room leads out of the marks, their cut is full and nothing comes back
  pub sent_closed : (marks : List Bool) → IsClosed arcs flow source sink marks
      → carried (leaves source) arcs flow ≡ carried (enters source) arcs flow + capacity_of
      (marked marks) arcs
  sent_closed marks closed =
      let side = marked marks in
      let full = carried_full (crosses side) arcs flow whole.within.one_each (λ place below chosen.
      let arc = arc_at arcs place in
      let parts = and_parts (side arc.from) (not (side arc.to)) chosen in
      let no_room : (0 < arc.capacity - get_or flow place 0 → ⊥) =
      λ room. both_ways (side arc.to) (not-true (side arc.to) parts.1)
      (closed.steps Along place below parts.0 room) in
      omega (arith, whole.within.within place below, no_room)) in
      let none = carried_none (comes_back side) arcs flow (λ place below chosen.
      let arc = arc_at arcs place in
      let parts = and_parts (side arc.to) (not (side arc.from)) chosen in
      let no_room : (0 < get_or flow place 0 → ⊥) =
      λ room. both_ways (side arc.from) (not-true (side arc.from) parts.1)
      (closed.steps Against place below parts.0 room) in
      omega (arith, no_room)) in
      omega (
        arith,
        across side (record {
          has_source = closed.has_source;
          lacks_sink =
              closed.lacks_sink;
        }),
        full,
        none,
      )

  -- a cut whose capacity is the value holds the far end of each step with room from inside
  pub kept_inside : (side : ℕ → Bool) → IsCut source sink side
      → carried (leaves source) arcs flow ≡ carried (enters source) arcs flow
      + capacity_of side arcs → (way : Direction) (arc : ℕ) → arc < length arcs
      → side (tail_of way (arc_at arcs arc)) ≡ true
      → 0 < room_of way (arc_at arcs arc) (get_or flow arc 0)
      → side (head_of way (arc_at arcs arc)) ≡ true
  kept_inside side cut sent Along place below inside room =
      let arc = arc_at arcs place in
      let full = full_from_carried (crosses side) arcs flow whole.within.one_each
      whole.within.within (omega (arith, across side cut, crosses-le side)) place below in
      true_from_ne_false (side arc.to)
      (λ outside. omega (
        arith,
        full
            (and_from (side arc.from) (not (side arc.to)) inside (ap not outside)),
      ))
  kept_inside side cut sent Against place below inside room =
      let arc = arc_at arcs place in
      let none = none_from_carried (comes_back side) arcs flow whole.within.one_each
      (omega (arith, across side cut, crosses-le side)) place below in
      true_from_ne_false (side arc.from)
      (λ outside. omega (
        arith,
        none
            (and_from (side arc.to) (not (side arc.from)) inside (ap not outside)),
      ))

-- no flow is greater than any cut
pub no_flow_exceeds_a_cut : NoFlowExceedsACut
no_flow_exceeds_a_cut arcs source sink flow value side is_flow cut =
    omega (arith, leaves-le_cut arcs source sink flow is_flow.whole side cut, is_flow.sent)

-- what a search reaches lies inside each cut whose capacity is the value
module _ (arcs : List Arc) (source sink : ℕ) (flow : List ℕ)
    (whole : IsWholeFlow arcs source sink flow)
    (marks : List Bool) (queue : List Reach) (search : IsSearch arcs flow marks queue)
    (from_source : (reached_at queue 0).node ≡ source) (side : ℕ → Bool)
    (cut : IsCut source sink side)
    (sent : carried (leaves source) arcs flow ≡ carried (enters source) arcs flow
    + capacity_of side arcs) where
  reached_inside : (count place : ℕ) → place < count → place < length queue
      → side (reached_at queue place).node ≡ true
  reached_inside zero place below in_range = absurd (omega arith)
  reached_inside (suc count) zero below in_range = ap side from_source ∙ cut.has_source
  reached_inside (suc count) (suc place) below in_range =
      let entry = reached_at queue (suc place) in
      let reached = search.reached (suc place) (omega arith) in_range in
      let before = reached_inside count entry.before (omega (arith, reached.earlier))
      (omega (arith, reached.earlier)) in
      ap side (sym reached.step.ends)
      ∙ kept_inside arcs source sink flow whole side cut sent entry.way entry.arc
      reached.step.in_range (ap side reached.step.begins ∙ before)
      (omega (arith, reached.step.room, search.wide (suc place) in_range))

  pub marked_inside : (node : ℕ) → marked marks node ≡ true → side node ≡ true
  marked_inside node is_marked =
      let at = search.listed node is_marked in
      ap side (sym at.2) ∙ reached_inside (at.0 + 1) at.0 (omega arith) at.1

-- the marks of a search that is closed are the least cut
pub IsLeastCut-from_search : (arcs : List Arc) (source sink : ℕ) (flow : List ℕ) (value : ℕ)
    (marks : List Bool) (queue : List Reach) → IsFlow arcs source sink flow value
    → IsSearch arcs flow marks queue → (reached_at queue 0).node ≡ source
    → IsClosed arcs flow source sink marks → IsLeastCut arcs source sink value (marked marks)
IsLeastCut-from_search arcs source sink flow value marks queue is_flow search from_source closed =
    record {
      cut = record { has_source = closed.has_source; lacks_sink = closed.lacks_sink };
      value = omega (
        arith,
        is_flow.sent,
        sent_closed arcs source sink flow is_flow.whole marks closed,
      );
      none_less = λ other cut. no_flow_exceeds_a_cut arcs source sink flow value other is_flow cut;
      contained = λ other cut same node is_marked.
          marked_inside arcs source sink flow is_flow.whole marks queue search from_source other cut
          (omega (arith, is_flow.sent)) node is_marked;
    }
