-- A whole flow stays whole as more is sent from its source to its sink.
use Rattle.std.proofs.Common.{◌≡◌, ◌≢◌, ◌==◌, ℕ, zero, suc, ◌+◌, ◌<◌, ◌≤◌, Bool, true, cond, ◌&&◌}
use Rattle.std.proofs.Common.{Option, None, Some, List, [], ◌∷◌, ◌++◌, length, replicate, sym, ap}
use Rattle.std.proofs.Common.{◌∙◌, refl, subst, inl, inr, arith}
use Rattle.std.proofs.lemmas.Bool.{and_parts, cases_Bool, cases_eq, eq-eqb, eqb-true, ne_eqb}
use Rattle.std.proofs.lemmas.List.{get_or-replicate, get_or_append_left, get_or_push}
use Rattle.std.proofs.lemmas.List.{length-replicate, length_push}
use Rattle.std.specs.Option.{ForSome}
use Rattle.flow_net.specs.declared.arcs.Arc.{Arc}
use Rattle.flow_net.specs.declared.arcs.Direction.{Direction}
use Rattle.flow_net.specs.declared.ends.Ends.{Ends}
use Rattle.flow_net.specs.inside.Direction.{tail_of}
use Rattle.flow_net.specs.inside.Graph.{HasEnds, begins_at}
use Rattle.flow_net.specs.inside.NetView.{start_of}
use Rattle.flow_net.specs.inside.Flow.{IsWholeFlow, IsWithinArcs, arc_at, carried, enters, leaves}
use Rattle.flow_net.specs.inside.Moves.{IsMoved}
use Rattle.flow_net.proofs.ShareLemmas.{share, share-zero}
use Rattle.flow_net.proofs.ArcLemmas.{arc_at-append, tail_in_range}
use Rattle.flow_net.proofs.CapacityLemmas.{carried_none}

-- a move between two nodes by other names
pub IsMoved-between : (arcs : List Arc) (old new : List ℕ) (amount : ℕ) {from to source sink : ℕ}
    → from ≡ source → to ≡ sink → IsMoved arcs old new from to amount
    → IsMoved arcs old new source sink amount
IsMoved-between arcs old new amount {from} {to} {source} {sink} is_source is_sink moved =
    subst (λ (n : ℕ). IsMoved arcs old new n sink amount) is_source
    (subst (λ (n : ℕ). IsMoved arcs old new from n amount) is_sink moved)

module _ (arcs : List Arc) (source sink : ℕ) (old new : List ℕ) (amount : ℕ)
    (moved : IsMoved arcs old new source sink amount) where
  -- so much more leaves the source
  pub sent_more : source ≢ sink → carried (leaves source) arcs new + carried
      (enters source) arcs old ≡ carried (leaves source) arcs old + carried (enters source) arcs new
      + amount
  sent_more apart =
      let at_source : share (source == source) amount ≡ amount =
      ap (λ b. share b amount) (eq-eqb source source refl) in
      let not_at_sink : share (sink == source) amount ≡ 0 =
      ap (λ b. share b amount) (ne_eqb sink source (λ same. apart (sym same))) in
      omega (arith, moved.balance source, at_source, not_at_sink)

  -- every other node passes on what it takes, as before
  pub IsWholeFlow-moved : IsWithinArcs arcs new → IsWholeFlow arcs source sink old
      → IsWholeFlow arcs source sink new
  IsWholeFlow-moved within whole = record {
    within = within;
    passed_on = λ node not_source not_sink.
        let no_source : share (source == node) amount ≡ 0 =
        ap (λ b. share b amount) (ne_eqb source node (λ same. not_source (sym same))) in
        let no_sink : share (sink == node) amount ≡ 0 =
        ap (λ b. share b amount) (ne_eqb sink node (λ same. not_sink (sym same))) in
        omega (
          arith,
          moved.balance node,
          no_source,
          no_sink,
          whole.passed_on node not_source not_sink,
        );
  }

-- a new arc that carries nothing adds nothing
pub carried_push : (chosen : Arc → Bool) (arcs : List Arc) (flow : List ℕ) (arc : Arc)
    → length flow ≡ length arcs → carried chosen (arcs ++ arc ∷ []) (flow ++ 0 ∷ [])
    ≡ carried chosen arcs flow
carried_push chosen [] [] arc same = omega (arith, share-zero (chosen arc))
carried_push chosen [] (amount ∷ flow) arc same = omega arith
carried_push chosen (first ∷ arcs) [] arc same = omega arith
carried_push chosen (first ∷ arcs) (amount ∷ flow) arc same =
    ap (λ n. share (chosen first) amount + n) (carried_push chosen arcs flow arc (omega arith))

-- so a flow stays within the capacities
pub IsWithinArcs-add : (arcs : List Arc) (flow : List ℕ) (arc : Arc) → IsWithinArcs arcs flow
    → IsWithinArcs (arcs ++ arc ∷ []) (flow ++ 0 ∷ [])
IsWithinArcs-add arcs flow arc old = record {
  one_each = length_push flow 0 ∙ ap (λ n. n + 1) old.one_each ∙ sym (length_push arcs arc);
  within = λ place below. elim (cases_eq place (length arcs)) [
    | inl last ↦ rw (get_or_push flow 0 0 place (old.one_each ∙ sym last)) (omega arith)
    | inr older ↦
        let in_range : place < length arcs = omega (arith, length_push arcs arc) in
        rw (
          arc_at-append arcs arc place in_range,
          get_or_append_left flow (0 ∷ []) 0 place (omega (arith, old.one_each)),
        )
        (old.within place in_range)
  ];
}

-- and stays whole
pub IsWholeFlow-add : (arcs : List Arc) (source sink : ℕ) (flow : List ℕ) (arc : Arc)
    → IsWholeFlow arcs source sink flow
    → IsWholeFlow (arcs ++ arc ∷ []) source sink (flow ++ 0 ∷ [])
IsWholeFlow-add arcs source sink flow arc old = record {
  within = IsWithinArcs-add arcs flow arc old.within;
  passed_on = λ node not_source not_sink.
      carried_push (leaves node) arcs flow arc old.within.one_each
      ∙ old.passed_on node not_source not_sink
      ∙ sym (carried_push (enters node) arcs flow arc old.within.one_each);
}

-- a flow of nothing is within the capacities and whole
pub carried-zeros : (chosen : Arc → Bool) (count : ℕ) (arcs : List Arc)
    → carried chosen arcs (replicate count 0) ≡ 0
carried-zeros chosen count [] = refl
carried-zeros chosen zero (arc ∷ arcs) = refl
carried-zeros chosen (suc count) (arc ∷ arcs) =
    omega (arith, share-zero (chosen arc), carried-zeros chosen count arcs)

pub IsWholeFlow-zeros : (arcs : List Arc) (source sink : ℕ)
    → IsWholeFlow arcs source sink (replicate (length arcs) 0)
IsWholeFlow-zeros arcs source sink = record {
  within = record {
    one_each = length-replicate {A = ℕ} (length arcs) 0;
    within = λ place below. rw (get_or-replicate {A = ℕ} (length arcs) place 0 0 below)
        (omega arith);
  };
  passed_on = λ node not_source not_sink. carried-zeros (leaves node) (length arcs) arcs
      ∙ sym (carried-zeros (enters node) (length arcs) arcs);
}

-- no arc is at a number that is no node
pub carried_past : (way : Direction) (nodes node : ℕ) (arcs : List Arc) (flow : List ℕ)
    → nodes ≤ node
    → ((place : ℕ) → place < length arcs → HasEnds nodes (arc_at arcs place))
    → carried (begins_at way node) arcs flow ≡ 0
carried_past way nodes node arcs flow past ends =
    carried_none (begins_at way node) arcs flow (λ place below at_node.
    absurd (omega (
      arith,
      tail_in_range way (arc_at arcs place) (ends place below),
      eqb-true (tail_of way (arc_at arcs place)) node at_node,
    )))

-- two nodes whose test passes are the ends of the flow
pub is_between-ends : (ends : Ends) (source sink : ℕ)
    → (ends.source == source && ends.sink == sink) ≡ true → (ends.source ≡ source)
    × (ends.sink ≡ sink)
is_between-ends ends source sink passes =
    let parts = and_parts (ends.source == source) (ends.sink == sink) passes in
    (eqb-true ends.source source parts.0, eqb-true ends.sink sink parts.1)

-- what is begun with is whole
pub IsWholeFlow-start_of : (arcs : List Arc) (held : Option Ends) (flow : List ℕ) (source sink : ℕ)
    → length flow ≡ length arcs → ForSome held (λ ends. IsWholeFlow arcs ends.source ends.sink flow)
    → IsWholeFlow arcs source sink (start_of held flow source sink)
IsWholeFlow-start_of arcs None flow source sink same whole = rw same
    (IsWholeFlow-zeros arcs source sink)
IsWholeFlow-start_of arcs (Some ends) flow source sink same whole =
    let start = λ (b : Bool). cond b flow (replicate (length flow) 0) in
    elim (cases_Bool (ends.source == source && ends.sink == sink)) [
      | inl passes ↦
          let parts = is_between-ends ends source sink passes in
          subst (λ (b : Bool). IsWholeFlow arcs source sink (start b)) (sym passes)
          (subst (λ (n : ℕ). IsWholeFlow arcs n sink flow) parts.0
          (subst (λ (n : ℕ). IsWholeFlow arcs ends.source n flow) parts.1 (whole ends refl)))
      | inr fails ↦
          subst (λ (b : Bool). IsWholeFlow arcs source sink (start b)) (sym fails)
          (rw same (IsWholeFlow-zeros arcs source sink))
    ]
