-- The lists of arcs stay right when an arc is put at the head of one.
use Rattle.std.proofs.Common.{◌≡◌, ◌≢◌, ℕ, ◌+◌, ◌<◌, ◌≤◌, List, [], ◌∷◌, ◌++◌, length, get_or, set}
use Rattle.std.proofs.Common.{sym, ap, ◌∙◌, subst, inl, inr, arith, get_or-set_same}
use Rattle.std.proofs.Common.{get_or-set_other}
use Rattle.std.proofs.lemmas.Bool.{cases_eq}
use Rattle.std.proofs.lemmas.List.{length_push, length-set, get_or_append_left, get_or_push}
use Rattle.flow_net.specs.declared.arcs.Arc.{Arc}
use Rattle.flow_net.specs.declared.arcs.Direction.{Direction}
use Rattle.flow_net.specs.inside.Flow.{arc_at}
use Rattle.flow_net.specs.inside.Direction.{tail_of}
use Rattle.flow_net.specs.inside.Lists.{IsNewest, AreLists}
use Rattle.flow_net.proofs.ArcLemmas.{arc_at-append, arc_at_push}

module _ (way : Direction) (arcs : List Arc) (arc : Arc) where
  -- among the older arcs the newest stays the newest
  pub IsNewest-append : (node count name : ℕ) → count ≤ length arcs
      → IsNewest way arcs node count name → IsNewest way (arcs ++ arc ∷ []) node count name
  IsNewest-append node count name few old = record {
    among = old.among;
    at_node = λ place is_name.
        ap (tail_of way) (arc_at-append arcs arc place (omega (arith, old.among)))
        ∙ old.at_node place is_name;
    newest = λ place above below is_node.
        old.newest place above below (sym
        (ap (tail_of way) (arc_at-append arcs arc place (omega arith))) ∙ is_node);
  }

  -- at another node the new arc changes nothing
  pub IsNewest-other : (node name : ℕ) → tail_of way arc ≢ node
      → IsNewest way arcs node (length arcs) name
      → IsNewest way (arcs ++ arc ∷ []) node (length arcs + 1) name
  IsNewest-other node name other old = record {
    among = omega (arith, old.among);
    at_node = (IsNewest-append node (length arcs) name (omega arith) old).at_node;
    newest = λ place above below is_node.
        elim (cases_eq place (length arcs)) [
          | inl last ↦ other (sym (ap (tail_of way) (arc_at_push arcs arc place (sym last)))
              ∙ is_node)
          | inr older ↦ (IsNewest-append node (length arcs) name (omega arith) old).newest place
              above (omega arith) is_node
        ];
  }

  -- at its own node the new arc is the newest
  pub IsNewest-same : (node : ℕ) → tail_of way arc ≡ node
      → IsNewest way (arcs ++ arc ∷ []) node (length arcs + 1) (length arcs + 1)
  IsNewest-same node same = record {
    among = omega arith;
    at_node = λ place is_name. ap (tail_of way) (arc_at_push arcs arc place (omega arith)) ∙ same;
    newest = λ place above below is_node. omega arith;
  }

-- lists of arcs stay right as an arc is put at the head of the list of its node
pub AreLists-add : (way : Direction) (arcs : List Arc) (arc : Arc) (first next : List ℕ)
    → AreLists way arcs first next → tail_of way arc < length first
    → AreLists way (arcs ++ arc ∷ []) (set first (tail_of way arc) (length arcs + 1))
    (next ++ get_or first (tail_of way arc) 0 ∷ [])
AreLists-add way arcs arc first next old in_range =
    let node = tail_of way arc in
    let new = arcs ++ arc ∷ [] in
    let longer : length new ≡ length arcs + 1 = length_push arcs arc in
    record {
      one_each = length_push next (get_or first node 0) ∙ ap (λ n. n + 1) old.one_each ∙ sym longer;
      begins = λ at below.
          let within : at < length first = omega (arith, length-set first node (length arcs + 1)) in
          rw longer
          (elim (cases_eq at node) [
            | inl same ↦
                subst (λ name. IsNewest way new at (length arcs + 1) name)
                (sym (ap (λ n. get_or (set first node (length arcs + 1)) n 0) same
                ∙ get_or-set_same first node (length arcs + 1) 0 in_range))
                (IsNewest-same way arcs arc at (sym same))
            | inr other ↦
                subst (λ name. IsNewest way new at (length arcs + 1) name)
                (sym (get_or-set_other first node at (length arcs + 1) 0 other))
                (IsNewest-other way arcs arc at (get_or first at 0) (λ e. other (sym e))
                (old.begins at within))
          ]);
      goes_on = λ place below.
          elim (cases_eq place (length arcs)) [
            | inl last ↦
                rw (
                  arc_at_push arcs arc place (sym last),
                  get_or_push next (get_or first node 0) 0 place (old.one_each ∙ sym last),
                )
                (IsNewest-append way arcs arc node place (get_or first node 0) (omega arith)
                (subst (λ n. IsNewest way arcs node n (get_or first node 0)) (sym last)
                (old.begins node in_range)))
            | inr older ↦
                let within : place < length arcs = omega arith in
                rw (
                  arc_at-append arcs arc place within,
                  get_or_append_left next (get_or first node 0 ∷ []) 0 place
                      (omega (arith, old.one_each)),
                )
                (IsNewest-append way arcs arc (tail_of way (arc_at arcs place)) place
                (get_or next place 0) (omega arith) (old.goes_on place within))
          ];
    }

-- the newest arc at a node is the newest among those up to it
pub IsNewest-up_to : (way : Direction) (arcs : List Arc) (node count name : ℕ)
    → IsNewest way arcs node count name → IsNewest way arcs node name name
IsNewest-up_to way arcs node count name newest = record {
  among = omega arith;
  at_node = newest.at_node;
  newest = λ place above below is_node. omega arith;
}
