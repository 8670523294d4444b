-- What one step over an arc does to what leaves and enters each node.
use Rattle.std.proofs.Common.{◌≡◌, ◌==◌, ℕ, zero, suc, ◌+◌, ◌-◌, ◌<◌, ◌≤◌, Bool, List, [], ◌∷◌}
use Rattle.std.proofs.Common.{length, get_or, set, sym, ap, ◌∙◌, subst, inl, inr, arith}
use Rattle.std.proofs.Common.{get_or-set_same, get_or-set_other}
use Rattle.std.proofs.lemmas.Bool.{cases_eq}
use Rattle.std.proofs.lemmas.List.{length-set}
use Rattle.flow_net.specs.declared.arcs.Arc.{Arc}
use Rattle.flow_net.specs.declared.arcs.Direction.{Direction}
use Rattle.flow_net.specs.declared.arcs.Direction.TheVariants.{Along, Against}
use Rattle.flow_net.specs.inside.Flow.{IsWithinArcs, arc_at, carried, enters, leaves}
use Rattle.flow_net.specs.inside.Direction.{head_of, room_of, sent_over, tail_of}
use Rattle.flow_net.specs.inside.Moves.{IsMoved}
use Rattle.flow_net.proofs.ShareLemmas.{share, share-add}

-- one number changed changes what the chosen arcs carry, if its arc is chosen
pub carried-set : (chosen : Arc → Bool) (arcs : List Arc) (flow : List ℕ) (arc amount : ℕ)
    → arc < length arcs → length flow ≡ length arcs
    → carried chosen arcs (set flow arc amount) + share (chosen (arc_at arcs arc))
    (get_or flow arc 0) ≡ carried chosen arcs flow + share (chosen (arc_at arcs arc)) amount
carried-set chosen [] flow arc amount below same = omega arith
carried-set chosen (first ∷ arcs) [] arc amount below same = omega arith
carried-set chosen (first ∷ arcs) (number ∷ flow) zero amount below same = omega arith
carried-set chosen (first ∷ arcs) (number ∷ flow) (suc arc) amount below same =
    omega (arith, carried-set chosen arcs flow arc amount (omega arith) (omega arith))

-- more over an arc moves what leaves and enters its ends
pub IsMoved-step : (way : Direction) (arcs : List Arc) (flow : List ℕ) (arc amount : ℕ)
    → arc < length arcs → length flow ≡ length arcs
    → amount ≤ room_of way (arc_at arcs arc) (get_or flow arc 0)
    → IsMoved arcs flow (set flow arc (sent_over way (get_or flow arc 0) amount))
    (tail_of way (arc_at arcs arc)) (head_of way (arc_at arcs arc)) amount
IsMoved-step Along arcs flow arc amount below same room = record {
  balance = λ node.
      let carries = get_or flow arc 0 in
      let from = (arc_at arcs arc).from == node in
      let to = (arc_at arcs arc).to == node in
      omega (
        arith,
        carried-set (leaves node) arcs flow arc (carries + amount) below same,
        carried-set (enters node) arcs flow arc (carries + amount) below same,
        share-add from carries amount,
        share-add to carries amount,
      );
}
IsMoved-step Against arcs flow arc amount below same room = record {
  balance = λ node.
      let carries = get_or flow arc 0 in
      let from = (arc_at arcs arc).from == node in
      let to = (arc_at arcs arc).to == node in
      let left : carries - amount + amount ≡ carries = omega arith in
      omega (
        arith,
        carried-set (leaves node) arcs flow arc (carries - amount) below same,
        carried-set (enters node) arcs flow arc (carries - amount) below same,
        share-add from (carries - amount) amount,
        share-add to (carries - amount) amount,
        ap (share from) left,
        ap (share to) left,
      );
}

-- what is moved on from where it came from is moved the whole way
pub IsMoved-trans : (arcs : List Arc) (old between new : List ℕ) (from through to amount : ℕ)
    → IsMoved arcs old between through to amount → IsMoved arcs between new from through amount
    → IsMoved arcs old new from to amount
IsMoved-trans arcs old between new from through to amount first second = record {
  balance = λ node. omega (arith, first.balance node, second.balance node);
}

-- what is sent over an arc with room keeps within the capacities
pub IsWithinArcs-step : (way : Direction) (arcs : List Arc) (flow : List ℕ) (arc amount : ℕ)
    → arc < length arcs → amount ≤ room_of way (arc_at arcs arc) (get_or flow arc 0)
    → IsWithinArcs arcs flow
    → IsWithinArcs arcs (set flow arc (sent_over way (get_or flow arc 0) amount))
IsWithinArcs-step way arcs flow arc amount below room old =
    let sent = sent_over way (get_or flow arc 0) amount in
    record {
      one_each = length-set flow arc sent ∙ old.one_each;
      within = λ place in_range. elim (cases_eq place arc) [
        | inl same ↦
            subst (λ (n : ℕ). get_or (set flow arc sent) n 0 ≤ (arc_at arcs n).capacity) (sym same)
            (rw (get_or-set_same flow arc sent 0 (omega (arith, old.one_each)))
            (sent_within way (arc_at arcs arc) (get_or flow arc 0) amount room
            (old.within arc below)))
        | inr other ↦ rw (get_or-set_other flow arc place sent 0 other) (old.within place in_range)
      ];
    }
  where
    sent_within : (way : Direction) (arc : Arc) (carries amount : ℕ)
        → amount ≤ room_of way arc carries
        → carries ≤ arc.capacity → sent_over way carries amount ≤ arc.capacity
    sent_within Along arc carries amount room within = omega arith
    sent_within Against arc carries amount room within = omega arith
