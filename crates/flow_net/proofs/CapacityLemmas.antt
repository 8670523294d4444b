-- What chosen arcs carry, against what they can carry.
use Rattle.std.proofs.Common.{◌≡◌, ℕ, zero, suc, ◌<◌, ◌≤◌, Bool, true, List, [], ◌∷◌, length}
use Rattle.std.proofs.Common.{get_or, refl, arith}
use Rattle.std.specs.Prelude.{sum_by}
use Rattle.std.proofs.lemmas.List.Sums.{sum_by-cons}
use Rattle.flow_net.specs.declared.arcs.Arc.{Arc}
use Rattle.flow_net.specs.inside.Flow.{arc_at, carried}
use Rattle.flow_net.proofs.ShareLemmas.{share, share-le, share-same, share-zero, share_whole}

-- what an arc can carry, if it is chosen
abbrev pub limit : (Arc → Bool) → Arc → ℕ
limit chosen arc = share (chosen arc) arc.capacity

module _ (chosen : Arc → Bool) where
  -- arcs carry no more than they can
  pub carried-le-limit : (arcs : List Arc) (flow : List ℕ) → length flow ≡ length arcs
      → ((place : ℕ) → place < length arcs → get_or flow place 0 ≤ (arc_at arcs place).capacity)
      → carried chosen arcs flow ≤ sum_by (limit chosen) arcs
  carried-le-limit [] flow same within = omega arith
  carried-le-limit (arc ∷ arcs) [] same within = omega arith
  carried-le-limit (arc ∷ arcs) (amount ∷ flow) same within =
      omega (
        arith,
        sum_by-cons (limit chosen) arc arcs,
        share-le (chosen arc) amount arc.capacity (within 0 (omega arith)),
        carried-le-limit arcs flow (omega arith)
            (λ place below. within (suc place) (omega arith)),
      )

  -- full arcs carry what they can
  pub carried_full : (arcs : List Arc) (flow : List ℕ) → length flow ≡ length arcs
      → ((place : ℕ) → place < length arcs → chosen (arc_at arcs place) ≡ true
      → get_or flow place 0 ≡ (arc_at arcs place).capacity)
      → carried chosen arcs flow ≡ sum_by (limit chosen) arcs
  carried_full [] flow same full = refl
  carried_full (arc ∷ arcs) [] same full = omega arith
  carried_full (arc ∷ arcs) (amount ∷ flow) same full =
      omega (
        arith,
        sum_by-cons (limit chosen) arc arcs,
        share-same (chosen arc) amount arc.capacity (full 0 (omega arith)),
        carried_full arcs flow (omega arith) (λ place below. full (suc place) (omega arith)),
      )

  -- arcs that carry nothing carry nothing together
  pub carried_none : (arcs : List Arc) (flow : List ℕ)
      → ((place : ℕ) → place < length arcs → chosen (arc_at arcs place) ≡ true
      → get_or flow place 0 ≡ 0) → carried chosen arcs flow ≡ 0
  carried_none [] flow none = refl
  carried_none (arc ∷ arcs) [] none = refl
  carried_none (arc ∷ arcs) (amount ∷ flow) none =
      omega (
        arith,
        share-same (chosen arc) amount 0 (none 0 (omega arith)),
        share-zero (chosen arc),
        carried_none arcs flow
            (λ place below. none (suc place) (omega arith)),
      )

  -- arcs that carry together what they can are full, each
  pub full_from_carried : (arcs : List Arc) (flow : List ℕ) → length flow ≡ length arcs
      → ((place : ℕ) → place < length arcs → get_or flow place 0 ≤ (arc_at arcs place).capacity)
      → carried chosen arcs flow ≡ sum_by (limit chosen) arcs → (place : ℕ) → place < length arcs
      → chosen (arc_at arcs place) ≡ true → get_or flow place 0 ≡ (arc_at arcs place).capacity
  full_from_carried [] flow same within full place below is_chosen = absurd (omega arith)
  full_from_carried (arc ∷ arcs) [] same within full place below is_chosen = absurd (omega arith)
  full_from_carried (arc ∷ arcs) (amount ∷ flow) same within full zero below is_chosen =
      omega (
        arith,
        sum_by-cons (limit chosen) arc arcs,
        share_whole (chosen arc) amount is_chosen,
        share_whole (chosen arc) arc.capacity is_chosen,
        within 0 (omega arith),
        carried-le-limit arcs flow (omega arith)
            (λ place below. within (suc place) (omega arith)),
      )
  full_from_carried (arc ∷ arcs) (amount ∷ flow) same within full (suc place) below is_chosen =
      full_from_carried arcs flow (omega arith) (λ place below. within (suc place) (omega arith))
      (omega (
        arith,
        sum_by-cons (limit chosen) arc arcs,
        share-le (chosen arc) amount arc.capacity (within 0 (omega arith)),
        carried-le-limit arcs flow (omega arith)
            (λ place below. within (suc place) (omega arith)),
      ))
      place (omega arith) is_chosen

  -- arcs that carry nothing together carry nothing, each
  pub none_from_carried : (arcs : List Arc) (flow : List ℕ) → length flow ≡ length arcs
      → carried chosen arcs flow ≡ 0 → (place : ℕ) → place < length arcs
      → chosen (arc_at arcs place) ≡ true → get_or flow place 0 ≡ 0
  none_from_carried [] flow same none place below is_chosen = absurd (omega arith)
  none_from_carried (arc ∷ arcs) [] same none place below is_chosen = absurd (omega arith)
  none_from_carried (arc ∷ arcs) (amount ∷ flow) same none zero below is_chosen =
      omega (arith, share_whole (chosen arc) amount is_chosen)
  none_from_carried (arc ∷ arcs) (amount ∷ flow) same none (suc place) below is_chosen =
      none_from_carried arcs flow (omega arith) (omega arith) place (omega arith) is_chosen
