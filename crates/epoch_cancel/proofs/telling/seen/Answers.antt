use Rattle.std.proofs.Common.{rules, arith, refl, ◌≡◌, ap, ◌∙◌, subst}
use mathlib.Core.List.{IsPrefix}
use Rattle.epoch_cancel.specs.inside.Views.{view_noted, view_longer, view_beside}
use Rattle.epoch_cancel.proofs.ViewLemmas.{longer_of-begins}
use Rattle.epoch_cancel.proofs.MoveLemmas.{remembers, copies, takes_longer, compares}
use Rattle.epoch_cancel.proofs.telling.seen.Goals as goal

pub split_seat-known-requires : goal.split_seat-known-requires
split_seat-known-requires c =
    (search rules, search rules, copies _ _ _ refl refl refl (omega arith))

pub join_seat-requires : goal.join_seat-requires
join_seat-requires c =
    (search rules, search rules, search rules, search rules, remembers _ _ _ _)

pub load-requires : goal.load-requires
load-requires c = (search rules, search rules, compares _ _ _)

pub split_seat-all-requires : goal.split_seat-all-requires
split_seat-all-requires c =
    (search rules, search rules, copies _ _ _ refl refl refl (omega arith))

pub join_seat-requires-2 : goal.join_seat-requires-2
join_seat-requires-2 c = (
  search rules,
  search rules,
  search rules,
  search rules,
  takes_longer _ _ _ _ (ap (λ me. me.0.owns) c.split_seat-known.ensures.2 ∙ c.eye.invariant),
)

-- what the owner knows beside its list, once it has joined the note of the eye
owner_joined : (c : goal.After-join_seat-2)
    → c.load.new.seat.me.0
    ≡ view_beside c.owner.inside.seat.me.0 (view_noted c.eye.inside.seat.me.0)
owner_joined c =
    ap (λ me. me.0) c.load.ensures.2.0 ∙ ap (λ me. me.0) c.join_seat.ensures.2
    ∙ ap (λ me. view_beside c.owner.inside.seat.me.0 me.0) c.split_seat-known.ensures.4

-- what the eye knew begins what the owner knows
eye_begins : (c : goal.After-join_seat-2)
    → IsPrefix c.eye.inside.seat.me.0.list c.owner.inside.seat.me.0.list
eye_begins c =
    let owns = ap (λ me. me.0.owns) c.join_seat.ensures.2 ∙ c.owner.invariant.0 in
    let list = ap (λ me. me.0.list) c.join_seat.ensures.2 in
    let other = ap (λ me. me.0.other) c.join_seat.ensures.2
    ∙ ap (λ me. me.0.list) c.split_seat-known.ensures.4 in
    subst (λ xs. IsPrefix xs c.owner.inside.seat.me.0.list) other
    (subst (λ ys. IsPrefix c.join_seat.new.seat.me.0.other ys) list
    (c.load.ensures.2.1 owns))

-- the eye's view at the end
eye_joined : (c : goal.After-join_seat-2)
    → c.join_seat-2.new.seat.me.0
    ≡ view_longer c.eye.inside.seat.me.0
    (view_noted (view_beside c.owner.inside.seat.me.0 (view_noted c.eye.inside.seat.me.0)))
eye_joined c =
    ap (λ me. me.0) c.join_seat-2.ensures.2
    ∙ ap (λ me. view_longer me.0 c.split_seat-all.result.me.0) c.split_seat-known.ensures.2
    ∙ ap (λ me. view_longer c.eye.inside.seat.me.0 me.0) c.split_seat-all.ensures.4
    ∙ ap (λ view. view_longer c.eye.inside.seat.me.0 (view_noted view)) (owner_joined c)

pub returns-clause-eye : goal.returns-clause-eye
returns-clause-eye c =
    let table = c.join_seat-2.ensures.0 ∙ c.split_seat-known.ensures.0
    ∙ ap (λ eye. eye.table) c.eye.view_is in
    let list = ap (λ view. view.list) (eye_joined c)
    ∙ longer_of-begins c.eye.inside.seat.me.0.list c.owner.inside.seat.me.0.list (eye_begins c)
    ∙ ap (λ seat. seat.list) c.owner.view_is in
    let loads = ap (λ view. view.loads) (eye_joined c) ∙ ap (λ eye. eye.loads) c.eye.view_is in
    let newest = ap (λ view. view.newest) (eye_joined c) ∙ ap (λ eye. eye.newest) c.eye.view_is in
    λ i. record { table = table i; list = list i; loads = loads i; newest = newest i }
