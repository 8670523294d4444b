use Rattle.std.proofs.Common.{rules, arith, refl, ◌≡◌, sym, ap, ◌∙◌, subst, ◌+◌, ◌≤◌, length, []}
use Rattle.std.proofs.Common.{◌∷◌, ◌++◌, length-append}
use mathlib.Core.List.{IsPrefix}
use Rattle.epoch_cancel.specs.inside.Views.{view_told, view_noted, view_longer}
use Rattle.epoch_cancel.proofs.PackLemmas.{is_pack}
use Rattle.epoch_cancel.proofs.ViewLemmas.{longer_of-longer}
use Rattle.epoch_cancel.proofs.MoveLemmas.{stores, copies, takes_longer, compares}
use Rattle.epoch_cancel.proofs.telling.tell.Goals as goal
use Rattle.league_core.proofs.plain.Prefixes.{prefix_alike}

pub store-requires : goal.store-requires
store-requires c = (
  search rules,
  search rules,
  stores _ _ _ c.args.event.now _ c.owner.invariant.0 c.requires.code
      (is_pack _ _ _ _ c.word_of-next.ensures.value c.owner.invariant.1),
)

pub split_seat-note-requires : goal.split_seat-note-requires
split_seat-note-requires c = (search rules, search rules, copies _ _ _ refl refl refl (omega arith))

pub join_seat-requires : goal.join_seat-requires
join_seat-requires c =
    (search rules, search rules, search rules, search rules, takes_longer _ _ _ _ c.front.invariant)

pub load-requires : goal.load-requires
load-requires c = (search rules, search rules, compares _ _ _)

-- what the owner knows then
owner_told : (c : goal.After-load)
    → c.store.new.seat.me.0 ≡ view_told c.owner.inside.seat.me.0 c.args.event.now
owner_told c = c.store.ensures.2.0 c.args.event.now c.requires.code
    (is_pack _ _ _ _ c.word_of-next.ensures.value c.owner.invariant.1)

-- the same, once the note is cut off
owner_stays : (c : goal.After-load)
    → c.split_seat-note.new.seat.me.0 ≡ view_told c.owner.inside.seat.me.0 c.args.event.now
owner_stays c = ap (λ me. me.0) c.split_seat-note.ensures.2 ∙ owner_told c

-- what the front knows once it has joined the note
front_joined : (c : goal.After-load)
    → c.join_seat.new.seat.me.0
    ≡ view_longer c.front.inside.seat.me.0
    (view_noted (view_told c.owner.inside.seat.me.0 c.args.event.now))
front_joined c =
    ap (λ me. me.0) c.join_seat.ensures.2
    ∙ ap (λ me. view_longer c.front.inside.seat.me.0 me.0) c.split_seat-note.ensures.4
    ∙ ap (λ view. view_longer c.front.inside.seat.me.0 (view_noted view)) (owner_told c)

-- the two lists had one length
level : (c : goal.After-load)
    → length c.front.inside.seat.me.0.list ≡ length c.owner.inside.seat.me.0.list
level c =
    ap (λ seat. length seat.list) c.front.view_is ∙ c.requires.level
    ∙ sym (ap (λ seat. length seat.list) c.owner.view_is)

-- the front's list is the owner's then
front_list : (c : goal.After-load)
    → c.join_seat.new.seat.me.0.list ≡ c.owner.inside.seat.me.0.list ++ c.args.event.now ∷ []
front_list c =
    let own = c.owner.inside.seat.me.0.list in
    let more : length (own ++ c.args.event.now ∷ []) ≡ length own + 1 =
    length-append own (c.args.event.now ∷ []) in
    ap (λ view. view.list) (front_joined c)
    ∙ longer_of-longer c.front.inside.seat.me.0.list (own ++ c.args.event.now ∷ [])
    (omega (arith, level c, more))

-- the two lists were equal
lists_equal : (c : goal.After-load)
    → c.front.inside.seat.me.0.list ≡ c.owner.inside.seat.me.0.list
lists_equal c =
    let own = c.owner.inside.seat.me.0.list in
    let before = c.front.inside.seat.me.0.list in
    let other : c.join_seat.new.seat.me.0.other ≡ before =
    ap (λ view. view.other) (front_joined c) in
    let more : length (own ++ c.args.event.now ∷ []) ≡ length own + 1 =
    length-append own (c.args.event.now ∷ []) in
    let shorter : length c.join_seat.new.seat.me.0.other ≤ length c.join_seat.new.seat.me.0.list =
    omega (arith, ap length other, ap length (front_list c), level c, more) in
    let begins = c.load.ensures.2.2 shorter in
    let begins : IsPrefix before (own ++ c.args.event.now ∷ []) =
    subst (λ xs. IsPrefix xs (own ++ c.args.event.now ∷ [])) other
    (subst (λ ys. IsPrefix c.join_seat.new.seat.me.0.other ys) (front_list c) begins) in
    prefix_alike before own (own ++ c.args.event.now ∷ []) begins (c.args.event.now ∷ [], refl)
    (level c)

pub invariant_of-owner : goal.invariant_of-owner
invariant_of-owner c =
    let own = c.owner.inside.seat.me.0.list in
    let more : length (own ++ c.args.event.now ∷ []) ≡ length own + 1 =
    length-append own (c.args.event.now ∷ []) in (
      ap (λ view. view.owns) (owner_stays c) ∙ c.owner.invariant.0,
      ap (λ n. n + 1) c.owner.invariant.1 ∙ sym more
          ∙ sym (ap (λ view. length view.list) (owner_stays c)),
    )

pub returns-clause-equal : goal.returns-clause-equal
returns-clause-equal c =
    sym (ap (λ seat. seat.list) c.front.view_is) ∙ lists_equal c
    ∙ ap (λ seat. seat.list) c.owner.view_is

pub returns-clause-owner : goal.returns-clause-owner
returns-clause-owner c =
    let table = c.split_seat-note.ensures.0 ∙ c.store.ensures.0
    ∙ ap (λ seat. seat.table) c.owner.view_is in
    let list = ap (λ view. view.list) (owner_stays c)
    ∙ ap (λ seat. seat.list ++ c.args.event.now ∷ []) c.owner.view_is in
    λ i. record { table = table i; list = list i }

pub returns-clause-front : goal.returns-clause-front
returns-clause-front c =
    let table = c.load.ensures.0 ∙ c.join_seat.ensures.0
    ∙ ap (λ seat. seat.table) c.front.view_is in
    let list = ap (λ me. me.0.list) c.load.ensures.2.0 ∙ front_list c
    ∙ ap (λ xs. xs ++ c.args.event.now ∷ []) (sym (lists_equal c))
    ∙ ap (λ seat. seat.list ++ c.args.event.now ∷ []) c.front.view_is in
    λ i. record { table = table i; list = list i }
