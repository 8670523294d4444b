use Rattle.std.proofs.Common.{List, ℕ, ap, ◌∙◌, subst, get_or, set, length, ◌≡◌, ◌<◌, ◌+◌}
use Rattle.std.proofs.Common.{add-one}
use Rattle.std.specs.List.{insert}
use Rattle.tree_arena.proofs.LiveLemmas.{split_once}
use Rattle.tree_arena.proofs.arena.split_leaf.Goals as goal

pub returns-clause-items : goal.returns-clause-items
returns-clause-items c =
    let list = c.args.list.now.items in
    let place = c.place_of-place.result in
    let one = c.args.first + 1 in
    c.put_at.ensures.items
    ∙ ap (λ (items : List ℕ). insert items (place + 1) c.args.first) c.replace-leaf.ensures.items
    ∙ ap (λ (at : ℕ). insert (set list place one) at c.args.first) (add-one place)
    ∙ split_once list place c.args.leaf one c.args.first
    (subst (λ (items : List ℕ). place < length items) c.as_slice.ensures
    c.place_of-place.ensures.in_range)
    (subst (λ (items : List ℕ). get_or items place 0 ≡ c.args.leaf) c.as_slice.ensures
    c.place_of-place.ensures.is)
    c.requires.once
