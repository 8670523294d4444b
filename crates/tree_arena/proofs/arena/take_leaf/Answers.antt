use Rattle.std.proofs.Common.{List, ℕ, ◌∙◌, subst, get_or, length, ◌≡◌, ◌<◌}
use Rattle.tree_arena.proofs.LiveLemmas.{removed_once}
use Rattle.tree_arena.proofs.arena.take_leaf.Goals as goal

pub returns-clause-items : goal.returns-clause-items
returns-clause-items c =
    c.take_at-leaf.ensures.items
    ∙ removed_once c.args.list.now.items c.place_of-place.result c.args.leaf
    (subst (λ (list : List ℕ). c.place_of-place.result < length list) c.as_slice.ensures
    c.place_of-place.ensures.in_range)
    (subst (λ (list : List ℕ). get_or list c.place_of-place.result 0 ≡ c.args.leaf)
    c.as_slice.ensures c.place_of-place.ensures.is)
    c.requires.once
