-- Trees all of whose splits and refuted leaves are new: they stay so while leaves are lent and come
-- back as new nodes.
use Rattle.std.proofs.Common.{◌≡◌, ℕ, Bool, true, false, ◌==◌, cond, refl}
use Rattle.league_core.specs.search.Trees.{Tree, open_leaf, lent_leaf, refuted_leaf, branch}
use Rattle.league_core.specs.inside.Lending.{put}
use Rattle.answer_rows.specs.NewTrees.{is_all_new}
use Rattle.league_core.proofs.plain.TruthValues.{three_from, three_parts}

-- a new tree in the place of leaves of a new tree
pub is_all_new-put : (number : ℕ) (new tree : Tree) → is_all_new new ≡ true
    → is_all_new tree ≡ true → is_all_new (put number new tree) ≡ true
is_all_new-put number new open_leaf fresh all = refl
is_all_new-put number new (lent_leaf other) fresh all = at_leaf (other == number)
  where
    at_leaf : (b : Bool) → is_all_new (cond b new (lent_leaf other)) ≡ true
    at_leaf true = fresh
    at_leaf false = refl
is_all_new-put number new (refuted_leaf reason marked) fresh all = all
is_all_new-put number new (branch test marked yes_half no_half) fresh all =
    let parts = three_parts marked (is_all_new yes_half) (is_all_new no_half) all in
    three_from marked (is_all_new (put number new yes_half)) (is_all_new (put number new no_half))
    parts.0 (is_all_new-put number new yes_half fresh parts.1)
    (is_all_new-put number new no_half fresh parts.2)

-- a tree is new if it was new before a leaf was lent
pub is_all_new-lend : (number : ℕ) (tree : Tree) → is_all_new (put number open_leaf tree) ≡ true
    → is_all_new tree ≡ true
is_all_new-lend number open_leaf all = refl
is_all_new-lend number (lent_leaf other) all = refl
is_all_new-lend number (refuted_leaf reason marked) all = all
is_all_new-lend number (branch test marked yes_half no_half) all =
    let parts = three_parts marked (is_all_new (put number open_leaf yes_half))
    (is_all_new (put number open_leaf no_half)) all in
    three_from marked (is_all_new yes_half) (is_all_new no_half) parts.0
    (is_all_new-lend number yes_half parts.1) (is_all_new-lend number no_half parts.2)
