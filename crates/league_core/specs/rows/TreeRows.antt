-- A tree worked by hand, computed when the crate is checked: a rival before the club or not, and if
-- it is before it a match that is drawn or not.
use Rattle.std.specs.Prelude.{◌≡◌, true, false, [], ◌∷◌, Some, None, map, refl}
use Rattle.league_core.specs.declared.zone.Test.{Test}
use Rattle.league_core.specs.declared.zone.Test.TheVariants.{Draw, Rival}
use Rattle.league_core.specs.declared.zone.Literal.{Literal}
use Rattle.league_core.specs.declared.zone.Reason.TheVariants.{Count, Tie}
use Rattle.league_core.specs.declared.tree.TreeNode.TheVariants.{Split, Open, Lent, Refuted}
use Rattle.league_core.specs.search.Trees.{Tree, open_leaf, lent_leaf, refuted_leaf, branch}
use Rattle.league_core.specs.search.Trees.{zones_of, preorder, node_count, new_count, has_open}
use Rattle.league_core.specs.search.Trees.{is_refuted}
use Rattle.league_core.specs.inside.Leaves.{Leaf, leaves_of}
use Rattle.league_core.specs.inside.Lending.{lent_count, times_lent, lent_zones, put, all_opened}
use Rattle.league_core.specs.search.TreeLists.{tree_of}

-- the test is true, the test is false
abbrev yes : Test → Literal
yes test = record { test = test; yes = true }

abbrev no : Test → Literal
no test = record { test = test; yes = false }

-- before and drawn: refuted in this epoch; before and not drawn: lent under 7; after: open
abbrev rival_then_draw : Tree
rival_then_draw =
    branch (Rival 3) false
    (branch (Draw 5) true (refuted_leaf Tie true) (lent_leaf 7))
    open_leaf

zones : zones_of rival_then_draw
    ≡ (yes (Rival 3) ∷ yes (Draw 5) ∷ [])
    ∷ (yes (Rival 3) ∷ no (Draw 5) ∷ [])
    ∷ (no (Rival 3) ∷ [])
    ∷ []
zones = refl

kinds : map (λ (leaf : Leaf). leaf.node) (leaves_of rival_then_draw)
    ≡ Refuted Tie true ∷ Lent 7 ∷ Open ∷ []
kinds = refl

counts : map (λ count. count rival_then_draw)
    (node_count ∷ new_count ∷ lent_count ∷ times_lent 7 ∷ times_lent 6 ∷ [])
    ≡ 5 ∷ 2 ∷ 1 ∷ 1 ∷ 0 ∷ []
counts = refl

-- under 7 the zone is known, from any zone of the root; under another number there is none
lent : lent_zones 7 (no (Draw 0) ∷ []) rival_then_draw
    ≡ (no (Draw 0) ∷ yes (Rival 3) ∷ no (Draw 5) ∷ []) ∷ []
lent = refl

not_lent : lent_zones 6 [] rival_then_draw ≡ []
not_lent = refl

-- the leaf comes back refuted, split, or open
refuted : put 7 (refuted_leaf Count true) rival_then_draw
    ≡ branch (Rival 3) false
    (branch (Draw 5) true (refuted_leaf Tie true) (refuted_leaf Count true)) open_leaf
refuted = refl

split : new_count (put 7 (branch (Rival 4) true open_leaf open_leaf) rival_then_draw) ≡ 3
split = refl

opened : put 7 open_leaf rival_then_draw ∷ all_opened rival_then_draw ∷ []
    ≡ branch (Rival 3) false (branch (Draw 5) true (refuted_leaf Tie true) open_leaf) open_leaf
    ∷ branch (Rival 3) false (branch (Draw 5) true (refuted_leaf Tie true) open_leaf) open_leaf
    ∷ []
opened = refl

-- something waits, so it is not refuted; with both leaves refuted it is
settled : has_open rival_then_draw ∷ is_refuted rival_then_draw
    ∷ is_refuted (branch (Rival 3) false (refuted_leaf Tie true) (refuted_leaf Count false)) ∷ []
    ≡ true ∷ false ∷ true ∷ []
settled = refl

-- its list, and back
listed : preorder rival_then_draw
    ≡ Split (Rival 3) false ∷ Split (Draw 5) true ∷ Refuted Tie true ∷ Lent 7 ∷ Open ∷ []
listed = refl

read : tree_of (Split (Rival 3) false ∷ Split (Draw 5) true ∷ Refuted Tie true ∷ Lent 7 ∷ Open ∷ [])
    ≡ Some rival_then_draw
read = refl

-- a half too few, a leaf too many, and nothing at all are no tree
unread : map tree_of ((Split (Rival 3) false ∷ Open ∷ []) ∷ (Open ∷ Open ∷ []) ∷ [] ∷ [])
    ≡ None ∷ None ∷ None ∷ []
unread = refl
