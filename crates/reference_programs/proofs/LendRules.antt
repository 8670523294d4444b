-- What a half without the number keeps when a leaf of the other half is lent, and that the first
-- open leaf of the half that is looked through is that of the whole tree.
use Rattle.std.proofs.Common.{◌≡◌, ℕ, Bool, true, false, ◌||◌, List, [], ◌∷◌, ◌++◌, refl, sym, ap}
use Rattle.std.proofs.Common.{◌∙◌, append_assoc}
use Rattle.std.specs.List.{All}
use Rattle.std.proofs.lemmas.Bool.{or_parts}
use Rattle.std.proofs.lemmas.List.Elements.{All-nil, All-push, All-append}
use Rattle.league_core.specs.declared.zone.Test.{Test}
use Rattle.league_core.specs.declared.tree.TreeNode.TheVariants as node
use Rattle.league_core.specs.search.Trees.{Tree, open_leaf, lent_leaf, refuted_leaf, branch}
use Rattle.league_core.specs.search.Trees.{has_open}
use Rattle.tree_arena.specs.inside.Calls.{IsFirstLent, is_open_node, live_leaves}
use Rattle.league_core.proofs.LendingLemmas.{lent_zones_absent}
use Rattle.league_core.proofs.PutLemmas.{put_absent}

-- a leaf by itself
pub first_alone : (number : ℕ) → IsFirstLent number (lent_leaf number)
first_alone number = record {
  before = [];
  after = [];
  leaves = refl;
  none_open = All-nil (λ leaf. is_open_node leaf ≡ false);
}

-- in the half where the test is true
pub first_in_yes : (number : ℕ) (test : Test) (fresh : Bool) (yes_half no_half : Tree)
    → IsFirstLent number yes_half → IsFirstLent number (branch test fresh yes_half no_half)
first_in_yes number test fresh yes_half no_half first = record {
  before = first.before;
  after = first.after ++ live_leaves no_half;
  leaves = ap (λ list. list ++ live_leaves no_half) first.leaves
      ∙ append_assoc first.before (node.Lent number ∷ first.after) (live_leaves no_half);
  none_open = first.none_open;
}

-- a tree without an open leaf
none_of_leaves : (tree : Tree) → has_open tree ≡ false
    → All (λ leaf. is_open_node leaf ≡ false) (live_leaves tree)
none_of_leaves open_leaf none = cc
none_of_leaves (lent_leaf number) none =
    All-push (λ leaf. is_open_node leaf ≡ false) [] (node.Lent number)
    (All-nil (λ leaf. is_open_node leaf ≡ false)) refl
none_of_leaves (refuted_leaf reason fresh) none = All-nil (λ leaf. is_open_node leaf ≡ false)
none_of_leaves (branch test fresh yes_half no_half) none =
    let parts = or_parts (has_open yes_half) (has_open no_half) none in
    All-append (λ leaf. is_open_node leaf ≡ false) (live_leaves yes_half) (live_leaves no_half)
    (none_of_leaves yes_half parts.0) (none_of_leaves no_half parts.1)

-- in the other half, if nothing in that one is open
pub first_in_no : (number : ℕ) (test : Test) (fresh : Bool) (yes_half no_half : Tree)
    → has_open yes_half ≡ false → IsFirstLent number no_half
    → IsFirstLent number (branch test fresh yes_half no_half)
first_in_no number test fresh yes_half no_half none first = record {
  before = live_leaves yes_half ++ first.before;
  after = first.after;
  leaves = ap (λ list. live_leaves yes_half ++ list) first.leaves
      ∙ sym (append_assoc (live_leaves yes_half) first.before (node.Lent number ∷ first.after));
  none_open = All-append (λ leaf. is_open_node leaf ≡ false) (live_leaves yes_half) first.before
      (none_of_leaves yes_half none) first.none_open;
}

-- nothing is put there, and nothing is lent
pub ruleset lends =
    (put_absent, lent_zones_absent, first_alone, first_in_yes, first_in_no)
