-- Facts of all nodes of a tree, when its leaves are lent, replaced, or opened again.
use Rattle.std.proofs.Common.{ℕ, Bool, true, false, ◌==◌, cond, List, [], ◌∷◌, ◌++◌, inl, inr}
use Rattle.std.specs.List.{All}
use Rattle.std.proofs.lemmas.Bool.{cases_Bool, eqb-true}
use Rattle.std.proofs.lemmas.List.Elements.{All-nil, All-cons, All-head, All-tail, All-append}
use Rattle.league_core.specs.declared.zone.Literal.{Literal}
use Rattle.league_core.specs.declared.tree.TreeNode.{TreeNode}
use Rattle.league_core.specs.declared.tree.TreeNode.TheVariants.{Open, Lent}
use Rattle.league_core.specs.search.Zones.{with_test}
use Rattle.league_core.specs.search.Trees.{Tree, open_leaf, lent_leaf, refuted_leaf, branch}
use Rattle.league_core.specs.search.Trees.{NodesMeet}
use Rattle.league_core.specs.inside.Lending.{lent_zones, put, all_opened}

-- what holds of two lists together holds of each
All-parts : (P : List Literal → Type 0) (xs ys : List (List Literal)) → All P (xs ++ ys) → All P xs
    × All P ys
All-parts P [] ys all = (All-nil P, all)
All-parts P (x ∷ xs) ys all =
    let parts = All-parts P xs ys (All-tail P x (xs ++ ys) all) in
    (All-cons P x xs (All-head P x (xs ++ ys) all) parts.0, parts.1)

-- a tree whose nodes have the fact in each zone that it is put into keeps it for all nodes
pub NodesMeet-put : (Fact : List Literal → TreeNode → Type 0) (number : ℕ) (new tree : Tree)
    (zone : List Literal) → NodesMeet Fact zone tree
    → All (λ z. NodesMeet Fact z new) (lent_zones number zone tree)
    → NodesMeet Fact zone (put number new tree)
NodesMeet-put Fact number new open_leaf zone facts there = facts
NodesMeet-put Fact number new (lent_leaf other) zone facts there = at_leaf (other == number) there
  where
    at_leaf : (b : Bool) → All (λ z. NodesMeet Fact z new) (cond b (zone ∷ []) [])
        → NodesMeet Fact zone (cond b new (lent_leaf other))
    at_leaf true all = All-head (λ z. NodesMeet Fact z new) zone [] all
    at_leaf false all = facts
NodesMeet-put Fact number new (refuted_leaf reason fresh) zone facts there = facts
NodesMeet-put Fact number new (branch test fresh yes_half no_half) zone facts there =
    let parts = All-parts (λ z. NodesMeet Fact z new) (lent_zones number
    (with_test zone test true) yes_half)
    (lent_zones number (with_test zone test false) no_half) there in (
      facts.0,
      NodesMeet-put Fact number new yes_half (with_test zone test true) facts.1 parts.0,
      NodesMeet-put Fact number new no_half (with_test zone test false) facts.2 parts.1,
    )

-- a fact of the tree with the leaves of a number open is one of the tree with them lent, if it says
-- no more of a lent leaf than of an open one
pub NodesMeet-lend : (Fact : List Literal → TreeNode → Type 0) (number : ℕ) (tree : Tree)
    (zone : List Literal) → ((z : List Literal) (lent : ℕ) → Fact z Open → Fact z (Lent lent))
    → NodesMeet Fact zone (put number open_leaf tree) → NodesMeet Fact zone tree
NodesMeet-lend Fact number open_leaf zone gives facts = facts
NodesMeet-lend Fact number (lent_leaf other) zone gives facts = at_leaf (other == number) facts
  where
    at_leaf : (b : Bool) → NodesMeet Fact zone (cond b open_leaf (lent_leaf other))
        → Fact zone (Lent other)
    at_leaf true fact = gives zone other fact
    at_leaf false fact = fact
NodesMeet-lend Fact number (refuted_leaf reason fresh) zone gives facts = facts
NodesMeet-lend Fact number (branch test fresh yes_half no_half) zone gives facts = (
  facts.0,
  NodesMeet-lend Fact number yes_half (with_test zone test true) gives facts.1,
  NodesMeet-lend Fact number no_half (with_test zone test false) gives facts.2,
)

-- a fact of all nodes is one of each leaf that is lent under a number
pub NodesMeet-lent : (Fact : List Literal → TreeNode → Type 0) (number : ℕ) (tree : Tree)
    (zone : List Literal) → NodesMeet Fact zone tree
    → All (λ z. Fact z (Lent number)) (lent_zones number zone tree)
NodesMeet-lent Fact number open_leaf zone facts = All-nil (λ z. Fact z (Lent number))
NodesMeet-lent Fact number (lent_leaf other) zone facts =
    elim (cases_Bool (other == number)) as (λ _. All (λ z. Fact z (Lent number))
    (lent_zones number zone (lent_leaf other))) [
      | inl same ↦
          rw same (All-cons (λ z. Fact z (Lent number)) zone []
          (rw (eqb-true other number same) at facts) (All-nil (λ z. Fact z (Lent number))))
      | inr different ↦ rw different (All-nil (λ z. Fact z (Lent number)))
    ]
NodesMeet-lent Fact number (refuted_leaf reason fresh) zone facts =
    All-nil (λ z. Fact z (Lent number))
NodesMeet-lent Fact number (branch test fresh yes_half no_half) zone facts =
    All-append (λ z. Fact z (Lent number)) (lent_zones number (with_test zone test true) yes_half)
    (lent_zones number (with_test zone test false) no_half)
    (NodesMeet-lent Fact number yes_half (with_test zone test true) facts.1)
    (NodesMeet-lent Fact number no_half (with_test zone test false) facts.2)

-- a fact stays when all lent leaves are opened, if it says no more of an open leaf than of a lent
-- one
pub NodesMeet-all_opened : (Fact : List Literal → TreeNode → Type 0) (tree : Tree)
    (zone : List Literal) → ((z : List Literal) (lent : ℕ) → Fact z (Lent lent) → Fact z Open)
    → NodesMeet Fact zone tree → NodesMeet Fact zone (all_opened tree)
NodesMeet-all_opened Fact open_leaf zone gives facts = facts
NodesMeet-all_opened Fact (lent_leaf number) zone gives facts = gives zone number facts
NodesMeet-all_opened Fact (refuted_leaf reason fresh) zone gives facts = facts
NodesMeet-all_opened Fact (branch test fresh yes_half no_half) zone gives facts = (
  facts.0,
  NodesMeet-all_opened Fact yes_half (with_test zone test true) gives facts.1,
  NodesMeet-all_opened Fact no_half (with_test zone test false) gives facts.2,
)
