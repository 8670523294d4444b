-- The tree of zones with a search's cases: its nodes and its counts.
use Rattle.std.proofs.Common.{◌≡◌, ℕ, suc, ◌+◌, ◌*◌, Bool, true, false, not, ◌&&◌, ◌||◌, List}
use Rattle.std.proofs.Common.{[], ◌∷◌, ◌++◌, length, map, replicate, refl, sym, ap, ap₂, ◌∙◌, subst}
use Rattle.std.proofs.Common.{arith, if◌then◌else◌, append_assoc}
use Rattle.std.specs.List.{list_all, sum_by}
use Rattle.std.proofs.Math.Bool.{and-false}
use Rattle.std.proofs.lemmas.Bool.{false≢true}
use Rattle.std.proofs.lemmas.List.{map-append}
use Rattle.std.proofs.lemmas.List.Folds.{list_all-append, sum_by-replicate}
use Rattle.std.proofs.lemmas.List.Sums.{sum_by-append}
use Rattle.league_core.specs.declared.tree.TreeNode.{TreeNode}
use Rattle.league_core.specs.declared.tree.TreeNode.TheVariants as tree_node
use Rattle.league_core.specs.declared.zone.Literal.{Literal}
use Rattle.league_core.specs.declared.zone.Reason.{Reason}
use Rattle.league_core.specs.declared.zone.Test.{Test}
use Rattle.league_core.specs.search.Trees.{NodesMeet, new_count, has_open, is_refuted, preorder}
use Rattle.league_core.specs.search.Zones.{with_test}
use Rattle.depth_search.specs.declared.kind.CaseNode.{CaseNode}
use Rattle.depth_search.specs.declared.kind.CaseNode.TheVariants as node
use Rattle.depth_search.specs.inside.Cases.{Cases, left_open, refuted, split, case_nodes}
use Rattle.depth_search.specs.inside.Cases.{HoldsBelow, is_made}
use Rattle.depth_search.specs.inside.Searches.{IsSpentAfter}
use Rattle.depth_search.specs.inside.ZoneTrees.{new_tree, new_node}

-- ---- nodes

-- a half below a base is the half after the base
pub with_test-below : (base zone : List Literal) (test : Test) (holds : Bool)
    → with_test (base ++ zone) test holds ≡ base ++ with_test zone test holds
with_test-below base zone test holds =
    append_assoc base zone (record { test = test; yes = holds } ∷ [])

module _ (refutes : List Literal → Reason → Type 0) (splits : List Literal → Test → Type 0)
    (Fact : List Literal → TreeNode → Type 0) (base : List Literal)
    (of_open : (way : List Literal) → Fact (base ++ way) tree_node.Open)
    (of_refuted : (way : List Literal) (reason : Reason) → refutes way reason
    → Fact (base ++ way) (tree_node.Refuted reason true))
    (of_split : (way : List Literal) (test : Test) → splits way test
    → Fact (base ++ way) (tree_node.Split test true)) where
  -- a fact of the cases at the end of each way is one of the nodes below the base
  pub NodesMeet-cases : (way : List Literal) (cases : Cases Reason)
      → HoldsBelow refutes splits way cases → NodesMeet Fact (base ++ way) (new_tree cases)
  NodesMeet-cases way left_open below = of_open way
  NodesMeet-cases way (refuted reason) below = of_refuted way reason below
  NodesMeet-cases way (split test yes_half no_half) below = (
    of_split way test below.0,
    subst (λ it. NodesMeet Fact it (new_tree yes_half)) (sym (with_test-below base way test true))
        (NodesMeet-cases (with_test way test true) yes_half below.1),
    subst (λ it. NodesMeet Fact it (new_tree no_half)) (sym (with_test-below base way test false))
        (NodesMeet-cases (with_test way test false) no_half below.2),
  )

-- its nodes are those of the cases
pub preorder-cases : (cases : Cases Reason)
    → preorder (new_tree cases) ≡ map new_node (case_nodes cases)
preorder-cases left_open = refl
preorder-cases (refuted reason) = refl
preorder-cases (split test yes_half no_half) =
    ap (λ rest. tree_node.Split test true ∷ rest)
    (ap₂ (λ a b. a ++ b) (preorder-cases yes_half) (preorder-cases no_half)
    ∙ sym (map-append new_node (case_nodes yes_half) (case_nodes no_half)))

-- ---- counts

-- a node counts if it is no open leaf
abbrev weight : CaseNode Reason → ℕ
weight node = if is_made node then 1 else 0

sum_by-made : (first : CaseNode Reason) (nodes : List (CaseNode Reason))
    → weight first ≡ 1 → sum_by weight (first ∷ nodes) ≡ 1 + sum_by weight nodes
sum_by-made first nodes one =
    let both = sum_by-append weight (first ∷ []) nodes in
    let single : sum_by weight (first ∷ []) ≡ 0 + weight first = refl in
    omega (arith, both, single, one)

new_count-cases : (cases : Cases Reason)
    → new_count (new_tree cases) ≡ sum_by weight (case_nodes cases)
new_count-cases left_open = refl
new_count-cases (refuted reason) = refl
new_count-cases (split test yes_half no_half) =
    let both = sum_by-append weight (case_nodes yes_half) (case_nodes no_half) in
    let all = sum_by-made (node.Split test) (case_nodes yes_half ++ case_nodes no_half) refl in
    omega (arith, new_count-cases yes_half, new_count-cases no_half, both, all)

-- each leaf is refuted exactly if no leaf is open
pub is_refuted-cases : (cases : Cases Reason)
    → is_refuted (new_tree cases) ≡ list_all is_made (case_nodes cases)
is_refuted-cases left_open = refl
is_refuted-cases (refuted reason) = refl
is_refuted-cases (split test yes_half no_half) =
    ap₂ (λ a b. a && b) (is_refuted-cases yes_half) (is_refuted-cases no_half)
    ∙ sym (list_all-append is_made (case_nodes yes_half) (case_nodes no_half))

has_open-cases : (cases : Cases Reason)
    → has_open (new_tree cases) ≡ not (list_all is_made (case_nodes cases))
has_open-cases left_open = refl
has_open-cases (refuted reason) = refl
has_open-cases (split test yes_half no_half) =
    ap₂ (λ a b. a || b) (has_open-cases yes_half) (has_open-cases no_half)
    ∙ not_both (list_all is_made (case_nodes yes_half)) (list_all is_made (case_nodes no_half))
    ∙ ap not (sym (list_all-append is_made (case_nodes yes_half) (case_nodes no_half)))
  where
    not_both : (a b : Bool) → (not a || not b) ≡ not (a && b)
    not_both true b = refl
    not_both false b = refl

-- nodes that were made count one each
made_weigh : (made : List (CaseNode Reason)) → list_all is_made made ≡ true
    → sum_by weight made ≡ length made
made_weigh [] all = refl
made_weigh (node.Split test ∷ made) all =
    omega (arith, sum_by-made (node.Split test) made refl, made_weigh made all)
made_weigh (node.Refuted reason ∷ made) all =
    omega (arith, sum_by-made (node.Refuted reason) made refl, made_weigh made all)
made_weigh (node.Open ∷ made) all = absurd (false≢true all)

-- if so many units were spent, so many nodes are new, and a leaf is open
pub cases_spent : (cases : Cases Reason) (budget : ℕ) → IsSpentAfter budget (case_nodes cases)
    → (new_count (new_tree cases) ≡ budget) × (has_open (new_tree cases) ≡ true)
cases_spent cases budget spent =
    let made = spent.0 in
    let rest : List (CaseNode Reason) = replicate (1 + spent.1) node.Open in
    let none : sum_by weight rest ≡ (1 + spent.1) * 0 =
    sum_by-replicate weight (1 + spent.1) node.Open in
    let weighs : sum_by weight (case_nodes cases) ≡ length made + (1 + spent.1) * 0 =
    ap (sum_by weight) spent.2 ∙ sum_by-append weight made rest
    ∙ ap₂ (λ a b. a + b) (made_weigh made spent.4) none in
    let more : 1 + spent.1 ≡ suc spent.1 = omega arith in
    let shut : list_all is_made rest ≡ false =
    ap (λ n. list_all is_made (replicate {A = CaseNode Reason} n node.Open)) more in
    let some_open : list_all is_made (case_nodes cases) ≡ false =
    ap (list_all is_made) spent.2 ∙ list_all-append is_made made rest
    ∙ ap (λ b. list_all is_made made && b) shut ∙ and-false (list_all is_made made) in (
      omega (arith, new_count-cases cases, weighs, spent.3),
      has_open-cases cases ∙ ap not some_open,
    )
