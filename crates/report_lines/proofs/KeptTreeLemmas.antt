-- A tree whose sets have no bit past their width shows what the tree shows.
use Rattle.std.proofs.Common.{◌≡◌, ℕ, ◌+◌, Bool, true, false, ◌&&◌, ◌||◌, ◌==◌, List, []}
use Rattle.std.proofs.Common.{refl, ap₂, ◌∙◌}
use Rattle.std.specs.Prelude.{if◌then◌else◌}
use Rattle.league_core.specs.declared.sheet.Sheet.{Sheet}
use Rattle.league_core.specs.declared.question.Question.{Question}
use Rattle.league_core.specs.declared.zone.Literal.{Literal}
use Rattle.league_core.specs.declared.tree.TreeNode.{TreeNode}
use Rattle.league_core.specs.declared.tree.TreeNode.TheVariants.{Split, Open, Lent, Refuted}
use Rattle.league_core.specs.game.Results.{Results}
use Rattle.league_core.specs.search.Zones.{with_test}
use Rattle.league_core.specs.search.Trees.{Tree, open_leaf, lent_leaf, refuted_leaf, branch}
use Rattle.league_core.specs.search.Trees.{NodesMeet, is_refuted, new_count, has_open}
use Rattle.league_core.specs.search.Splits.{IsReasonTrue, IsUnitIfNew}
use Rattle.cert_text.specs.TreeLines.{is_test_for, are_tests_for}
use Rattle.cert_text.specs.TreeLines.{IsRefutationTree, IsFairSpentTree}
use Rattle.report_lines.proofs.KeptLemmas.{has_reason-kept, kept_node, kept_tree}

-- ---- what is asked of a tree

tests-kept : (sheet : Sheet) (question : Question) (tree : Tree)
    → are_tests_for sheet question (kept_tree tree) ≡ are_tests_for sheet question tree
tests-kept sheet question open_leaf = refl
tests-kept sheet question (lent_leaf number) = refl
tests-kept sheet question (refuted_leaf reason fresh) = refl
tests-kept sheet question (branch test fresh yes_half no_half) =
    ap₂ (λ (yes no : Bool). is_test_for sheet question test && yes && no)
    (tests-kept sheet question yes_half) (tests-kept sheet question no_half)

refuted-kept : (tree : Tree) → is_refuted (kept_tree tree) ≡ is_refuted tree
refuted-kept open_leaf = refl
refuted-kept (lent_leaf number) = refl
refuted-kept (refuted_leaf reason fresh) = refl
refuted-kept (branch test fresh yes_half no_half) =
    ap₂ (λ (yes no : Bool). yes && no) (refuted-kept yes_half) (refuted-kept no_half)

count-kept : (tree : Tree) → new_count (kept_tree tree) ≡ new_count tree
count-kept open_leaf = refl
count-kept (lent_leaf number) = refl
count-kept (refuted_leaf reason fresh) = refl
count-kept (branch test fresh yes_half no_half) =
    ap₂ (λ (yes no : ℕ). (if fresh then 1 else 0) + yes + no) (count-kept yes_half)
    (count-kept no_half)

open-kept : (tree : Tree) → has_open (kept_tree tree) ≡ has_open tree
open-kept open_leaf = refl
open-kept (lent_leaf number) = refl
open-kept (refuted_leaf reason fresh) = refl
open-kept (branch test fresh yes_half no_half) =
    ap₂ (λ (yes no : Bool). yes || no) (open-kept yes_half) (open-kept no_half)

-- what holds of each node, holds of each of its nodes
pub nodes-kept : (Fact : List Literal → TreeNode → Type 0)
    → ((zone : List Literal) (node : TreeNode) → Fact zone node → Fact zone (kept_node node))
    → (zone : List Literal) (tree : Tree) → NodesMeet Fact zone tree
    → NodesMeet Fact zone (kept_tree tree)
nodes-kept Fact each zone open_leaf meet = each zone Open meet
nodes-kept Fact each zone (lent_leaf number) meet = each zone (Lent number) meet
nodes-kept Fact each zone (refuted_leaf reason fresh) meet = each zone (Refuted reason fresh) meet
nodes-kept Fact each zone (branch test fresh yes_half no_half) meet = (
  each zone (Split test fresh) meet.0,
  nodes-kept Fact each (with_test zone test true) yes_half meet.1,
  nodes-kept Fact each (with_test zone test false) no_half meet.2,
)

reason-true : (sheet : Sheet) (season : Results) (question : Question) (zone : List Literal)
    (node : TreeNode) → IsReasonTrue sheet season question zone node
    → IsReasonTrue sheet season question zone (kept_node node)
reason-true sheet season question zone (Split test fresh) is = tt
reason-true sheet season question zone Open is = tt
reason-true sheet season question zone (Lent number) is = tt
reason-true sheet season question zone (Refuted reason fresh) is =
    has_reason-kept sheet season question zone reason ∙ is

unit-kept : (sheet : Sheet) (season : Results) (question : Question) (zone : List Literal)
    (node : TreeNode) → IsUnitIfNew sheet season question zone node
    → IsUnitIfNew sheet season question zone (kept_node node)
unit-kept sheet season question zone (Split test fresh) is = is
unit-kept sheet season question zone Open is = is
unit-kept sheet season question zone (Lent number) is = is
unit-kept sheet season question zone (Refuted reason fresh) is =
    λ new. ((is new).0, has_reason-kept sheet season question zone reason ∙ (is new).1)

pub refutation-kept : (sheet : Sheet) (season : Results) (question : Question) (tree : Tree)
    → IsRefutationTree sheet season question tree
    → IsRefutationTree sheet season question (kept_tree tree)
refutation-kept sheet season question tree is = record {
  tests = tests-kept sheet question tree ∙ is.tests;
  refuted = refuted-kept tree ∙ is.refuted;
  reasons = nodes-kept (IsReasonTrue sheet season question) (reason-true sheet season question) []
      tree is.reasons;
}

pub spent-kept : (sheet : Sheet) (season : Results) (question : Question) (budget : ℕ) (tree : Tree)
    → IsFairSpentTree sheet season question budget tree
    → IsFairSpentTree sheet season question budget (kept_tree tree)
spent-kept sheet season question budget tree is = record {
  tree_spent = record {
    tests = tests-kept sheet question tree ∙ is.tree_spent.tests;
    spent = ap₂ (λ (count : ℕ) (waits : Bool). (count == budget) && waits) (count-kept tree)
        (open-kept tree) ∙ is.tree_spent.spent;
    reasons = nodes-kept (IsReasonTrue sheet season question)
        (reason-true sheet season question) [] tree is.tree_spent.reasons;
  };
  units = nodes-kept (IsUnitIfNew sheet season question) (unit-kept sheet season question) [] tree
      is.units;
}
