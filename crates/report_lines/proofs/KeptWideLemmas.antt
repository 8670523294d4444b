-- Wide lines as a type holds them: a tree whose sets have no bit past their width shows what the
-- tree shows, whether it has near leaves or not.
use Rattle.std.proofs.Common.{◌≡◌, ℕ, ◌+◌, Bool, true, false, ◌&&◌, ◌||◌, ◌==◌, List, [], ◌∷◌}
use Rattle.std.proofs.Common.{◌++◌, map, refl, sym, ap, ap₂, ◌∙◌}
use Rattle.std.specs.Prelude.{if◌then◌else◌}
use Rattle.std.proofs.lemmas.List.{map-append}
use Rattle.league_core.specs.declared.sheet.Sheet.{Sheet}
use Rattle.league_core.specs.declared.question.Question.{Question}
use Rattle.league_core.specs.declared.zone.Literal.{Literal}
use Rattle.league_core.specs.game.Results.{Results}
use Rattle.league_core.specs.search.Zones.{with_test}
use Rattle.cert_text.specs.declared.proof_line.ProofLine.{ProofLine}
use Rattle.cert_text.specs.TreeLines.{is_test_for}
use Rattle.wide_lines.specs.declared.wide_reason.WideReason.{WideReason}
use Rattle.wide_lines.specs.declared.wide_reason.WideReason.TheVariants as reason
use Rattle.wide_lines.specs.declared.wide_node.WideNode.{WideNode}
use Rattle.wide_lines.specs.declared.wide_node.WideNode.TheVariants.{Split, Open, Refuted}
use Rattle.wide_lines.specs.declared.wide_line.WideLine.{WideLine}
use Rattle.wide_lines.specs.declared.wide_line.WideLine.TheVariants.{Plain, Near, NewNear}
use Rattle.wide_lines.specs.WideReasons.{has_wide_reason}
use Rattle.wide_lines.specs.WideTrees.{WideTree, open_leaf, refuted_leaf, branch, wide_preorder}
use Rattle.wide_lines.specs.WideTrees.{WideNodesMeet, wide_new_count, has_wide_open}
use Rattle.wide_lines.specs.WideTrees.{is_wide_refuted, IsWideReasonTrue}
use Rattle.wide_lines.specs.WideTreeLines.{plain_wide_line, marked_wide_line, plain_wide_lines}
use Rattle.wide_lines.specs.WideTreeLines.{marked_wide_lines, are_wide_tests_for}
use Rattle.wide_lines.specs.WideTreeLines.{IsWideRefutation, IsWideSpentTree}
use Rattle.report_lines.proofs.KeptLemmas.{has_reason-kept, kept_line, kept_reason, lines-kept}

-- ---- reasons, lines and nodes

-- a reason whose set has no bit past its width
abbrev pub kept_wide_reason : WideReason → WideReason
kept_wide_reason (reason.Plain why) = reason.Plain (kept_reason why)
kept_wide_reason (reason.Near rival) = reason.Near rival

-- it holds where the reason holds
wide_reason-kept : (sheet : Sheet) (season : Results) (question : Question) (zone : List Literal)
    (why : WideReason) → has_wide_reason sheet season question zone (kept_wide_reason why)
    ≡ has_wide_reason sheet season question zone why
wide_reason-kept sheet season question zone (reason.Plain why) =
    has_reason-kept sheet season question zone why
wide_reason-kept sheet season question zone (reason.Near rival) = refl

-- a line with such a reason
abbrev pub kept_wide_line : WideLine → WideLine
kept_wide_line (Plain shown) = Plain (kept_line shown)
kept_wide_line (Near rival) = Near rival
kept_wide_line (NewNear rival) = NewNear rival

-- lines without near leaves
pub plain_wide-kept : (lines : List ProofLine)
    → map kept_wide_line (map Plain lines) ≡ map Plain (map kept_line lines)
plain_wide-kept lines = sym (lines-kept kept_line kept_wide_line Plain (λ shown. refl) lines)

-- a node with such a reason
abbrev kept_wide_node : WideNode → WideNode
kept_wide_node (Split test fresh) = Split test fresh
kept_wide_node Open = Open
kept_wide_node (Refuted why fresh) = Refuted (kept_wide_reason why) fresh

-- ---- the lines of a tree

-- a tree of such nodes
abbrev pub kept_wide_tree : WideTree → WideTree
kept_wide_tree open_leaf = open_leaf
kept_wide_tree (refuted_leaf why fresh) = refuted_leaf (kept_wide_reason why) fresh
kept_wide_tree (branch test fresh yes_half no_half) =
    branch test fresh (kept_wide_tree yes_half) (kept_wide_tree no_half)

wide_preorder-kept : (tree : WideTree)
    → wide_preorder (kept_wide_tree tree) ≡ map kept_wide_node (wide_preorder tree)
wide_preorder-kept open_leaf = refl
wide_preorder-kept (refuted_leaf why fresh) = refl
wide_preorder-kept (branch test fresh yes_half no_half) =
    ap₂ (λ (yes no : List WideNode). Split test fresh ∷ (yes ++ no)) (wide_preorder-kept yes_half)
    (wide_preorder-kept no_half)
    ∙ ap (λ (nodes : List WideNode). Split test fresh ∷ nodes)
    (sym (map-append kept_wide_node (wide_preorder yes_half) (wide_preorder no_half)))

plain_node-kept : (node : WideNode)
    → plain_wide_line (kept_wide_node node) ≡ kept_wide_line (plain_wide_line node)
plain_node-kept (Split test fresh) = refl
plain_node-kept Open = refl
plain_node-kept (Refuted (reason.Plain why) fresh) = refl
plain_node-kept (Refuted (reason.Near rival) fresh) = refl

marked_node-kept : (node : WideNode)
    → marked_wide_line (kept_wide_node node) ≡ kept_wide_line (marked_wide_line node)
marked_node-kept (Split test true) = refl
marked_node-kept (Split test false) = refl
marked_node-kept Open = refl
marked_node-kept (Refuted (reason.Plain why) true) = refl
marked_node-kept (Refuted (reason.Plain why) false) = refl
marked_node-kept (Refuted (reason.Near rival) true) = refl
marked_node-kept (Refuted (reason.Near rival) false) = refl

pub plain_wide_lines-kept : (tree : WideTree)
    → map kept_wide_line (plain_wide_lines tree) ≡ plain_wide_lines (kept_wide_tree tree)
plain_wide_lines-kept tree =
    sym (lines-kept kept_wide_node kept_wide_line plain_wide_line plain_node-kept
    (wide_preorder tree))
    ∙ ap (map plain_wide_line) (sym (wide_preorder-kept tree))

pub marked_wide_lines-kept : (tree : WideTree)
    → map kept_wide_line (marked_wide_lines tree) ≡ marked_wide_lines (kept_wide_tree tree)
marked_wide_lines-kept tree =
    sym (lines-kept kept_wide_node kept_wide_line marked_wide_line marked_node-kept
    (wide_preorder tree))
    ∙ ap (map marked_wide_line) (sym (wide_preorder-kept tree))

-- ---- what is asked of a tree

wide_tests-kept : (sheet : Sheet) (question : Question) (tree : WideTree)
    → are_wide_tests_for sheet question (kept_wide_tree tree)
    ≡ are_wide_tests_for sheet question tree
wide_tests-kept sheet question open_leaf = refl
wide_tests-kept sheet question (refuted_leaf why fresh) = refl
wide_tests-kept sheet question (branch test fresh yes_half no_half) =
    ap₂ (λ (yes no : Bool). is_test_for sheet question test && yes && no)
    (wide_tests-kept sheet question yes_half) (wide_tests-kept sheet question no_half)

wide_refuted-kept : (tree : WideTree) → is_wide_refuted (kept_wide_tree tree) ≡ is_wide_refuted tree
wide_refuted-kept open_leaf = refl
wide_refuted-kept (refuted_leaf why fresh) = refl
wide_refuted-kept (branch test fresh yes_half no_half) =
    ap₂ (λ (yes no : Bool). yes && no) (wide_refuted-kept yes_half) (wide_refuted-kept no_half)

wide_count-kept : (tree : WideTree) → wide_new_count (kept_wide_tree tree) ≡ wide_new_count tree
wide_count-kept open_leaf = refl
wide_count-kept (refuted_leaf why fresh) = refl
wide_count-kept (branch test fresh yes_half no_half) =
    ap₂ (λ (yes no : ℕ). (if fresh then 1 else 0) + yes + no) (wide_count-kept yes_half)
    (wide_count-kept no_half)

wide_open-kept : (tree : WideTree) → has_wide_open (kept_wide_tree tree) ≡ has_wide_open tree
wide_open-kept open_leaf = refl
wide_open-kept (refuted_leaf why fresh) = refl
wide_open-kept (branch test fresh yes_half no_half) =
    ap₂ (λ (yes no : Bool). yes || no) (wide_open-kept yes_half) (wide_open-kept no_half)

wide_reasons-kept : (sheet : Sheet) (season : Results) (question : Question) (zone : List Literal)
    (tree : WideTree) → WideNodesMeet (IsWideReasonTrue sheet season question) zone tree
    → WideNodesMeet (IsWideReasonTrue sheet season question) zone (kept_wide_tree tree)
wide_reasons-kept sheet season question zone open_leaf meet = tt
wide_reasons-kept sheet season question zone (refuted_leaf why fresh) meet =
    wide_reason-kept sheet season question zone why ∙ meet
wide_reasons-kept sheet season question zone (branch test fresh yes_half no_half) meet = (
  tt,
  wide_reasons-kept sheet season question (with_test zone test true) yes_half meet.1,
  wide_reasons-kept sheet season question (with_test zone test false) no_half meet.2,
)

pub wide_refutation-kept : (sheet : Sheet) (season : Results) (question : Question)
    (tree : WideTree) → IsWideRefutation sheet season question tree
    → IsWideRefutation sheet season question (kept_wide_tree tree)
wide_refutation-kept sheet season question tree is = record {
  tests = wide_tests-kept sheet question tree ∙ is.tests;
  refuted = wide_refuted-kept tree ∙ is.refuted;
  reasons = wide_reasons-kept sheet season question [] tree is.reasons;
}

pub wide_spent-kept : (sheet : Sheet) (season : Results) (question : Question) (budget : ℕ)
    (tree : WideTree) → IsWideSpentTree sheet season question budget tree
    → IsWideSpentTree sheet season question budget (kept_wide_tree tree)
wide_spent-kept sheet season question budget tree is = record {
  tests = wide_tests-kept sheet question tree ∙ is.tests;
  spent = ap₂ (λ (count : ℕ) (waits : Bool). (count == budget) && waits) (wide_count-kept tree)
      (wide_open-kept tree) ∙ is.spent;
  reasons = wide_reasons-kept sheet season question [] tree is.reasons;
}
