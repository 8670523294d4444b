-- Wide trees: what a refutation shows, and that trees without near leaves are wide trees.
use Rattle.std.proofs.Common.{◌≡◌, ◌<◌, ℕ, ◌+◌, Bool, true, false, ◌&&◌, ◌==◌, List, [], ◌∷◌}
use Rattle.std.proofs.Common.{◌++◌, map, length, refl, sym, ap, ap₂, ◌∙◌, inl, inr}
use Rattle.std.specs.Prelude.{if◌then◌else◌}
use Rattle.std.proofs.lemmas.Bool.{and_parts, and_from, or_cases, or_left, or_right, false≢true}
use Rattle.std.proofs.lemmas.List.{map-append}
use Rattle.league_core.specs.declared.sheet.Sheet.{Sheet}
use Rattle.league_core.specs.declared.question.Question.{Question}
use Rattle.league_core.specs.declared.zone.Literal.{Literal}
use Rattle.league_core.specs.declared.tree.TreeNode.{TreeNode}
use Rattle.league_core.specs.declared.tree.TreeNode.TheVariants as node
use Rattle.league_core.specs.game.Results.{Results}
use Rattle.league_core.specs.game.Verdicts.{HasNoExample}
use Rattle.league_core.specs.search.Zones.{with_test}
use Rattle.league_core.specs.search.GivenVerdicts.{HoldsNowhereIn}
use Rattle.league_core.specs.search.Trees.{Tree}
use Rattle.league_core.specs.search.Trees as trees
use Rattle.league_core.specs.search.Splits as splits
use Rattle.league_core.proofs.GivenLemmas.{none_at_root}
use Rattle.reason_laws.proofs.SplitLemmas.{either_half}
use Rattle.reason_laws.proofs.TieLemmas.{reason_says}
use Rattle.near_laws.proofs.NearLemmas.{near_says}
use Rattle.cert_text.specs.TreeLines.{is_test_for}
use Rattle.cert_text.specs.TreeLines as plain
use Rattle.wide_lines.specs.declared.wide_reason.WideReason.{WideReason}
use Rattle.wide_lines.specs.declared.wide_reason.WideReason.TheVariants as reason
use Rattle.wide_lines.specs.declared.wide_node.WideNode.{WideNode}
use Rattle.wide_lines.specs.declared.wide_node.WideNode.TheVariants.{Split, Open, Refuted}
use Rattle.wide_lines.specs.declared.wide_line.WideLine.{WideLine}
use Rattle.wide_lines.specs.declared.wide_line.WideLine.TheVariants.{Plain}
use Rattle.wide_lines.specs.WideReasons.{has_wide_reason}
use Rattle.wide_lines.specs.WideTrees.{WideTree, open_leaf, refuted_leaf, branch, wide_tree}
use Rattle.wide_lines.specs.WideTrees.{wide_preorder, wide_new_count, has_wide_open}
use Rattle.wide_lines.specs.WideTrees.{is_wide_refuted}
use Rattle.wide_lines.specs.WideTrees.{AreWideReasonsTrue}
use Rattle.wide_lines.specs.WideTreeLines.{plain_wide_line, marked_wide_line}
use Rattle.wide_lines.specs.WideTreeLines.{are_wide_tests_for}
use Rattle.wide_lines.specs.WideTreeLines.{IsWideRefutation, ShowsWideRefuted}
use Rattle.wide_lines.specs.WideTreeLines.{ShowsWideSpent}

-- ---- what a refutation shows

-- a wide reason that holds leaves the question no member of the zone
wide_reason_says : (sheet : Sheet) (season : Results) (question : Question) (zone : List Literal)
    (why : WideReason) → question.club < length sheet.clubs
    → has_wide_reason sheet season question zone why ≡ true
    → HoldsNowhereIn sheet season question zone
wide_reason_says sheet season question zone (reason.Plain why) club_in holds =
    λ finish lots. reason_says sheet season question zone why finish lots club_in holds
wide_reason_says sheet season question zone (reason.Near rival) club_in holds =
    λ finish lots. near_says sheet season question zone rival finish lots club_in holds

-- below a zone, a tree with a reason at each leaf shows that the question holds nowhere there
pub refuted_below : (sheet : Sheet) (season : Results) (question : Question) (tree : WideTree)
    (zone : List Literal) → question.club < length sheet.clubs → is_wide_refuted tree ≡ true
    → AreWideReasonsTrue sheet season question zone tree → HoldsNowhereIn sheet season question zone
refuted_below sheet season question open_leaf zone club_in refuted reasons =
    absurd (false≢true refuted)
refuted_below sheet season question (refuted_leaf why fresh) zone club_in refuted reasons =
    wide_reason_says sheet season question zone why club_in reasons
refuted_below sheet season question (branch test fresh yes_half no_half) zone club_in refuted
    reasons =
    let both = and_parts (is_wide_refuted yes_half) (is_wide_refuted no_half) refuted in
    λ finish lots member holds.
    elim (either_half sheet season question.club zone test finish lots member) as (λ _. ⊥) [
      | inl within ↦ refuted_below sheet season question yes_half (with_test zone test true)
          club_in both.0 reasons.1 finish lots within holds
      | inr within ↦ refuted_below sheet season question no_half (with_test zone test false)
          club_in both.1 reasons.2 finish lots within holds
    ]

pub refutation_is_sound : (sheet : Sheet) (season : Results) (question : Question)
    (tree : WideTree) → question.club < length sheet.clubs
    → IsWideRefutation sheet season question tree → HasNoExample sheet season question
refutation_is_sound sheet season question tree club_in is =
    none_at_root sheet season question
    (refuted_below sheet season question tree [] club_in is.refuted is.reasons)

-- ---- trees without near leaves

wide-tests : (sheet : Sheet) (question : Question) (tree : Tree)
    → are_wide_tests_for sheet question (wide_tree tree) ≡ plain.are_tests_for sheet question tree
wide-tests sheet question trees.open_leaf = refl
wide-tests sheet question (trees.lent_leaf number) = refl
wide-tests sheet question (trees.refuted_leaf why fresh) = refl
wide-tests sheet question (trees.branch test fresh yes_half no_half) =
    ap₂ (λ (yes no : Bool). is_test_for sheet question test && yes && no)
    (wide-tests sheet question yes_half) (wide-tests sheet question no_half)

wide-refuted : (tree : Tree) → is_wide_refuted (wide_tree tree) ≡ trees.is_refuted tree
wide-refuted trees.open_leaf = refl
wide-refuted (trees.lent_leaf number) = refl
wide-refuted (trees.refuted_leaf why fresh) = refl
wide-refuted (trees.branch test fresh yes_half no_half) =
    ap₂ (λ (yes no : Bool). yes && no) (wide-refuted yes_half) (wide-refuted no_half)

wide-count : (tree : Tree) → wide_new_count (wide_tree tree) ≡ trees.new_count tree
wide-count trees.open_leaf = refl
wide-count (trees.lent_leaf number) = refl
wide-count (trees.refuted_leaf why fresh) = refl
wide-count (trees.branch test fresh yes_half no_half) =
    ap₂ (λ (yes no : ℕ). (if fresh then 1 else 0) + yes + no) (wide-count yes_half)
    (wide-count no_half)

-- a tree with an open leaf has one as a wide tree
wide-open : (tree : Tree) → trees.has_open tree ≡ true → has_wide_open (wide_tree tree) ≡ true
wide-open trees.open_leaf some = refl
wide-open (trees.lent_leaf number) some = refl
wide-open (trees.refuted_leaf why fresh) some = some
wide-open (trees.branch test fresh yes_half no_half) some =
    elim (or_cases (trees.has_open yes_half) (trees.has_open no_half) some) [
      | inl here ↦ or_left (has_wide_open (wide_tree yes_half)) (has_wide_open (wide_tree no_half))
          (wide-open yes_half here)
      | inr there ↦ or_right (has_wide_open (wide_tree yes_half)) (has_wide_open (wide_tree
          no_half))
          (wide-open no_half there)
    ]

wide-reasons : (sheet : Sheet) (season : Results) (question : Question) (tree : Tree)
    (zone : List Literal) → splits.AreReasonsTrue sheet season question zone tree
    → AreWideReasonsTrue sheet season question zone (wide_tree tree)
wide-reasons sheet season question trees.open_leaf zone reasons = tt
wide-reasons sheet season question (trees.lent_leaf number) zone reasons = tt
wide-reasons sheet season question (trees.refuted_leaf why fresh) zone reasons = reasons
wide-reasons sheet season question (trees.branch test fresh yes_half no_half) zone reasons = (
  tt,
  wide-reasons sheet season question yes_half (with_test zone test true) reasons.1,
  wide-reasons sheet season question no_half (with_test zone test false) reasons.2,
)

-- the lines are those of the tree, whichever lines its nodes have
wide-lines : (wide : WideNode → WideLine) (line : TreeNode → _)
    → (wide Open ≡ Plain (line node.Open))
    → ((number : ℕ) → wide Open ≡ Plain (line (node.Lent number)))
    → ((why : _) (fresh : Bool)
    → wide (Refuted (reason.Plain why) fresh) ≡ Plain (line (node.Refuted why fresh)))
    → ((test : _) (fresh : Bool) → wide (Split test fresh) ≡ Plain (line (node.Split test fresh)))
    → (tree : Tree)
    → map (λ shown. Plain shown) (map line (trees.preorder tree)) ≡ map wide (wide_preorder
    (wide_tree
    tree))
wide-lines wide line waits lent refuted split trees.open_leaf = ap (λ it. it ∷ []) (sym waits)
wide-lines wide line waits lent refuted split (trees.lent_leaf number) =
    ap (λ it. it ∷ []) (sym (lent number))
wide-lines wide line waits lent refuted split (trees.refuted_leaf why fresh) =
    ap (λ it. it ∷ []) (sym (refuted why fresh))
wide-lines wide line waits lent refuted split (trees.branch test fresh yes_half no_half) =
    let yes = trees.preorder yes_half in
    let no = trees.preorder no_half in
    let plain = λ (shown : _). Plain shown in
    ap₂ (λ (first : WideLine) (rest : List WideLine). first ∷ rest) (sym (split test fresh))
    (ap (map plain) (map-append line yes no)
    ∙ map-append plain (map line yes) (map line no)
    ∙ ap₂ (λ (front back : List WideLine). front ++ back)
    (wide-lines wide line waits lent refuted split yes_half)
    (wide-lines wide line waits lent refuted split no_half)
    ∙ sym (map-append wide (wide_preorder (wide_tree yes_half)) (wide_preorder (wide_tree
    no_half))))

split_marked : (test : _) (fresh : Bool)
    → marked_wide_line (Split test fresh) ≡ Plain (plain.marked_line (node.Split test fresh))
split_marked test true = refl
split_marked test false = refl

leaf_marked : (why : _) (fresh : Bool)
    → marked_wide_line (Refuted (reason.Plain why) fresh)
    ≡ Plain (plain.marked_line (node.Refuted why fresh))
leaf_marked why true = refl
leaf_marked why false = refl

-- a refutation without near leaves is a wide one
pub refutation_is_wide : (sheet : Sheet) (season : Results) (question : Question) (lines : List _)
    → plain.ShowsRefuted sheet season question lines
    → ShowsWideRefuted sheet season question (map (λ shown. Plain shown) lines)
refutation_is_wide sheet season question lines shown =
    let tree = shown.0 in
    let is : plain.IsRefutationTree sheet season question tree = shown.1 in (
      wide_tree tree,
      record {
        tests = wide-tests sheet question tree ∙ is.tests;
        refuted = wide-refuted tree ∙ is.refuted;
        reasons = wide-reasons sheet season question tree [] is.reasons;
      },
      ap (map (λ shown. Plain shown)) shown.2
          ∙ wide-lines plain_wide_line plain.plain_line refl (λ number. refl) (λ why fresh. refl)
          (λ test fresh. refl) tree,
    )

-- so is a tree on which the budget was spent
pub spent_is_wide : (sheet : Sheet) (season : Results) (question : Question) (budget : ℕ)
    (lines : List _) → plain.ShowsSpent sheet season question budget lines
    → ShowsWideSpent sheet season question budget (map (λ shown. Plain shown) lines)
spent_is_wide sheet season question budget lines shown =
    let tree = shown.0 in
    let is : plain.IsSpentTree sheet season question budget tree = shown.1 in
    let both = and_parts (trees.new_count tree == budget) (trees.has_open tree) is.spent in (
      wide_tree tree,
      record {
        tests = wide-tests sheet question tree ∙ is.tests;
        spent = and_from (wide_new_count (wide_tree tree) == budget) (has_wide_open (wide_tree
            tree))
            (ap (λ it. it == budget) (wide-count tree) ∙ both.0) (wide-open tree both.1);
        reasons = wide-reasons sheet season question tree [] is.reasons;
      },
      ap (map (λ shown. Plain shown)) shown.2
          ∙ wide-lines marked_wide_line plain.marked_line refl (λ number. refl) leaf_marked
          split_marked
          tree,
    )
