-- Reasons and splits together: if a reason holds at each leaf of a tree, the question has no
-- example; if one holds at some leaves, an example is in one of the others.
use Rattle.std.proofs.Common.{◌≡◌, ◌<◌, ℕ, true, false, ◌||◌, List, [], length, refl, ◌∙◌, inl, inr}
use Rattle.std.specs.List.{list_any}
use Rattle.std.proofs.lemmas.Bool.{false≢true, and_parts, and_from, or_left, or_right}
use Rattle.std.proofs.lemmas.List.Folds.{list_any-append}
use Rattle.league_core.specs.declared.sheet.Sheet.{Sheet}
use Rattle.league_core.specs.declared.question.Question.{Question}
use Rattle.league_core.specs.declared.zone.Literal.{Literal}
use Rattle.league_core.specs.declared.tree.TreeNode.{TreeNode}
use Rattle.league_core.specs.declared.tree.TreeNode.TheVariants.{Split, Open, Lent, Refuted}
use Rattle.league_core.specs.game.Results.{Results}
use Rattle.league_core.specs.game.Questions.{holds_at}
use Rattle.league_core.specs.game.Verdicts.{HasNoExample}
use Rattle.league_core.specs.search.Zones.{with_test, are_literals_true, IsMember}
use Rattle.league_core.specs.search.GivenVerdicts.{HoldsNowhereIn}
use Rattle.league_core.specs.search.Trees.{Tree, open_leaf, lent_leaf, refuted_leaf, branch}
use Rattle.league_core.specs.search.Trees.{NodesMeet, is_refuted}
use Rattle.league_core.specs.inside.Leaves.{leaves_from}
use Rattle.league_core.specs.search.Splits.{AreReasonsTrue}
use Rattle.league_core.proofs.TreeLemmas.{NodesMeet-weaker}
use Rattle.league_core.proofs.GivenLemmas.{none_at_root}
use Rattle.reason_laws.specs.inside.Splits.{HoldsAtNoLeaf}
use Rattle.reason_laws.specs.inside.Refutations.{IsRefutedLeaf, IsRefutation, is_unsettled_at}
use Rattle.reason_laws.proofs.TieLemmas.{reason_says}
use Rattle.reason_laws.proofs.SplitLemmas.{either_half, leaves_decide}

-- a question holds at no leaf that is refuted
refuted_holds_not : (sheet : Sheet) (season : Results) (question : Question)
    → question.club < length sheet.clubs → (zone : List Literal) (node : TreeNode)
    → IsRefutedLeaf sheet season question zone node → HoldsAtNoLeaf sheet season question zone node
refuted_holds_not sheet season question club_in zone (Split test fresh) refuted = tt
refuted_holds_not sheet season question club_in zone Open refuted = absurd refuted
refuted_holds_not sheet season question club_in zone (Lent number) refuted = absurd refuted
refuted_holds_not sheet season question club_in zone (Refuted reason fresh) refuted =
    λ finish lots. reason_says sheet season question zone reason finish lots club_in refuted

-- below a zone, a tree with a reason at each leaf shows that the question holds nowhere there
pub refutation_below : (sheet : Sheet) (season : Results) (question : Question)
    (zone : List Literal) (tree : Tree) → question.club < length sheet.clubs
    → NodesMeet (IsRefutedLeaf sheet season question) zone tree
    → HoldsNowhereIn sheet season question zone
refutation_below sheet season question zone tree club_in refuted =
    leaves_decide sheet season question tree zone
    (NodesMeet-weaker (IsRefutedLeaf sheet season question) (HoldsAtNoLeaf sheet season question)
    (refuted_holds_not sheet season question club_in) tree zone refuted)

-- a question with a refutation has no example
pub refutation_shows : (sheet : Sheet) (season : Results) (question : Question) (tree : Tree)
    → question.club < length sheet.clubs → IsRefutation sheet season question tree
    → HasNoExample sheet season question
refutation_shows sheet season question tree club_in refuted =
    none_at_root sheet season question
    (refutation_below sheet season question [] tree club_in refuted)

-- each leaf has a reason that holds exactly when each is refuted and the refuted ones have such
-- reasons
pub refuted_parts : (sheet : Sheet) (season : Results) (question : Question) (tree : Tree)
    (zone : List Literal) → NodesMeet (IsRefutedLeaf sheet season question) zone tree
    → (is_refuted tree ≡ true) × AreReasonsTrue sheet season question zone tree
refuted_parts sheet season question open_leaf zone refuted = absurd refuted
refuted_parts sheet season question (lent_leaf number) zone refuted = absurd refuted
refuted_parts sheet season question (refuted_leaf reason fresh) zone refuted = (refl, refuted)
refuted_parts sheet season question (branch test fresh yes_half no_half) zone refuted =
    let yes = refuted_parts sheet season question yes_half (with_test zone test true) refuted.1 in
    let no = refuted_parts sheet season question no_half (with_test zone test false) refuted.2 in
    (and_from (is_refuted yes_half) (is_refuted no_half) yes.0 no.0, (tt, yes.1, no.1))

pub refuted_from : (sheet : Sheet) (season : Results) (question : Question) (tree : Tree)
    (zone : List Literal) → is_refuted tree ≡ true → AreReasonsTrue sheet season question zone tree
    → NodesMeet (IsRefutedLeaf sheet season question) zone tree
refuted_from sheet season question open_leaf zone settled reasons = absurd (false≢true settled)
refuted_from sheet season question (lent_leaf number) zone settled reasons = absurd
    (false≢true settled)
refuted_from sheet season question (refuted_leaf reason fresh) zone settled reasons = reasons
refuted_from sheet season question (branch test fresh yes_half no_half) zone settled reasons =
    let parts = and_parts (is_refuted yes_half) (is_refuted no_half) settled in (
      tt,
      refuted_from sheet season question yes_half (with_test zone test true) parts.0 reasons.1,
      refuted_from sheet season question no_half (with_test zone test false) parts.1 reasons.2,
    )

-- if the reasons of the refuted leaves hold, a member at which the question holds is in another
-- leaf
pub example_unsettled : (sheet : Sheet) (season : Results) (question : Question) (tree : Tree)
    (zone : List Literal) (finish : Results) (lots : List ℕ) → question.club < length sheet.clubs
    → AreReasonsTrue sheet season question zone tree
    → IsMember sheet season question.club zone finish lots
    → holds_at sheet question finish lots ≡ true
    → list_any (is_unsettled_at sheet question finish lots) (leaves_from zone tree) ≡ true
example_unsettled sheet season question open_leaf zone finish lots club_in reasons member holds =
    or_left (are_literals_true sheet question.club finish lots zone) false member.literals
example_unsettled sheet season question
    (lent_leaf number) zone finish lots club_in reasons member holds =
    or_left (are_literals_true sheet question.club finish lots zone) false member.literals
example_unsettled sheet season question
    (refuted_leaf reason fresh) zone finish lots club_in reasons member holds =
    absurd (reason_says sheet season question zone reason finish lots club_in reasons member holds)
example_unsettled sheet season question
    (branch test fresh yes_half no_half) zone finish lots club_in reasons member holds =
    let unsettled = is_unsettled_at sheet question finish lots in
    let yes_leaves = leaves_from (with_test zone test true) yes_half in
    let no_leaves = leaves_from (with_test zone test false) no_half in
    list_any-append unsettled yes_leaves no_leaves
    ∙ elim (either_half sheet season question.club zone test finish lots member) as (λ _.
    (list_any unsettled yes_leaves || list_any unsettled no_leaves) ≡ true) [
      | inl within ↦
          or_left (list_any unsettled yes_leaves) (list_any unsettled no_leaves)
          (example_unsettled sheet season question yes_half
          (with_test zone test true) finish lots club_in reasons.1 within holds)
      | inr within ↦
          or_right (list_any unsettled yes_leaves) (list_any unsettled no_leaves)
          (example_unsettled sheet season question no_half
          (with_test zone test false) finish lots club_in reasons.2 within holds)
    ]
