-- Which reasons and tests a tree may have as lines: reasons that hold are by rivals of the sheet.
use Rattle.std.proofs.Common.{◌≡◌, ◌<◌, ℕ, Bool, true, false, not, ◌&&◌, ◌==◌, List, [], ◌∷◌}
use Rattle.std.proofs.Common.{length}
use Rattle.std.proofs.Common.{refl, nat_lt}
use Rattle.std.specs.Prelude.{IsTrue}
use Rattle.std.specs.List.{list_all, list_any}
use Rattle.std.proofs.lemmas.Bool.{and_parts, and_from, ltb-true}
use Rattle.league_core.specs.declared.sheet.Sheet.{Sheet}
use Rattle.league_core.specs.declared.question.Question.{Question}
use Rattle.league_core.specs.declared.zone.Test.TheVariants.{Rival}
use Rattle.league_core.specs.declared.zone.Literal.{Literal}
use Rattle.league_core.specs.declared.zone.Reason.{Reason}
use Rattle.league_core.specs.declared.zone.Reason.TheVariants.{Count, Window, Low, High, Tie}
use Rattle.league_core.specs.declared.tree.TreeNode.{TreeNode}
use Rattle.league_core.specs.declared.tree.TreeNode.TheVariants as node
use Rattle.league_core.specs.game.Results.{Results}
use Rattle.league_core.specs.game.ClubSets.{clubs_in}
use Rattle.league_core.specs.search.Zones.{with_test, marked_before, marked_after, is_of_rival}
use Rattle.league_core.specs.search.Options.{has_finish}
use Rattle.league_core.specs.search.Reasons.{has_member, has_reason, refutes}
use Rattle.league_core.specs.search.Trees.{Tree, open_leaf, lent_leaf, refuted_leaf, branch}
use Rattle.league_core.specs.search.Trees.{NodesMeet}
use Rattle.league_core.specs.search.Splits.{AreReasonsTrue}
use Rattle.cert_text.specs.Ranges.{is_test_in_range}
use Rattle.cert_text.specs.TreeLines.{is_test_for, are_tests_for}
use Rattle.line_tokens.specs.LineRanges.{is_reason_for}
use Rattle.line_tokens.specs.LineRanges.{is_path_for}
use Rattle.wide_lines.proofs.RivalLemmas.{marked_passes, tests_with}

-- a club by which a tree for the question may split is a rival of the sheet
rival_of_test : (sheet : Sheet) (question : Question) (club : ℕ)
    → is_test_for sheet question (Rival club) ≡ true
    → (nat_lt club (length sheet.clubs) && not (club == question.club)) ≡ true
rival_of_test sheet question club fits =
    let parts = and_parts (is_test_in_range (Rival club) && nat_lt club (length sheet.clubs))
    (not (club == question.club)) fits in
    and_from (nat_lt club (length sheet.clubs)) (not (club == question.club))
    (and_parts (is_test_in_range (Rival club)) (nat_lt club (length sheet.clubs)) parts.0).1
    parts.1

-- so its number is below that of the clubs
pub rival_below : (sheet : Sheet) (question : Question) (club : ℕ)
    → is_test_for sheet question (Rival club) ≡ true → club < length sheet.clubs
rival_below sheet question club fits =
    ltb-true club (length sheet.clubs)
    (and_parts (nat_lt club (length sheet.clubs)) (not (club == question.club))
    (rival_of_test sheet question club fits)).0

-- marked clubs are rivals of the sheet
marked_are_rivals : (sheet : Sheet) (question : Question) (zone : List Literal)
    (says : Literal → Bool) (clubs : List ℕ) → is_path_for sheet question zone ≡ true
    → list_all (λ club. list_any (λ it. is_of_rival club it.test && says it) zone) clubs ≡ true
    → list_all (λ club. nat_lt club (length sheet.clubs) && not (club == question.club)) clubs
    ≡ true
marked_are_rivals sheet question zone says [] path marked = refl
marked_are_rivals sheet question zone says (club ∷ clubs) path marked =
    let parts = and_parts (list_any (λ it. is_of_rival club it.test && says it) zone)
    (list_all (λ other. list_any (λ it. is_of_rival other it.test && says it) zone) clubs) marked in
    and_from (nat_lt club (length sheet.clubs) && not (club == question.club))
    (list_all (λ other. nat_lt other (length sheet.clubs) && not (other == question.club)) clubs)
    (rival_of_test sheet question club
    (marked_passes (is_test_for sheet question) says zone club path parts.0))
    (marked_are_rivals sheet question zone says clubs path parts.1)

-- a reason that holds is one that a leaf may have
pub reason_fits : (sheet : Sheet) (season : Results) (question : Question) (zone : List Literal)
    (reason : Reason) → is_path_for sheet question zone ≡ true
    → has_reason sheet season question zone reason ≡ true
    → is_reason_for sheet question reason ≡ true
unfolding has_reason
reason_fits sheet season question zone Count path holds = refl
reason_fits sheet season question zone Window path holds = refl
reason_fits sheet season question zone Tie path holds = refl
reason_fits sheet season question zone (Low set) path holds =
    let clubs = clubs_in set in
    let says = (and_parts (has_finish sheet season zone)
    (refutes sheet season question zone (Low set)) holds).1 in
    let front = (and_parts (has_member clubs && list_all (marked_after zone) clubs) _ says).0 in
    let parts = and_parts (has_member clubs) (list_all (marked_after zone) clubs) front in
    and_from (has_member clubs)
    (list_all (λ club. nat_lt club (length sheet.clubs) && not (club == question.club)) clubs)
    parts.0 (marked_are_rivals sheet question zone (λ it. not it.yes) clubs path parts.1)
reason_fits sheet season question zone (High set) path holds =
    let clubs = clubs_in set in
    let says = (and_parts (has_finish sheet season zone)
    (refutes sheet season question zone (High set)) holds).1 in
    let front = (and_parts (has_member clubs && list_all (marked_before zone) clubs) _ says).0 in
    let parts = and_parts (has_member clubs) (list_all (marked_before zone) clubs) front in
    and_from (has_member clubs)
    (list_all (λ club. nat_lt club (length sheet.clubs) && not (club == question.club)) clubs)
    parts.0 (marked_are_rivals sheet question zone (λ it. it.yes) clubs path parts.1)

-- what the line of a node says of tests and reasons may be said of the question
abbrev pub FitsAsLine : Sheet → Question → List Literal → TreeNode → Type 0
FitsAsLine sheet question zone (node.Split test fresh) = IsTrue (is_test_for sheet question test)
FitsAsLine sheet question zone node.Open = Unit {0}
FitsAsLine sheet question zone (node.Lent number) = Unit {0}
FitsAsLine sheet question zone (node.Refuted reason fresh) =
    IsTrue (is_reason_for sheet question reason)

-- so is it in a tree whose reasons hold
pub lines_fit : (sheet : Sheet) (season : Results) (question : Question) (tree : Tree)
    (zone : List Literal) → is_path_for sheet question zone ≡ true
    → are_tests_for sheet question tree ≡ true
    → AreReasonsTrue sheet season question zone tree
    → NodesMeet (FitsAsLine sheet question) zone tree
lines_fit sheet season question open_leaf zone path tests reasons = tt
lines_fit sheet season question (lent_leaf number) zone path tests reasons = tt
lines_fit sheet season question (refuted_leaf reason fresh) zone path tests reasons =
    reason_fits sheet season question zone reason path reasons
lines_fit sheet season question (branch test fresh yes_half no_half) zone path tests reasons =
    let all = and_parts (is_test_for sheet question test && are_tests_for sheet question yes_half)
    (are_tests_for sheet question no_half) tests in
    let front = and_parts (is_test_for sheet question test) (are_tests_for sheet question yes_half)
    all.0 in (
      front.0,
      lines_fit sheet season question yes_half (with_test zone test true)
          (tests_with sheet question zone test true path front.0) front.1 reasons.1,
      lines_fit sheet season question no_half (with_test zone test false)
          (tests_with sheet question zone test false path front.0) all.1 reasons.2,
    )
