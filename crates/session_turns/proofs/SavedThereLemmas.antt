-- Each season has a saved text: a question has an example, and then any tree will do, or a tree of
-- proper splits that refutes it.
use Rattle.std.proofs.Common.{◌≡◌, ◌⊎◌, inl, inr, ℕ, true, false, not, ◌&&◌, List, [], ◌∷◌, ◌++◌}
use Rattle.std.proofs.Common.{refl}
use Rattle.std.specs.Prelude.{All}
use Rattle.std.proofs.lemmas.Bool.{and_parts, false≢true}
use Rattle.std.proofs.lemmas.List.Elements.{All-head, All-tail}
use Rattle.league_core.specs.declared.sheet.Sheet.{Sheet}
use Rattle.league_core.specs.declared.question.Question.{Question}
use Rattle.league_core.specs.declared.zone.Literal.{Literal}
use Rattle.league_core.specs.declared.zone.Test.{Test}
use Rattle.league_core.specs.game.Questions.{IsQuestionOf}
use Rattle.league_core.specs.game.Results.{Results, are_results}
use Rattle.league_core.specs.game.Seasons.{IsLeague}
use Rattle.league_core.specs.search.Trees.{Tree, open_leaf, lent_leaf, refuted_leaf, branch}
use Rattle.league_core.specs.search.Trees.{NodesMeet, is_refuted}
use Rattle.league_core.specs.search.Zones.{is_of_rival, is_test_of, with_test}
use Rattle.league_core.proofs.HalfLemmas.{root_has_finish}
use Rattle.tree_reuse.specs.Asked.{IsAskedNode}
use Rattle.tree_reuse.proofs.RetargetLemmas.{proper_asked}
use Rattle.cert_text.specs.Ranges.{is_test_in_range}
use Rattle.cert_text.specs.Rows.{text_of_row}
use Rattle.cert_text.specs.TreeLines.{is_test_for}
use Rattle.cert_text.proofs.ProperLemmas.{proper_tests}
use Rattle.line_tokens.proofs.FitLemmas.{FitsAsLine, lines_fit}
use Rattle.answer_rows.specs.Parts.{IsMadeOf}
use Rattle.answer_rows.specs.AskedQuestions.{questions_of}
use Rattle.answer_rows.proofs.AskedLemmas.{all_are_asked}
use Rattle.answer_laws.proofs.DecidedLemmas.{HasExampleInBox, RefutesBelow, zone_is_decided}
use Rattle.pool_save.specs.SavedTexts.{IsSavedNode, IsSavedTree, end_fields}
use Rattle.pool_save.specs.SavedItems.{IsItemSaved, IsSavedOf, saved_item_text}

-- ---- trees

-- the numbers of a test that a line may have are in range
test_in_range : (sheet : Sheet) (question : Question) (test : Test)
    → is_test_for sheet question test ≡ true → is_test_in_range test ≡ true
test_in_range sheet question test fits =
    (and_parts (is_test_in_range test) (is_test_of sheet test)
    (and_parts (is_test_in_range test && is_test_of sheet test)
    (not (is_of_rival question.club test)) fits).0).0

-- a refutation whose lines say what may be said of the question, and whose tests may be asked, may
-- be saved
refutation_saved : (sheet : Sheet) (question : Question) (tree : Tree) (zone : List Literal)
    → is_refuted tree ≡ true → NodesMeet (IsAskedNode sheet question) zone tree
    → NodesMeet (FitsAsLine sheet question) zone tree
    → NodesMeet (IsSavedNode sheet question) zone tree
refutation_saved sheet question open_leaf zone refuted asked fits = absurd (false≢true refuted)
refutation_saved sheet question (lent_leaf number) zone refuted asked fits =
    absurd (false≢true refuted)
refutation_saved sheet question (refuted_leaf reason fresh) zone refuted asked fits = (asked, fits)
refutation_saved sheet question (branch test fresh yes_half no_half) zone refuted asked fits =
    let both = and_parts (is_refuted yes_half) (is_refuted no_half) refuted in (
      (asked.0, test_in_range sheet question test fits.0),
      refutation_saved sheet question yes_half (with_test zone test true) both.0 asked.1 fits.1,
      refutation_saved sheet question no_half (with_test zone test false) both.1 asked.2 fits.2,
    )

-- so may one of proper splits
refuted_saved : (sheet : Sheet) (season : Results) (question : Question) (tree : Tree)
    → IsLeague sheet season → are_results season ≡ true
    → RefutesBelow sheet season question [] tree → IsSavedTree sheet question tree
refuted_saved sheet season question tree league results below =
    refutation_saved sheet question tree [] below.refuted
    (proper_asked sheet season question [] tree below.proper)
    (lines_fit sheet season question tree [] refl
    (proper_tests sheet season question tree [] league results below.proper) below.reasons)

-- ---- items

-- each question has an item
item_there : (sheet : Sheet) (season : Results) (question : Question) → IsLeague sheet season
    → are_results season ≡ true → IsQuestionOf sheet question
    → (text : List ℕ) × IsItemSaved sheet season question text
item_there sheet season question league results asked =
    by (zone_is_decided sheet season question [] league.of_sheet asked
    (root_has_finish sheet season))
  where
    by : HasExampleInBox sheet season question []
        ⊎ ((tree : Tree) × RefutesBelow sheet season question [] tree)
        → (text : List ℕ) × IsItemSaved sheet season question text
    by (inl example) = (
      saved_item_text sheet question open_leaf,
      record {
        tree = open_leaf;
        may_be = (tt, refl);
        worth = inr (inr (example.0, example.1, example.2));
        lines = refl;
      },
    )
    by (inr found) = (
      saved_item_text sheet question found.0,
      record {
        tree = found.0;
        may_be = refuted_saved sheet season question found.0 league results found.1;
        worth = inl (record {
          tests = proper_tests sheet season question found.0 [] league results found.1.proper;
          refuted = found.1.refuted;
          reasons = found.1.reasons;
        });
        lines = refl;
      },
    )

-- so have several, one after another
items_there : (sheet : Sheet) (season : Results) (asked : List Question) → IsLeague sheet season
    → are_results season ≡ true → All (IsQuestionOf sheet) asked
    → (items : List ℕ) × IsMadeOf (IsItemSaved sheet season) asked items
items_there sheet season [] league results all = ([], refl)
items_there sheet season (question ∷ asked) league results all =
    let item = item_there sheet season question league results
    (All-head (IsQuestionOf sheet) question asked all) in
    let rest = items_there sheet season asked league results
    (All-tail (IsQuestionOf sheet) question asked all) in
    (item.0 ++ rest.0, (item.0, rest.0, refl, item.1, rest.1))

pub saved_there : (sheet : Sheet) (season : Results) → IsLeague sheet season
    → are_results season ≡ true → (text : List ℕ) × IsSavedOf sheet season text
saved_there sheet season league results =
    let made = items_there sheet season (questions_of sheet) league results
    (all_are_asked sheet league.limits) in (
      made.0 ++ text_of_row end_fields,
      record { items = made.0; each = made.1; lines = refl },
    )
