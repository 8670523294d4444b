-- Each row of an answer has an item, and so each season has an answer.
use Rattle.std.proofs.Common.{◌≡◌, ◌≢◌, ◌⊎◌, inl, inr, ℕ, Bool, true, false, List, [], ◌∷◌, ◌++◌}
use Rattle.std.proofs.Common.{map, refl, ap}
use Rattle.std.specs.Prelude.{All}
use Rattle.std.proofs.lemmas.List.Elements.{All-nil, All-cons, All-head, All-tail}
use Rattle.league_core.specs.declared.sheet.Sheet.{Sheet}
use Rattle.league_core.specs.declared.question.Claim.TheVariants.{Inside, Outside}
use Rattle.league_core.specs.declared.question.Question.{Question}
use Rattle.league_core.specs.game.Results.{Results, are_results}
use Rattle.league_core.specs.game.Seasons.{IsLeague}
use Rattle.league_core.specs.game.Questions.{full_question}
use Rattle.league_core.specs.game.Verdicts.{HasExample}
use Rattle.cert_text.specs.declared.proof_line.ProofLine.{ProofLine}
use Rattle.cert_text.specs.TreeLines.{plain_lines, with_tree_head}
use Rattle.cert_text.specs.ExampleLines.{example_lines}
use Rattle.answer_rows.specs.declared.word.Word.{Word}
use Rattle.answer_rows.specs.declared.word.Word.TheVariants.{Clinched, Lost, Possible, Unsettled}
use Rattle.answer_rows.specs.Items.{AnswerRow, IsItemShown, answer_rows}
use Rattle.answer_rows.specs.inside.ItemRanges.{lines_shown}
use Rattle.answer_rows.proofs.PartLemmas.{refutation_is_true}
use Rattle.answer_rows.proofs.RowLemmas.{IsRowOf, rows_asked}
use Rattle.answer_laws.specs.inside.Completeness.{HasRefutation}
use Rattle.answer_laws.proofs.DecidedLemmas.{question_decided}
use Rattle.answer_laws.specs.inside.SeasonAnswers.{AnswerItem, IsKnownItem, AreItemsOf}

-- ---- without proofs

-- an item with proofs is one without them
pub item_without : (sheet : Sheet) (season : Results) (line club : ℕ) (word : Word)
    (proof : List ProofLine) → IsItemShown true sheet season line club word proof
    → IsItemShown false sheet season line club word (lines_shown false word proof)
item_without sheet season line club Clinched proof shown = (shown.0, refl)
item_without sheet season line club Lost proof shown = (shown.0, refl)
item_without sheet season line club Possible proof shown = shown
item_without sheet season line club Unsettled proof shown = shown

-- ---- rows

-- an item about this row
pub record HasItem (proofs : Bool) (sheet : Sheet) (season : Results) (row : AnswerRow)
    : Type 0 where
  pub word : Word
  pub lines : List ProofLine
  pub shown : IsItemShown proofs sheet season row.line row.club word lines
  pub known : word ≢ Unsettled

-- with proofs
proved_item : (sheet : Sheet) (season : Results) (row : AnswerRow) → IsLeague sheet season
    → are_results season ≡ true → IsRowOf sheet row → HasItem true sheet season row
proved_item sheet season row league results asked =
    decide (question_decided sheet season outside league results (asked Outside))
    (question_decided sheet season inside league results (asked Inside))
  where
    outside : Question
    outside = full_question row.club row.line Outside

    inside : Question
    inside = full_question row.club row.line Inside

    decide : HasExample sheet season outside ⊎ HasRefutation sheet season outside
        → HasExample sheet season inside ⊎ HasRefutation sheet season inside
        → HasItem true sheet season row
    decide (inr refuted) other = record {
      word = Clinched;
      lines = with_tree_head Outside (plain_lines refuted.0);
      shown = (
        refutation_is_true sheet season outside refuted.0 (asked Outside).club refuted.1,
        (plain_lines refuted.0, (refuted.0, refuted.1, refl), refl),
      );
      known = λ is. (cc);
    }
    decide (inl without) (inr refuted) = record {
      word = Lost;
      lines = with_tree_head Inside (plain_lines refuted.0);
      shown = (
        refutation_is_true sheet season inside refuted.0 (asked Inside).club refuted.1,
        (plain_lines refuted.0, (refuted.0, refuted.1, refl), refl),
      );
      known = λ is. (cc);
    }
    decide (inl without) (inl within) = record {
      word = Possible;
      lines = example_lines Inside season within.0 within.1
          ++ example_lines Outside season without.0 without.1;
      shown = (
        example_lines Inside season within.0 within.1,
        example_lines Outside season without.0 without.1,
        refl,
        (within.0, within.1, within.2, refl),
        (without.0, without.1, without.2, refl),
      );
      known = λ is. (cc);
    }

-- with proofs or without
item_of : (proofs : Bool) (sheet : Sheet) (season : Results) (row : AnswerRow)
    → IsLeague sheet season
    → are_results season ≡ true → IsRowOf sheet row → HasItem proofs sheet season row
item_of true sheet season row league results asked =
    proved_item sheet season row league results asked
item_of false sheet season row league results asked =
    let item = proved_item sheet season row league results asked in
    record {
      word = item.word;
      lines = lines_shown false item.word item.lines;
      shown = item_without sheet season row.line row.club item.word item.lines item.shown;
      known = item.known;
    }

-- ---- all rows

-- items for some rows
pub record HasItems (proofs : Bool) (sheet : Sheet) (season : Results) (rows : List AnswerRow)
    : Type 0 where
  pub items : List AnswerItem
  pub about : map (λ (item : AnswerItem). item.about) items ≡ rows
  pub each : All (IsKnownItem proofs sheet season) items

items_of : (proofs : Bool) (sheet : Sheet) (season : Results) (rows : List AnswerRow)
    → IsLeague sheet season → are_results season ≡ true → All (IsRowOf sheet) rows
    → HasItems proofs sheet season rows
items_of proofs sheet season [] league results asked =
    record { items = []; about = refl; each = All-nil (IsKnownItem proofs sheet season) }
items_of proofs sheet season (row ∷ rows) league results asked =
    let first = item_of proofs sheet season row league results
    (All-head (IsRowOf sheet) row rows asked) in
    let more = items_of proofs sheet season rows league results
    (All-tail (IsRowOf sheet) row rows asked) in
    let item : AnswerItem = record { about = row; word = first.word; lines = first.lines } in
    record {
      items = item ∷ more.items;
      about = ap (λ (rs : List AnswerRow). row ∷ rs) more.about;
      each = All-cons (IsKnownItem proofs sheet season) item more.items
          (record { shown = first.shown; known = first.known }) more.each;
    }

pub season_answered : (proofs : Bool) (sheet : Sheet) (season : Results) → IsLeague sheet season
    → are_results season ≡ true
    → (items : List AnswerItem) × AreItemsOf proofs sheet season items
season_answered proofs sheet season league results =
    let found = items_of proofs sheet season (answer_rows sheet) league results
    (rows_asked sheet league.limits) in
    (found.items, record { rows = found.about; each = found.each })
