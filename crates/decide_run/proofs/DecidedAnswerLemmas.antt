-- What is decided, as the text of an answer: an item for each row, with proofs and without.
use Rattle.std.proofs.Common.{ℕ, Bool, true, false, List, [], ◌∷◌, map, refl, subst}
use Rattle.std.specs.Prelude.{All}
use Rattle.std.proofs.lemmas.List.Elements.{All-head, All-tail}
use Rattle.league_core.specs.declared.sheet.Sheet.{Sheet}
use Rattle.league_core.specs.game.Results.{Results}
use Rattle.wide_lines.specs.declared.wide_line.WideLine.{WideLine}
use Rattle.wide_lines.specs.WideTexts.{text_of_wide_line}
use Rattle.answer_rows.specs.declared.word.Verdict.{Verdict}
use Rattle.answer_rows.specs.declared.word.Word.{Word}
use Rattle.answer_rows.specs.declared.word.Word.TheVariants.{Clinched, Lost, Possible, Unsettled}
use Rattle.answer_rows.specs.Items.{AnswerRow, answer_row}
use Rattle.answer_rows.specs.Parts.{IsMadeOf}
use Rattle.answer_rows.specs.inside.ItemRanges.{lines_shown}
use Rattle.answer_rows.specs.inside.Verdicts.{item_text, text_of_items, text_of_verdicts}
use Rattle.decide_run.specs.Decisions.{IsDecidedItem}
use Rattle.decide_run.specs.DecidedTexts.{IsDecidedItemText, IsDecidedText}
use Rattle.decide_run.specs.inside.AllDecided.{AreAllDecided, IsShownDecided}

-- an item with proofs is one without them
decided-without : (sheet : Sheet) (season : Results) (line club : ℕ) (word : Word)
    (lines : List WideLine) → IsDecidedItem true sheet season line club word lines
    → IsDecidedItem false sheet season line club word (lines_shown false word lines)
decided-without sheet season line club Clinched lines shown = (shown.0, refl)
decided-without sheet season line club Lost lines shown = (shown.0, refl)
decided-without sheet season line club Possible lines shown = shown
decided-without sheet season line club Unsettled lines shown = shown

-- the lines that are written show the item
decided-shows : (proofs : Bool) (sheet : Sheet) (season : Results) (found : Verdict WideLine)
    → IsShownDecided sheet season found
    → IsDecidedItem proofs sheet season found.line found.club found.word
    (lines_shown proofs found.word found.proof.items)
decided-shows true sheet season found shown = shown
decided-shows false sheet season found shown =
    decided-without sheet season found.line found.club found.word found.proof.items shown

-- the items of what is decided
decided-items : (proofs : Bool) (sheet : Sheet) (season : Results) (all : List (Verdict WideLine))
    → All (IsShownDecided sheet season) all
    → IsMadeOf (IsDecidedItemText proofs sheet season) (map answer_row all)
    (text_of_items text_of_wide_line proofs sheet all)
decided-items proofs sheet season [] shown = refl
decided-items proofs sheet season (found ∷ all) shown = (
  item_text text_of_wide_line proofs sheet found,
  text_of_items text_of_wide_line proofs sheet all,
  refl,
  (
    found.word,
    lines_shown proofs found.word found.proof.items,
    decided-shows proofs sheet season found
        (All-head (IsShownDecided sheet season) found all shown),
    refl,
  ),
  decided-items proofs sheet season all
      (All-tail (IsShownDecided sheet season) found all shown),
)

-- what is decided of a season has the text of an answer
pub decided_made : (proofs : Bool) (sheet : Sheet) (season : Results) (epoch : ℕ)
    (all : List (Verdict WideLine)) → AreAllDecided sheet season all
    → IsDecidedText proofs sheet season epoch
    (text_of_verdicts text_of_wide_line proofs sheet epoch all)
decided_made proofs sheet season epoch all are =
    let P : List AnswerRow → Type 0 =
    λ rows. IsMadeOf (IsDecidedItemText proofs sheet season) rows
    (text_of_items text_of_wide_line proofs sheet all) in (
      text_of_items text_of_wide_line proofs sheet all,
      refl,
      subst P are.rows (decided-items proofs sheet season all are.each),
    )
