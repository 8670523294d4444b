-- Each season has an answer: for each line and each club an item that is right and shown, with
-- proofs and without. None of them is unsettled. Each statement is the contract of a function of
-- src/season_answers.rt that does nothing.
use Rattle.std.specs.Prelude.{◌≡◌, ◌≢◌, ℕ, Bool, true, false, IsTrue, List, map, All}
use Rattle.league_core.specs.declared.sheet.Sheet.{Sheet}
use Rattle.league_core.specs.game.Results.{Results, are_results}
use Rattle.league_core.specs.game.Seasons.{IsLeague}
use Rattle.cert_text.specs.declared.proof_line.ProofLine.{ProofLine}
use Rattle.answer_rows.specs.declared.word.Word.{Word}
use Rattle.answer_rows.specs.declared.word.Word.TheVariants.{Unsettled}
use Rattle.answer_rows.specs.Items.{AnswerRow, IsItemShown, answer_rows}
use Rattle.answer_rows.specs.inside.ItemRanges.{lines_shown}

-- a word about a row of an answer, and the lines that show it; their number is not bounded
pub record AnswerItem : Type 0 where
  pub about : AnswerRow
  pub word : Word
  pub lines : List ProofLine

-- the item is right and shown, and its word is known
pub record IsKnownItem (proofs : Bool) (sheet : Sheet) (season : Results) (item : AnswerItem)
    : Type 0 where
  pub shown : IsItemShown proofs sheet season item.about.line item.about.club item.word item.lines
  pub known : item.word ≢ Unsettled

-- one item for each row of an answer, in order
pub record AreItemsOf (proofs : Bool) (sheet : Sheet) (season : Results)
    (items : List AnswerItem) : Type 0 where
  pub rows : map (λ (item : AnswerItem). item.about) items ≡ answer_rows sheet
  pub each : All (IsKnownItem proofs sheet season) items

-- each season of a sheet within the limits has an answer
abbrev pub EachSeasonHasAnAnswer : Type 0
EachSeasonHasAnAnswer =
    (proofs : Bool) (sheet : Sheet) (season : Results) → IsLeague sheet season
    → IsTrue (are_results season)
    → (items : List AnswerItem) × AreItemsOf proofs sheet season items

-- an item with proofs is one without them, if the lines of refutations are left out
abbrev pub ItemsWithoutProofs : Type 0
ItemsWithoutProofs =
    (sheet : Sheet) (season : Results) (line club : ℕ) (word : Word) (proof : List ProofLine)
    → IsItemShown true sheet season line club word proof
    → IsItemShown false sheet season line club word (lines_shown false word proof)
