-- What the mode `decide` answers: for each line and each club the word of the season, and after it
-- what shows it.
use Rattle.std.specs.Prelude.{◌≡◌, ℕ, Bool, List, ◌++◌}
use Rattle.league_core.specs.declared.sheet.Sheet.{Sheet}
use Rattle.league_core.specs.game.Results.{Results}
use Rattle.wide_lines.specs.declared.wide_line.WideLine.{WideLine}
use Rattle.wide_lines.specs.WideTexts.{text_of_wide_line}
use Rattle.answer_rows.specs.declared.word.Word.{Word}
use Rattle.answer_rows.specs.Items.{AnswerRow, answer_rows}
use Rattle.answer_rows.specs.Parts.{IsMadeOf, club_name}
use Rattle.answer_rows.specs.Rows.{ask_row, text_of_lines, verdict_row}
use Rattle.decide_run.specs.Decisions.{IsDecidedItem}

-- the lines, each on a row of its own
abbrev pub text_of_wide_lines : List WideLine → List ℕ
text_of_wide_lines lines = text_of_lines text_of_wide_line lines

-- an item as it is written, with proofs or without: the row of a word that is right, and then lines
-- that show it
abbrev pub IsDecidedItemText : Bool → Sheet → Results → AnswerRow → List ℕ → Type 0
IsDecidedItemText proofs sheet season about text =
    (word : Word) × (lines : List WideLine)
    × IsDecidedItem proofs sheet season about.line about.club word lines
    × (text ≡ verdict_row about.line (club_name sheet about.club) word
    ++ text_of_wide_lines lines)

-- what is decided of a season after so many events: the row of the ask, then an item for each line
-- and club in the sheet's order, with proofs or without
abbrev pub IsDecidedText : Bool → Sheet → Results → ℕ → List ℕ → Type 0
IsDecidedText proofs sheet season epoch text =
    (items : List ℕ) × (text ≡ ask_row epoch ++ items)
    × IsMadeOf (IsDecidedItemText proofs sheet season) (answer_rows sheet) items
