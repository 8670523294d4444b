-- What the mode `whatif` answers of a match that is not played: for each way in which it may end a
-- row that says so, and after it for each line and each club the verdict given that.
use Rattle.std.specs.Prelude.{◌≡◌, ℕ, ◌+◌, List, [], ◌∷◌, ◌++◌, codes, decimal}
use Rattle.league_core.specs.declared.sheet.Sheet.{Sheet}
use Rattle.league_core.specs.declared.zone.Literal.{Literal}
use Rattle.league_core.specs.game.Results.{Results}
use Rattle.cert_text.specs.declared.proof_line.ProofLine.{ProofLine}
use Rattle.cert_text.specs.Rows.{text_of_row}
use Rattle.cert_text.specs.ExampleLines.{text_of_proof_lines}
use Rattle.answer_rows.specs.declared.word.Word.{Word}
use Rattle.answer_rows.specs.Items.{AnswerRow, answer_rows}
use Rattle.answer_rows.specs.Parts.{IsMadeOf, club_name}
use Rattle.answer_rows.specs.Rows.{verdict_row}
use Rattle.what_if.specs.declared.outcome.Outcome.{Outcome}
use Rattle.what_if.specs.declared.outcome.Outcome.TheVariants.{Home, Draw, Away}
use Rattle.what_if.specs.Bases.{base_of}
use Rattle.what_if.specs.Given.{IsItemGiven}

-- how an outcome is written
abbrev pub outcome_text : Outcome → List ℕ
outcome_text Home = codes "home"
outcome_text Draw = codes "draw"
outcome_text Away = codes "away"

-- `when,E,F,OUTCOME`: after so many events, the match of this number, which counts from 0 here and
-- from 1 in the row
abbrev pub when_row : ℕ → ℕ → Outcome → List ℕ
when_row epoch fixture outcome =
    text_of_row (codes "when" ∷ decimal epoch ∷ decimal (fixture + 1) ∷ outcome_text outcome ∷ [])

-- the item of a line and a club: the row of a word that is right given the zone, and then lines
-- that show it, however many
abbrev pub IsItemTextGiven : Sheet → Results → List Literal → AnswerRow → List ℕ → Type 0
IsItemTextGiven sheet season zone about text =
    (word : Word) × (lines : List ProofLine)
    × IsItemGiven sheet season zone about.line about.club word lines
    × (text ≡ verdict_row about.line (club_name sheet about.club) word
    ++ text_of_proof_lines lines)

-- what is said of one outcome: its row, then an item for each line and club in the sheet's order
abbrev pub IsOutcomeText : Sheet → Results → ℕ → ℕ → Outcome → List ℕ → Type 0
IsOutcomeText sheet season epoch fixture outcome text =
    (items : List ℕ) × (text ≡ when_row epoch fixture outcome ++ items)
    × IsMadeOf (IsItemTextGiven sheet season (base_of fixture outcome)) (answer_rows sheet) items

-- what is said of the match: a win of the home side first, then a draw, then a win of the away side
abbrev pub IsWhenText : Sheet → Results → ℕ → ℕ → List ℕ → Type 0
IsWhenText sheet season epoch fixture text =
    IsMadeOf (IsOutcomeText sheet season epoch fixture) (Home ∷ Draw ∷ Away ∷ []) text
