-- What holds of saved texts by the definitions alone: each statement is the contract of a function
-- of src/laws.rt that does nothing.
use Rattle.std.specs.Prelude.{◌≡◌, ℕ, Bool, IsTrue, List, [], ◌∷◌, ◌++◌, map, Option, Ok}
use Rattle.league_core.specs.declared.sheet.Sheet.{Sheet}
use Rattle.league_core.specs.declared.question.Question.{Question}
use Rattle.league_core.specs.game.Sheets.{IsWithinLimits, are_different}
use Rattle.league_core.specs.search.Trees.{Tree}
use Rattle.port_core.specs.Contents.{Contents, with_lines}
use Rattle.line_tokens.specs.declared.token.Token.{Token}
use Rattle.line_tokens.specs.declared.token.Token.TheVariants.{Row}
use Rattle.line_tokens.specs.Tokens.{token_of, counted_lines}
use Rattle.answer_rows.specs.AskedQuestions.{questions_of}
use Rattle.pool_save.specs.SavedTexts.{AreSavedTrees, saved_fields, saved_items_of}
use Rattle.pool_save.specs.SavedTexts.{end_fields}
use Rattle.pool_save.specs.SavedReadings.{is_row_of, nothing_saved, saved_reading_of}

-- what numbered lines are, one by one
abbrev pub tokens_of_lines : List (ℕ × List ℕ) → List Token
tokens_of_lines lines = map (λ (line : ℕ × List ℕ). token_of line.1) lines

-- the row of a question is that of another
abbrev pub same_row : Sheet → Question → Question → Bool
same_row sheet question other = is_row_of sheet question (saved_fields sheet other)

-- no two of the questions have one row
abbrev pub HaveOwnRows : Sheet → List Question → Type 0
HaveOwnRows sheet asked = IsTrue (are_different (same_row sheet) asked)

-- so it is with the questions about a sheet
abbrev pub QuestionsHaveOwnRows : Type 0
QuestionsHaveOwnRows =
    (sheet : Sheet) → IsWithinLimits sheet → HaveOwnRows sheet (questions_of sheet)

-- lines of which those that count are the items of these trees, and a line `saved_end` after them,
-- are read as the trees, and nothing after them is read
abbrev pub SavedTextsAreRead : Type 0
SavedTextsAreRead =
    (sheet : Sheet) (asked : List Question) (trees : List (Option Tree))
    (lines : List (ℕ × List ℕ)) (last : ℕ × List ℕ) (rest : Contents)
    → HaveOwnRows sheet asked → AreSavedTrees sheet asked trees
    → counted_lines (tokens_of_lines lines) ≡ saved_items_of sheet asked trees
    → token_of last.1 ≡ Row end_fields
    → saved_reading_of sheet asked (with_lines (lines ++ last ∷ []) rest) nothing_saved
    ≡ record { gives = Ok trees; rest = rest }
