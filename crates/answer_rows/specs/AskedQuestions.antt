-- What is asked of a season for its verdicts: of each line and each club, whether it can end inside
-- the line, and whether it can end outside.
use Rattle.std.specs.Prelude.{ℕ, List, [], ◌∷◌, length}
use Rattle.std.specs.List.{flat_map, range_with_len}
use Rattle.league_core.specs.declared.sheet.Sheet.{Sheet}
use Rattle.league_core.specs.declared.question.Claim.TheVariants.{Inside, Outside}
use Rattle.league_core.specs.declared.question.Question.{Question}
use Rattle.league_core.specs.game.Questions.{full_question}

-- the two questions about a line and a club, with the full window
abbrev pub both_questions : ℕ → ℕ → List Question
both_questions line club =
    full_question club line Inside ∷ full_question club line Outside ∷ []

-- the questions about a line, club by club in the order of the sheet
unfoldable pub questions_of_line : ℕ → ℕ → List Question
questions_of_line clubs line = flat_map (both_questions line) (range_with_len 0 clubs)

-- all questions about a sheet, line by line in its order
abbrev pub questions_of : Sheet → List Question
questions_of sheet = flat_map (questions_of_line (length sheet.clubs)) sheet.lines
