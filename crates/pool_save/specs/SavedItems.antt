-- What a saved text is that was written when the work on a season was finished: an item for each
-- question, with a tree that is worth saving, and `saved_end`. Each item is its row and the lines
-- of its tree, as texts.
use Rattle.std.specs.Prelude.{◌≡◌, ◌⊎◌, IsTrue, ℕ, List, ◌++◌}
use Rattle.league_core.specs.declared.sheet.Sheet.{Sheet}
use Rattle.league_core.specs.declared.question.Question.{Question}
use Rattle.league_core.specs.game.Results.{Results}
use Rattle.league_core.specs.game.Verdicts.{HasExample}
use Rattle.league_core.specs.search.Trees.{Tree}
use Rattle.cert_text.specs.Rows.{text_of_row}
use Rattle.cert_text.specs.ExampleLines.{text_of_proof_lines}
use Rattle.cert_text.specs.TreeLines.{IsRefutationTree, IsFairSpentTree, marked_lines}
use Rattle.answer_rows.specs.NewTrees.{is_all_new}
use Rattle.answer_rows.specs.Parts.{IsMadeOf}
use Rattle.answer_rows.specs.AskedQuestions.{questions_of}
use Rattle.pool_save.specs.SavedTexts.{IsSavedTree, saved_fields, end_fields}

-- the row of a question's item
abbrev pub item_row : Sheet → Question → List ℕ
item_row sheet question = text_of_row (saved_fields sheet question)

-- an item: its row, and the nodes of its tree, line by line
abbrev pub saved_item_text : Sheet → Question → Tree → List ℕ
saved_item_text sheet question tree =
    item_row sheet question ++ text_of_proof_lines (marked_lines tree)

-- the tree says what came of the work on the question: it refutes it, or the budget was spent on it
-- fairly, all of it in one epoch; if the question has an example, it may be any
abbrev pub IsWorthSaving : Sheet → Results → Question → Tree → Type 0
IsWorthSaving sheet season question tree =
    IsRefutationTree sheet season question tree
    ⊎ (IsFairSpentTree sheet season question sheet.budget tree × IsTrue (is_all_new tree))
    ⊎ HasExample sheet season question

-- the text is an item of the question
pub record IsItemSaved (sheet : Sheet) (season : Results) (question : Question)
    (text : List ℕ) : Type 0 where
  pub tree : Tree
  pub may_be : IsSavedTree sheet question tree
  pub worth : IsWorthSaving sheet season question tree
  pub lines : text ≡ saved_item_text sheet question tree

-- the text is a saved text of the season: an item for each question about the sheet, in their
-- order, and then the line `saved_end`
pub record IsSavedOf (sheet : Sheet) (season : Results) (text : List ℕ) : Type 0 where
  pub items : List ℕ
  pub each : IsMadeOf (IsItemSaved sheet season) (questions_of sheet) items
  pub lines : text ≡ items ++ text_of_row end_fields
