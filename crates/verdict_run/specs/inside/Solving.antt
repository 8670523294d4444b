-- What is found of a question that is worked on from its root.
use Rattle.std.specs.Prelude.{IsTrue}
use Rattle.league_core.specs.declared.sheet.Sheet.{Sheet}
use Rattle.league_core.specs.declared.question.Question.{Question}
use Rattle.league_core.specs.game.Results.{Results}
use Rattle.league_core.specs.game.Questions.{IsExample}
use Rattle.cert_text.specs.TreeLines.{IsRefutationTree, IsFairSpentTree}
use Rattle.answer_rows.specs.declared.solved.Solved.{Solved}
use Rattle.answer_rows.specs.declared.solved.Solved.TheVariants.{Won, Refuted, Spent}
use Rattle.answer_rows.specs.NewTrees.{is_all_new}

-- an example; or a tree that refutes the question, all of it new; or one on which the whole budget
-- was spent fairly, all of it new
abbrev pub IsSolved : Sheet → Results → Question → Solved → Type 0
IsSolved sheet season question (Won finish lots) = IsExample sheet season question finish lots
IsSolved sheet season question (Refuted tree) =
    IsRefutationTree sheet season question tree × IsTrue (is_all_new tree)
IsSolved sheet season question (Spent tree) =
    IsFairSpentTree sheet season question sheet.budget tree × IsTrue (is_all_new tree)
