-- No question is without an answer: the statement is the contract of a function of src/laws.rt that
-- does nothing.
use Rattle.std.specs.Prelude.{◌⊎◌, IsTrue}
use Rattle.league_core.specs.declared.sheet.Sheet.{Sheet}
use Rattle.league_core.specs.declared.question.Question.{Question}
use Rattle.league_core.specs.game.Results.{Results, are_results}
use Rattle.league_core.specs.game.Seasons.{IsLeague}
use Rattle.league_core.specs.game.Questions.{IsQuestionOf}
use Rattle.league_core.specs.game.Verdicts.{HasExample}
use Rattle.wide_lines.specs.WideTrees.{WideTree}
use Rattle.wide_lines.specs.WideTreeLines.{IsWideRefutation}

-- each question has an example, or some wide tree refutes it
abbrev pub WideQuestionsAreDecided : Type 0
WideQuestionsAreDecided =
    (sheet : Sheet) (season : Results) (question : Question) → IsLeague sheet season
    → IsTrue (are_results season) → IsQuestionOf sheet question
    → HasExample sheet season question
    ⊎ ((tree : WideTree) × IsWideRefutation sheet season question tree)
