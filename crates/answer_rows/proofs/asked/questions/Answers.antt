use Rattle.std.proofs.Common.{◌≡◌, ◌≤◌, List, length, sym, subst, arith}
use Rattle.std.proofs.lemmas.Grind.{common_steps}
use Rattle.std.specs.Prelude.{All}
use Rattle.league_core.specs.declared.question.Question.{Question}
use Rattle.league_core.specs.game.Questions.{IsQuestionOf}
use Rattle.answer_rows.specs.AskedQuestions.{questions_of}
use Rattle.answer_rows.proofs.AskedLemmas.{all_are_asked, all_are_few}
use Rattle.answer_rows.proofs.asked.questions.Goals as goal

pub returns-clause-of_sheet : goal.returns-clause-of_sheet
returns-clause-of_sheet c =
    let sheet = c.args.sheet.now in
    let is : c.loop-line.asked.items ≡ questions_of sheet = grind (arith, common_steps) in
    let P : List Question → Type 0 = λ asked. All (IsQuestionOf sheet) asked in
    subst P (sym is) (all_are_asked sheet c.requires.limits)

pub returns-clause-few : goal.returns-clause-few
returns-clause-few c =
    let sheet = c.args.sheet.now in
    let is : c.loop-line.asked.items ≡ questions_of sheet = grind (arith, common_steps) in
    let P : List Question → Type 0 = λ asked. length asked ≤ 192 in
    subst P (sym is) (all_are_few sheet c.requires.limits)
