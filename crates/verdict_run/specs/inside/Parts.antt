-- What stands for a question of a pool in an answer, and for the two questions of a row.
use Rattle.std.specs.Prelude.{◌≡◌, ◌≢◌, ℕ, ◌+◌, IsTrue, Some}
use Rattle.std.specs.List.{slice_get}
use Rattle.league_core.specs.declared.sheet.Sheet.{Sheet}
use Rattle.league_core.specs.declared.question.Claim.TheVariants.{Inside, Outside}
use Rattle.league_core.specs.declared.question.Question.{Question}
use Rattle.league_core.specs.game.Results.{Results, are_results}
use Rattle.league_core.specs.game.Seasons.{IsLeague}
use Rattle.league_core.specs.game.Questions.{full_question, IsQuestionOf}
use Rattle.branch_pool.specs.declared.question_state.QuestionState.{QuestionState}
use Rattle.branch_pool.specs.inside.States.{PoolView}
use Rattle.branch_pool.specs.inside.Goodness.{IsGoodSeat}
use Rattle.cert_text.specs.declared.proof_line.ProofLine.{ProofLine}
use Rattle.cert_text.specs.Ranges.{is_in_range}
use Rattle.answer_rows.specs.declared.word.Word.TheVariants.{Unsettled}
use Rattle.answer_rows.specs.declared.word.Verdict.{Verdict}
use Rattle.answer_rows.specs.declared.part.Part.{Part}
use Rattle.answer_rows.specs.Items.{AnswerRow, answer_row}
use Rattle.answer_rows.specs.Items.{IsShownVerdict}
use Rattle.answer_rows.specs.inside.ItemRanges.{IsInRange}
use Rattle.verdict_run.specs.inside.Working.{IsEnough, is_settled}
use Rattle.answer_rows.specs.inside.AnswerParts.{IsAnswerPart, IsRefutedPart}

-- it is the part of the question at a place
abbrev pub IsPartAt : PoolView → ℕ → Part ProofLine → Type 0
IsPartAt pool place part =
    (question : Question) → slice_get pool.questions place ≡ Some question
    → IsAnswerPart pool.sheet pool.season question part

-- it refutes the question at a place
abbrev pub IsRefutedAt : PoolView → ℕ → Part ProofLine → Type 0
IsRefutedAt pool place part =
    (question : Question) → slice_get pool.questions place ≡ Some question
    → IsRefutedPart pool.sheet pool.season question part

-- a question on which the work is done, of a season of the sheet
pub record IsDoneSeat (sheet : Sheet) (season : Results) (seat : QuestionState) : Type 0 where
  pub league : IsLeague sheet season
  pub results : IsTrue (are_results season)
  pub asked : IsQuestionOf sheet seat.question
  pub good : IsGoodSeat sheet season seat
  pub settled : IsTrue (is_settled sheet seat)

-- both questions about a row stand at this place and the next one
pub record AsksBoth (pool : PoolView) (place : ℕ) (row : AnswerRow) : Type 0 where
  pub inside : slice_get pool.questions place ≡ Some (full_question row.club row.line Inside)
  pub outside :
      slice_get pool.questions (place + 1) ≡ Some (full_question row.club row.line Outside)

-- the verdict is about the row, right and shown, in range, and known if the budget is great enough
pub record IsAnswered (pool : PoolView) (row : AnswerRow) (verdict : Verdict ProofLine) :
    Type 0 where
  pub is_row : answer_row verdict ≡ row
  pub shown : IsShownVerdict pool.sheet pool.season verdict
  pub in_range : IsInRange is_in_range pool.sheet verdict
  pub enough : IsEnough pool.sheet pool.season → verdict.word ≢ Unsettled
