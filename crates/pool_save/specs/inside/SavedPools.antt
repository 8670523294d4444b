-- Pools that took up saved trees: which questions are nearly known there, and what the verdicts say
-- of them.
use Rattle.std.specs.Prelude.{◌≡◌, ℕ, List, Option, Some}
use Rattle.std.specs.List.{slice_get}
use Rattle.league_core.specs.declared.sheet.Sheet.{Sheet}
use Rattle.league_core.specs.game.Results.{Results}
use Rattle.league_core.specs.search.Trees.{Tree}
use Rattle.branch_pool.specs.declared.question_state.QuestionState.{QuestionState}
use Rattle.branch_pool.specs.inside.States.{PoolView}
use Rattle.cert_text.specs.declared.proof_line.ProofLine.{ProofLine}
use Rattle.answer_rows.specs.declared.word.Verdict.{Verdict}
use Rattle.answer_rows.specs.Items.{answer_row}
use Rattle.pool_save.specs.NearlyDone.{IsNearlyDone}
use Rattle.pool_save.specs.inside.Nearly.{IsNearlyKnown}
use Rattle.pool_save.specs.SavedAnswers.{IsShownUnspent}

-- each question whose saved tree was nearly done is nearly known
abbrev pub AreNearlySaved : PoolView → List (Option Tree) → Type 0
AreNearlySaved pool trees =
    (place : ℕ) (seat : QuestionState) (saved : Option Tree)
    → slice_get pool.seats place ≡ Some seat → slice_get trees place ≡ Some saved
    → IsNearlyDone pool.sheet pool.season seat.question saved
    → IsNearlyKnown pool.sheet pool.season seat

-- of no question whose saved tree was nearly done the verdict says that the budget was spent
abbrev pub IsUnspentVerdict : Sheet → Results → List (Option Tree) → Verdict ProofLine → Type 0
IsUnspentVerdict sheet season trees verdict =
    IsShownUnspent sheet season trees (answer_row verdict) verdict.proof.items
