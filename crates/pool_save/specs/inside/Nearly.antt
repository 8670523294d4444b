-- Questions that are nearly known: an example is kept, or each open leaf of the tree has a reason
-- that holds there, and no more leaves are open than units are left. Work on such a question never
-- spends its budget: so no saved tree is thrown away of which only its leaves were left to refute.
use Rattle.std.specs.Prelude.{◌≡◌, ◌≢◌, ◌⊎◌, ℕ, IsTrue, is_some, List, Option, Some}
use Rattle.std.specs.Prelude.{None}
use Rattle.std.specs.List.{slice_get}
use Rattle.league_core.specs.declared.sheet.Sheet.{Sheet}
use Rattle.league_core.specs.game.Results.{Results}
use Rattle.league_core.specs.search.Trees.{Tree}
use Rattle.league_core.specs.inside.Lending.{lent_count}
use Rattle.branch_pool.specs.declared.question_state.QuestionState.{QuestionState}
use Rattle.branch_pool.specs.declared.ticket.Answer.TheVariants as answer
use Rattle.branch_pool.specs.inside.States.{PoolView, new_seat}
use Rattle.branch_pool.specs.inside.Calls.{pool_answer}
use Rattle.branch_pool.specs.inside.Runs.{WorksNext}
use Rattle.branch_pool.specs.inside.Goodness.{IsSoundPool}
use Rattle.verdict_run.specs.inside.Working.{WorksTo, FinishesWork, is_settled, is_known}
use Rattle.pool_save.specs.inside.TakingUp.{TakesUp}
use Rattle.pool_save.specs.NearlyDone.{IsNearlyRefuted, IsNearlyDone}

-- it is known, or nearly refuted
abbrev pub IsNearlyKnown : Sheet → Results → QuestionState → Type 0
IsNearlyKnown sheet season seat =
    IsTrue (is_some seat.example)
    ⊎ IsNearlyRefuted sheet season seat.question seat.units seat.tree

-- the question at a place is
abbrev pub IsNearlyAt : PoolView → ℕ → Type 0
IsNearlyAt pool place =
    (seat : QuestionState) → slice_get pool.seats place ≡ Some seat
    → IsNearlyKnown pool.sheet pool.season seat

-- it is still so after a turn of work, wherever that was made
abbrev pub TurnsKeepNearly : Type 0
TurnsKeepNearly =
    (old new : PoolView) (place : ℕ) → WorksNext old new → IsNearlyAt old place
    → IsNearlyAt new place

-- and after any number of turns
abbrev pub WorkKeepsNearly : Type 0
WorkKeepsNearly =
    (old new : PoolView) (place : ℕ) → WorksTo old new → IsNearlyAt old place
    → IsNearlyAt new place

-- when the work on it is done, and nothing of it is lent, it is known
abbrev pub NearlyIsKnown : Type 0
NearlyIsKnown =
    (sheet : Sheet) (season : Results) (seat : QuestionState) → IsNearlyKnown sheet season seat
    → lent_count seat.tree ≡ 0 → IsTrue (is_settled sheet seat) → IsTrue (is_known seat)

-- ---- saved trees

-- a question without a saved tree was not worked on before
abbrev pub IsNewIfNone : QuestionState → Option Tree → Type 0
IsNewIfNone seat None = seat ≡ new_seat seat.question
IsNewIfNone seat (Some tree) = Unit {0}

-- saved trees are taken up, and the work on the pool is finished: the budget of a question whose
-- saved tree was nearly done is not spent
abbrev pub SavedTreesAreNotSpent : Type 0
SavedTreesAreNotSpent =
    (old taken new : PoolView) (trees : List (Option Tree)) (place : ℕ) (seat : QuestionState)
    (saved : Option Tree)
    → TakesUp old trees taken → FinishesWork taken new → IsSoundPool new
    → slice_get old.seats place ≡ Some seat → slice_get trees place ≡ Some saved
    → IsNewIfNone seat saved → IsNearlyDone old.sheet old.season seat.question saved
    → pool_answer new place ≢ Some answer.Spent
