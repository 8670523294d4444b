-- What holds of pools by the definitions alone: each statement is the contract of a function of
-- src/laws.rt that does nothing.
use Rattle.std.specs.Prelude.{◌≡◌, ◌≢◌, ◌<◌, ◌≤◌, ℕ, false, List, length, All, Some}
use Rattle.league_core.specs.declared.sheet.Sheet.{Sheet}
use Rattle.league_core.specs.declared.question.Question.{Question}
use Rattle.league_core.specs.game.Sheets.{IsWithinLimits}
use Rattle.league_core.specs.game.Questions.{IsQuestionOf}
use Rattle.branch_pool.specs.declared.ticket.Answer.TheVariants as answer
use Rattle.branch_pool.specs.inside.States.{PoolView, pool_begun, has_work, out_count}
use Rattle.branch_pool.specs.inside.States.{most_questions}
use Rattle.branch_pool.specs.inside.Goodness.{IsSoundPool, IsGood}
use Rattle.branch_pool.specs.declared.ticket.Ticket.{Ticket}
use Rattle.branch_pool.specs.inside.Calls.{pool_answer}
use Rattle.branch_pool.specs.inside.Steps.{IsOwnTicket, TakesLeaf}
use Rattle.branch_pool.specs.inside.Runs.{Step, MakesStep, LeavesOut, Move, AreSteps, pool_after}
use Rattle.branch_pool.specs.inside.Runs.{WorksNext, work_left}

-- from a pool at its beginning, whatever the steps, the pool is good
abbrev pub StepsKeepPoolsGood : Type 0
StepsKeepPoolsGood =
    (sheet : Sheet) (questions : List Question) (moves : List Move) → IsWithinLimits sheet
    → All (IsQuestionOf sheet) questions → length questions ≤ most_questions
    → AreSteps (pool_begun sheet questions) moves
    → IsGood (pool_after (pool_begun sheet questions) moves)

-- what the type of pools keeps is that they are good
abbrev pub SoundPoolsAreGood : Type 0
SoundPoolsAreGood = (pool : PoolView) → IsSoundPool pool → IsGood pool

-- what is taken from a pool comes with a ticket of that pool
abbrev pub TakenTicketsAreOwn : Type 0
TakenTicketsAreOwn =
    (old new : PoolView) (ticket : Ticket) → IsSoundPool old → TakesLeaf old ticket new
    → IsOwnTicket new ticket

-- a ticket of the pool stays one over each step but a give of its number and a recall
abbrev pub StepsKeepTickets : Type 0
StepsKeepTickets =
    (old new : PoolView) (step : Step) (ticket : Ticket) → IsSoundPool old
    → MakesStep old step new → LeavesOut ticket.number step → IsOwnTicket old ticket
    → IsOwnTicket new ticket

-- a turn of work leaves less to do
abbrev pub TurnsLeaveLess : Type 0
TurnsLeaveLess =
    (old new : PoolView) → IsSoundPool old → WorksNext old new → work_left new < work_left old

-- if nothing is out and there is no work, each question is answered
abbrev pub PoolsWithoutWorkAnswer : Type 0
PoolsWithoutWorkAnswer =
    (pool : PoolView) (place : ℕ) → IsSoundPool pool → out_count pool.loans ≡ 0
    → has_work pool ≡ false → pool_answer pool place ≢ Some answer.NotYet
