-- Lists of steps, as they happen to one pool; what one turn of work without a ticket does; and what
-- there is left to do.
use Rattle.std.specs.Prelude.{◌≡◌, ◌≢◌, ℕ, suc, ◌-◌, IsTrue, Bool, true, false, List, [], ◌∷◌}
use Rattle.std.specs.Prelude.{sum_by, is_some, if◌then◌else◌, Option}
use Rattle.league_core.specs.declared.season.Event.{Event}
use Rattle.league_core.specs.search.Trees.{Tree}
use Rattle.reason_core.specs.declared.done.Done.{Done}
use Rattle.reason_core.specs.declared.done.Done.TheVariants.{Refuted, Split, Won, Undone}
use Rattle.branch_pool.specs.declared.question_state.QuestionState.{QuestionState}
use Rattle.branch_pool.specs.declared.ticket.Ticket.{Ticket}
use Rattle.branch_pool.specs.declared.ticket.Gave.{Gave}
use Rattle.branch_pool.specs.declared.ticket.Turn.{Turn}
use Rattle.branch_pool.specs.declared.ticket.Turn.TheVariants as turn
use Rattle.branch_pool.specs.inside.States.{PoolView, has_work, out_count}
use Rattle.branch_pool.specs.inside.Calls.{LendsNext}
use Rattle.branch_pool.specs.inside.Steps.{TakesLeaf, Gives, Keeps, MayBeGiven, Changes}
use Rattle.branch_pool.specs.inside.Steps.{pool_opened, pool_shut, pool_recalled, Adopts}
use Rattle.branch_pool.specs.inside.Adoptions.{MayAdoptAll, pool_adopted}

-- ---- lists of steps

-- one step, with what it takes, gives, reports or hands in
pub data Step : Type 0 where
  take_step : Ticket → Step
  give_step : Ticket → Done → Gave → Step
  change_step : Event → Step
  start_step : Step
  shut_step : Step
  recall_step : Step
  adopt_step : ℕ → Tree → Step
  adopt_all_step : List (Option Tree) → Step

-- the step leads from a pool to a pool
abbrev pub MakesStep : PoolView → Step → PoolView → Type 0
MakesStep old (take_step ticket) new = TakesLeaf old ticket new
MakesStep old (give_step ticket done gave) new = MayBeGiven old ticket done × Gives old ticket done
    gave
    new
MakesStep old (change_step event) new = Changes old event new
MakesStep old start_step new = new ≡ pool_opened old
MakesStep old shut_step new = new ≡ pool_shut old
MakesStep old recall_step new = new ≡ pool_recalled old
MakesStep old (adopt_step place tree) new = Adopts old place tree new
MakesStep old (adopt_all_step trees) new = MayAdoptAll old trees × (new ≡ pool_adopted old trees)

-- a step, and the pool after it
pub record Move : Type 0 where
  pub step : Step
  pub after : PoolView

-- each step leads from the pool after the one before, the first from this pool
abbrev pub AreSteps : PoolView → List Move → Type 0
AreSteps pool [] = Unit {0}
AreSteps pool (move ∷ moves) = MakesStep pool move.step move.after × AreSteps move.after moves

-- the pool after the last step
abbrev pub pool_after : PoolView → List Move → PoolView
pool_after pool [] = pool
pool_after pool (move ∷ moves) = pool_after move.after moves

-- the step leaves what is out under a number: it neither gives a ticket of this number back nor
-- recalls all that is out
abbrev pub LeavesOut : ℕ → Step → Type 0
LeavesOut number (take_step ticket) = Unit {0}
LeavesOut number (give_step ticket done gave) = ticket.number ≢ number
LeavesOut number (change_step event) = Unit {0}
LeavesOut number start_step = Unit {0}
LeavesOut number shut_step = Unit {0}
LeavesOut number recall_step = ⊥
LeavesOut number (adopt_step place tree) = Unit {0}
LeavesOut number (adopt_all_step trees) = Unit {0}

-- the step takes or gives
abbrev pub is_work : Step → Bool
is_work (take_step ticket) = true
is_work (give_step ticket done gave) = true
is_work (change_step event) = false
is_work start_step = false
is_work shut_step = false
is_work recall_step = false
is_work (adopt_step place tree) = false
is_work (adopt_all_step trees) = false

-- each step takes or gives
abbrev pub AreAllWork : List Move → Type 0
AreAllWork [] = Unit {0}
AreAllWork (move ∷ moves) = IsTrue (is_work move.step) × AreAllWork moves

-- a pool comes from another by steps that take and give
pub record ComesByWork (old new : PoolView) : Type 0 where
  pub moves : List Move
  pub steps : AreSteps old moves
  pub work : AreAllWork moves
  pub reaches : pool_after old moves ≡ new

-- ---- work without a ticket

-- something was done
abbrev pub IsWorked : Done → Type 0
IsWorked (Refuted piece reason) = Unit {0}
IsWorked (Split piece literal) = Unit {0}
IsWorked (Won piece finish lots) = Unit {0}
IsWorked Undone = ⊥

-- a turn of work is a take and then a give: the leaf that comes next is taken, as `take` does, and
-- what was done with it is kept
pub record WorksNext (old new : PoolView) : Type 0 where
  pub ticket : Ticket
  pub done : Done
  pub between : PoolView
  pub worked : IsWorked done
  pub taken : LendsNext old ticket between
  pub given : MayBeGiven between ticket done
  pub kept : Keeps between ticket done new

-- all but what is kept of the questions is as before; under each number is out what was
pub record IsSameButSeats (old new : PoolView) : Type 0 where
  pub sheet : new.sheet ≡ old.sheet
  pub questions : new.questions ≡ old.questions
  pub season : new.season ≡ old.season
  pub log : new.log ≡ old.log
  pub is_open : new.is_open ≡ old.is_open
  pub out : out_count new.loans ≡ out_count old.loans

-- what a turn did, by its answer
abbrev pub TakesTurn : PoolView → Turn → PoolView → Type 0
TakesTurn old turn.Worked new = WorksNext old new
TakesTurn old turn.Nothing new = (has_work old ≡ false) × (new ≡ old)
TakesTurn old turn.OutOfMemory new = new ≡ old

-- ---- what is left

-- how many turns a question may take at most, with this budget
abbrev pub seat_left : ℕ → QuestionState → ℕ
seat_left budget seat = if is_some seat.example then 0 else suc (budget - seat.units)

-- how many turns all questions may take at most
abbrev pub work_left : PoolView → ℕ
work_left pool = sum_by (seat_left pool.sheet.budget) pool.seats
