-- How the fields of a pool are seen.
use Rattle.std.specs.Prelude.{◌≡◌, ◌<◌, ◌≤◌, ℕ, false, List, length, Some}
use Rattle.std.specs.List.{slice_get}
use Rattle.league_core.specs.declared.sheet.Sheet.{Sheet}
use Rattle.branch_pool.specs.declared.pool.Pool.TheInside.{Inside}
use Rattle.branch_pool.specs.declared.question_state.QuestionState.{QuestionState}
use Rattle.branch_pool.specs.inside.States.{PoolView, is_workable}
use Rattle.branch_pool.specs.inside.Goodness.{IsSoundPool}

-- the pool's fields as its state
abbrev pub state_of : Inside → PoolView
state_of pool = record {
  sheet = pool.sheet;
  questions = pool.questions.items;
  season = pool.season;
  log = pool.log.items;
  seats = pool.seats.items;
  loans = pool.loans.items;
  is_open = pool.is_open;
}

-- no question before this place has work
pub record HasWorkFrom (sheet : Sheet) (seats : List QuestionState) (place : ℕ) : Type 0 where
  pub within : place ≤ length seats
  pub none : (earlier : ℕ) (seat : QuestionState) → earlier < place
      → slice_get seats earlier ≡ Some seat
      → is_workable sheet seat ≡ false

-- what the fields of every pool keep: the pool is sound, and no question before the kept place has
-- work
abbrev pub IsPoolKept : Inside → Type 0
IsPoolKept pool =
    IsSoundPool (state_of pool) × HasWorkFrom pool.sheet pool.seats.items pool.work_from
