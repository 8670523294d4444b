-- What lies under the lock, as the calls under it see it.
use Rattle.std.specs.Prelude.{◌≡◌, Bool, false, true, List}
use Rattle.league_core.specs.declared.sheet.Sheet.{Sheet}
use Rattle.league_core.specs.declared.question.Question.{Question}
use Rattle.reason_core.specs.declared.done.Done.{Done}
use Rattle.branch_pool.specs.declared.ticket.Ticket.{Ticket}
use Rattle.branch_pool.specs.declared.ticket.Gave.{Gave}
use Rattle.branch_pool.specs.declared.ticket.Took.{Took}
use Rattle.branch_pool.specs.declared.ticket.Took.TheVariants.{Rest}
use Rattle.branch_pool.specs.inside.States.{PoolView}
use Rattle.branch_pool.specs.inside.Goodness.{IsGood}
use Rattle.branch_pool.specs.inside.Steps.{Gives}
use Rattle.branch_pool.specs.inside.Calls.{Taking}

-- the pool, and whether the one who reports may have lines in hand that are not yet reported
pub record GuardedView : Type 0 where
  pub pool : PoolView
  pub feeder_busy : Bool

-- between two holds of the lock its pool is good, and of the sheet and the questions of its round
pub record IsGoodBetweenHolds (sheet : Sheet) (questions : List Question) (held : GuardedView)
    : Type 0 where
  pub good : IsGood held.pool
  pub of_sheet : held.pool.sheet ≡ sheet
  pub asks : held.pool.questions ≡ questions

-- a ticket is given back, and then the next one is taken; while the one who reports is busy there
-- is nothing to take
pub record Swaps (old : GuardedView) (ticket : Ticket) (done : Done) (gave : Gave) (took : Took)
    (new : GuardedView) : Type 0 where
  pub between : PoolView
  pub gives : Gives old.pool ticket done gave between
  pub taking : old.feeder_busy ≡ false → Taking between took new.pool
  pub unchanged : old.feeder_busy ≡ true → (took ≡ Rest) × (new.pool ≡ between)
  pub busy : new.feeder_busy ≡ old.feeder_busy
