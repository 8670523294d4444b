-- What is taken under the lock is what `take` lends.
use Rattle.std.proofs.Common.{◌≡◌, Bool, true, false, List, refl}
use Rattle.league_core.specs.declared.sheet.Sheet.{Sheet}
use Rattle.league_core.specs.declared.season.Event.{Event}
use Rattle.league_core.specs.declared.question.Question.{Question}
use Rattle.branch_pool.specs.declared.ticket.Took.{Took}
use Rattle.branch_pool.specs.declared.ticket.Took.TheVariants as took
use Rattle.branch_pool.specs.inside.States.{PoolView}
use Rattle.branch_pool.specs.inside.Goodness.{IsSoundPool}
use Rattle.branch_pool.specs.inside.Calls.{Taking}
use Rattle.pool_lock.specs.inside.Lends.{TakesFrom}

-- what was taken from a pool, if the one who reports was not busy
pub taken_from : (sheet : Sheet) (questions : List Question) (events : List Event)
    (pool after : PoolView) (feeder_busy : Bool) (what : Took) → IsSoundPool pool
    → pool.sheet ≡ sheet → pool.questions ≡ questions → pool.log ≡ events
    → (feeder_busy ≡ false → Taking pool what after) → (feeder_busy ≡ true → what ≡ took.Rest)
    → TakesFrom sheet questions events what
taken_from sheet questions events pool after false (took.Lent ticket) sound of_sheet asks log taking
    rest =
    record {
      pool = pool;
      after = after;
      sound = sound;
      of_sheet = of_sheet;
      asks = asks;
      log = log;
      lends = taking refl;
    }
taken_from sheet questions events pool after true (took.Lent ticket) sound of_sheet asks log taking
    rest =
    absurd (cc (rest refl))
taken_from sheet questions events pool after feeder_busy took.Rest sound of_sheet asks log taking
    rest =
    tt
taken_from sheet questions events pool after feeder_busy took.Over sound of_sheet asks log taking
    rest =
    tt
taken_from sheet questions events pool after feeder_busy took.OutOfMemory sound of_sheet asks log
    taking
    rest =
    tt
