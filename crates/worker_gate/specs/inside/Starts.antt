-- What a round with workers begins with.
use Rattle.std.specs.Prelude.{◌≡◌, ℕ, List, All}
use Rattle.league_core.specs.declared.sheet.Sheet.{Sheet}
use Rattle.league_core.specs.declared.question.Question.{Question}
use Rattle.branch_pool.specs.inside.States.{out_count}
use Rattle.epoch_cancel.specs.inside.Seats.{seat_of}
use Rattle.pool_lock.specs.inside.Lends.{IsEyeAfter}
use Rattle.worker_gate.specs.declared.start.Start.{Start}

-- the seats at the word are after the log of the pool, which has each number at home, and the
-- ledger is whole
pub record IsStartReady (start : Start) : Type 0 where
  pub owner : start.owner ≡ seat_of start.word start.pool.log
  pub front : start.front ≡ seat_of start.word start.pool.log
  pub eyes : All (IsEyeAfter start.word start.pool.log) start.eyes.items
  pub home : out_count start.pool.loans ≡ 0
  pub whole : start.blank.parts ≡ 1

-- the job is of the ledger and the pool
abbrev pub IsJobOf : ℕ → ℕ → Sheet → List Question → Start → Type 0
IsJobOf name parts sheet questions start =
    (start.blank.name ≡ name) × (start.blank.parts ≡ parts) × (start.pool.sheet ≡ sheet)
    × (start.pool.questions ≡ questions)
