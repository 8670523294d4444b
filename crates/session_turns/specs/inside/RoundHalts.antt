-- Where a round of the feed halts, as its mode reads it, and how it breaks off out of memory.
use Rattle.std.specs.Prelude.{◌≡◌, ℕ, List, Option, None}
use Rattle.fixture_sheet.specs.LastReads.{ReadsOnWay}
use Rattle.result_log.specs.inside.LastReads.{GivesEvents, StopsAtClose}
use Rattle.result_log.specs.inside.Rounds.{EndsRound, Spot}
use Rattle.branch_pool.specs.inside.States.{PoolView}
use Rattle.plain_rounds.specs.declared.round.Round.{Round}
use Rattle.plain_rounds.specs.declared.round.RoundEnd.{RoundEnd}
use Rattle.plain_rounds.specs.inside.Reports.{ReportsTo}
use Rattle.plain_rounds.specs.inside.Rounds.{close_of}
use Rattle.command_words.specs.declared.command.Mode.{Mode}
use Rattle.command_words.specs.declared.command.Mode.TheVariants.{Save, Resume}
use Rattle.session_turns.specs.declared.halt.Halt.{Halt}
use Rattle.session_turns.specs.inside.Halts.{IsAboutAt, IsAskable}
use Rattle.session_turns.specs.inside.Progress.{round_line}
use Rattle.session_turns.specs.inside.Turns.{IsLive}

-- where a round of entries halts: at an ask that is about no fixture, if at an ask
abbrev pub halt_of : Round → Halt
halt_of round = record { pool = round.pool; end = round.end; about = None }

-- where a round of steps halts that ended so
abbrev pub halt_at : PoolView → RoundEnd → Option ℕ → Halt
halt_at pool end about = record { pool = pool; end = end; about = about }

-- in the modes that save or resume, nothing is done to a pool in a round but that events are
-- reported
abbrev pub IsReportedIn : Mode → PoolView → PoolView → Type 0
IsReportedIn Save old new = ReportsTo old new
IsReportedIn (Resume proofs) old new = ReportsTo old new
IsReportedIn mode old new = Unit {0}

-- a round of the mode, over this pool, from one spot and state of the source to another, halts so:
-- the pool is live and of the same sheet, the log has grown by what the lines passed report, what
-- is asked is about what the last line names, and no more was read than the end takes
pub record HaltsRound {S : Type 0} (left : S → Option (List ℕ)) (reads : S → List ℕ → S → Type 0)
    (mode : Mode) (pool : PoolView) (old new : Spot) (before after : S) (halt : Halt) : Type 0 where
  pub live : IsLive mode halt.pool
  pub sheet : halt.pool.sheet ≡ pool.sheet
  pub about : IsAboutAt mode halt.end new.reader.text halt.about
  pub askable : IsAskable halt.pool halt.about
  pub reported : IsReportedIn mode pool halt.pool
  pub ends : EndsRound (round_line mode pool.sheet) pool.log halt.pool.log old new
      (close_of halt.end)
  pub last : StopsAtClose left reads (round_line mode pool.sheet) pool.log old.reader new.reader
      before after (close_of halt.end)

-- it breaks off so: no fault was counted, and reading came on in the round
pub record StarvesRound {S : Type 0} (left : S → Option (List ℕ)) (reads : S → List ℕ → S → Type 0)
    (mode : Mode) (pool : PoolView) (old new : Spot) (before after : S) : Type 0 where
  pub counts : new.faults ≡ old.faults
  pub last : ReadsOnWay left reads (GivesEvents (round_line mode pool.sheet) pool.log) old.reader
      new.reader before after
