-- A round of a cup's feed: how far it is read, and what ends it.
use Rattle.std.specs.Prelude.{◌≡◌, ℕ, ◌+◌, Bool, List, Option, Result, Ok, Err}
use Rattle.league_core.specs.declared.sheet.Sheet.{Sheet}
use Rattle.league_core.specs.declared.season.Event.{Event}
use Rattle.league_core.specs.game.Seasons.{AreEventsOf, epoch_of, event_applied, season_after}
use Rattle.port_core.specs.Readers.{LineReaderView}
use Rattle.fixture_sheet.specs.LastReads.{ReadsOnWay}
use Rattle.result_log.specs.declared.entry.Entry.{Entry}
use Rattle.result_log.specs.declared.entry.Entry.TheVariants as entry
use Rattle.result_log.specs.declared.fault.FeedStop.{FeedStop}
use Rattle.result_log.specs.inside.LastReads.{GivesEvents, StopsAtClose}
use Rattle.result_log.specs.inside.Rounds.{EndsRound, IsUnderWay, live_entry, spot_of}
use Rattle.cup_turns.specs.declared.round.CupSoFar.{CupSoFar}
use Rattle.cup_turns.specs.declared.round.Pause.{Pause}
use Rattle.cup_turns.specs.declared.round.Pause.TheVariants as pause

-- one event more
abbrev pub cup_told : CupSoFar → Event → CupSoFar
cup_told so_far event =
    record { season = event_applied so_far.season event; events = so_far.events + 1 }

-- so far a feed is read after these events of the sheet: the season is the one of them, and they
-- are counted
pub record IsAfterEvents (sheet : Sheet) (log : List Event) (so_far : CupSoFar) : Type 0 where
  pub of_sheet : AreEventsOf sheet log
  pub season : so_far.season ≡ season_after sheet log
  pub count : so_far.events ≡ epoch_of log

-- the same after some events
abbrev pub WasRead : Sheet → CupSoFar → Type 0
WasRead sheet so_far = (log : List Event) × IsAfterEvents sheet log so_far

-- what ended a round, as an entry or why there is none
abbrev pub close_at : Result Pause FeedStop → Result Entry FeedStop
close_at (Ok pause.Ask) = Ok entry.Ask
close_at (Ok pause.End) = Ok entry.End
close_at (Err stop) = Err stop

-- a round is read so far: the lines passed tell the events after the first ones, and nothing else,
-- and its last read came on the way over them
pub record IsReadOn {S : Type 0} (left : S → Option (List ℕ)) (ended : S → Bool) (faults : S → ℕ)
    (reads : S → List ℕ → S → Type 0) (sheet : Sheet) (log : List Event) (so_far : CupSoFar)
    (old new : LineReaderView) (before after : S) : Type 0 where
  pub told : List Event
  pub stands : IsAfterEvents sheet told so_far
  pub goes : IsUnderWay (live_entry sheet) log told
      (spot_of old (left before) (ended before) (faults before))
      (spot_of new (left after) (ended after) (faults after))
  pub last : ReadsOnWay left reads (GivesEvents (live_entry sheet) log) old new before after

-- a round is over: the lines passed tell the events after the first ones, the last line is what
-- ends it, and reading stopped there
pub record IsReadUp {S : Type 0} (left : S → Option (List ℕ)) (ended : S → Bool) (faults : S → ℕ)
    (reads : S → List ℕ → S → Type 0) (sheet : Sheet) (log : List Event) (so_far : CupSoFar)
    (old new : LineReaderView) (before after : S) (close : Result Entry FeedStop) : Type 0 where
  pub told : List Event
  pub stands : IsAfterEvents sheet told so_far
  pub ends : EndsRound (live_entry sheet) log told
      (spot_of old (left before) (ended before) (faults before))
      (spot_of new (left after) (ended after) (faults after)) close
  pub last : StopsAtClose left reads (live_entry sheet) log old new before after close
