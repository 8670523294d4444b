-- What a feeder does: how it reads the next entry, how far it has come in a round, and what it has
-- read and reported at its end. Of the source is known what it has left, whether it has told its
-- end, its count of faults, and what a read does.
use Rattle.std.specs.Prelude.{◌≡◌, ℕ, Bool, List, Option, Result, Ok, Err, length}
use Rattle.league_core.specs.declared.sheet.Sheet.{Sheet}
use Rattle.league_core.specs.declared.season.Event.{Event}
use Rattle.league_core.specs.declared.memory.OutOfMemory.{OutOfMemory}
use Rattle.league_core.specs.game.Results.{Results}
use Rattle.league_core.specs.game.Seasons.{season_after}
use Rattle.port_core.specs.Readers.{LineReaderView}
use Rattle.fixture_sheet.specs.LastReads.{ReadsOnWay}
use Rattle.result_log.specs.declared.entry.Entry.{Entry}
use Rattle.result_log.specs.declared.fault.FeedStop.{FeedStop}
use Rattle.result_log.specs.inside.FeedParts.{LineEntry, LiveReading}
use Rattle.result_log.specs.inside.LastReads.{GivesEvents, StopsAtClose, StopsAtEntry}
use Rattle.result_log.specs.inside.Rounds.{BreaksOff, EndsRound, IsNextEntry, IsUnderWay, spot_of}
use Rattle.plain_rounds.specs.declared.round.RoundEnd.{RoundEnd}
use Rattle.plain_rounds.specs.inside.Rounds.{close_of}

-- this is the season of these events, and how many there are
abbrev pub IsSeasonReported : Sheet → List Event → Results → ℕ → Type 0
IsSeasonReported sheet log season events = (season ≡ season_after sheet log) × (events ≡ length log)

-- the next entry was read, or there is none, and reading stopped there
pub record ReadsNext {S : Type 0} (left : S → Option (List ℕ)) (ended : S → Bool) (faults : S → ℕ)
    (reads : S → List ℕ → S → Type 0) (found : LineEntry) (old new : LineReaderView)
    (before after : S) (result : Result Entry FeedStop) : Type 0 where
  pub next : IsNextEntry found (spot_of old (left before) (ended before) (faults before))
      (spot_of new (left after) (ended after) (faults after)) result
  pub last : StopsAtEntry left reads found old new before after result

-- a feeder has come so far in a round: the lines passed tell these events, and nothing else, and
-- its last read came on the way over them
pub record HasComeOn {S : Type 0} (left : S → Option (List ℕ)) (ended : S → Bool) (faults : S → ℕ)
    (reads : S → List ℕ → S → Type 0) (live : LiveReading) (log log' : List Event)
    (old new : LineReaderView) (before after : S) : Type 0 where
  pub goes : IsUnderWay live log log' (spot_of old (left before) (ended before) (faults before))
      (spot_of new (left after) (ended after) (faults after))
  pub last : ReadsOnWay left reads (GivesEvents live log) old new before after

-- a feeder read up to what ended the round, and reported each event; or it broke off
abbrev pub FeedsRound : {S : Type 0} → (S → Option (List ℕ)) → (S → Bool) → (S → ℕ)
    → (S → List ℕ → S → Type 0) → LiveReading → List Event → List Event
    → LineReaderView → LineReaderView → S → S → Result RoundEnd OutOfMemory → Type 0
FeedsRound left ended faults reads live log log' old new before after (Ok end) =
    EndsRound live log log' (spot_of old (left before) (ended before) (faults before))
    (spot_of new (left after) (ended after) (faults after)) (close_of end)
    × StopsAtClose left reads live log old new before after (close_of end)
FeedsRound left ended faults reads live log log' old new before after (Err stop) =
    BreaksOff live log (spot_of old (left before) (ended before) (faults before))
    (spot_of new (left after) (ended after) (faults after))
    × ReadsOnWay left reads (GivesEvents live log) old new before after
