-- What holds of every feed, by the definitions alone: each statement is the contract of a
-- function of src/laws.rt that does nothing.
use Rattle.std.specs.Prelude.{◌≡◌, ◌≢◌, ◌≤◌, ℕ, Bool, List, ◌∷◌, [], ◌++◌, Some, Result, Ok, Err}
use Rattle.league_core.specs.declared.sheet.Sheet.{Sheet}
use Rattle.league_core.specs.declared.season.Event.{Event}
use Rattle.league_core.specs.game.Results.{Results}
use Rattle.league_core.specs.game.Seasons.{AreEventsOf, IsSeasonOf, epoch_of, season_after}
use Rattle.port_core.specs.Contents.{Contents, with_line, with_lines}
use Rattle.result_log.specs.declared.entry.Entry.{Entry}
use Rattle.result_log.specs.declared.entry.Entry.TheVariants.{Change, Ask, Proofs, End}
use Rattle.result_log.specs.declared.fault.FeedFault.{FeedFault}
use Rattle.result_log.specs.declared.fault.FeedStop.{FeedStop}
use Rattle.result_log.specs.declared.fault.FeedStop.TheVariants.{Fault}
use Rattle.league_core.specs.game.Limits.{most_events}
use Rattle.result_log.specs.Records.{IsEntryAt, entry_of}
use Rattle.result_log.specs.Feeds.{Feed, closed, count_with, entry_in, feed_of, season_with}
use Rattle.result_log.specs.Feeds.{with_entry}
use Rattle.result_log.specs.inside.FeedParts.{LiveReading, entry_after, entry_reading_of}
use Rattle.result_log.specs.inside.FeedParts.{events_after, events_with, round_after, round_closed}
use Rattle.result_log.specs.inside.FeedParts.{round_of}
use Rattle.result_log.specs.inside.Rounds.{ReadsEvents}

-- ---- one entry

-- an entry that a record is may come in its season: its event is one that the season may be told
abbrev pub EntriesMayCome : Type 0
EntriesMayCome =
    (sheet : Sheet) (season : Results) (events : ℕ) (proofs : Bool) (fields : List (List ℕ))
    (entry : Entry) → IsSeasonOf sheet season
    → entry_of sheet season events proofs fields ≡ Ok entry → IsEntryAt season events proofs entry

-- no record is the end of the input
abbrev pub NoRecordIsTheEnd : Type 0
NoRecordIsTheEnd =
    (sheet : Sheet) (season : Results) (events : ℕ) (proofs : Bool) (fields : List (List ℕ))
    → entry_of sheet season events proofs fields ≢ Ok End

-- the same of the next entry of contents
abbrev pub ReadingsMayCome : Type 0
ReadingsMayCome =
    (sheet : Sheet) (season : Results) (events : ℕ) (proofs : Bool) (contents : Contents)
    (entry : Entry) → IsSeasonOf sheet season
    → (entry_reading_of (entry_in sheet season events proofs) contents).gives ≡ Ok entry
    → IsEntryAt season events proofs entry

-- ---- the whole feed

-- what a feed is by the reading of its first entry
abbrev pub feed_after : Sheet → Bool → List Event → Contents → Result Entry FeedStop → Feed
feed_after sheet proofs events rest (Ok (Change event)) =
    with_entry (Change event) (feed_of sheet proofs rest (events ++ event ∷ []))
feed_after sheet proofs events rest (Ok Ask) = with_entry Ask (feed_of sheet proofs rest events)
feed_after sheet proofs events rest (Ok Proofs) = closed (Ok Proofs) rest
feed_after sheet proofs events rest (Ok End) = closed (Ok End) rest
feed_after sheet proofs events rest (Err stop) = closed (Err stop) rest

-- the first entry of a feed is the next entry of its contents, read in the season of the events
-- before it, and the rest of it is the feed of the contents after that entry
abbrev pub FeedsAreReadByEntries : Type 0
FeedsAreReadByEntries =
    (sheet : Sheet) (proofs : Bool) (contents : Contents) (events : List Event)
    → let next = entry_reading_of (entry_in sheet (season_after sheet events)
    (epoch_of events) proofs)
    contents in
    feed_of sheet proofs contents events
    ≡ feed_after sheet proofs events next.rest next.gives

-- season and number of events grow with each entry
abbrev pub SeasonsGrowByEntries : Type 0
SeasonsGrowByEntries =
    (sheet : Sheet) (events : List Event) (entry : Entry)
    → (season_after sheet (events_with events entry)
    ≡ season_with (season_after sheet events) entry)
    × (epoch_of (events_with events entry) ≡ count_with (epoch_of events) entry)

-- these events and those of a feed after them are events of the sheet, and not more than may be
abbrev pub KeepsLog : Sheet → List Event → Feed → Type 0
KeepsLog sheet events feed =
    AreEventsOf sheet (events_after events feed.entries)
    × (epoch_of (events_after events feed.entries) ≤ most_events)

-- a feed's events are events of the sheet, and never more than may be
abbrev pub FeedsKeepTheLog : Type 0
FeedsKeepTheLog =
    (sheet : Sheet) (proofs : Bool) (contents : Contents) (events : List Event)
    → AreEventsOf sheet events → epoch_of events ≤ most_events
    → KeepsLog sheet events (feed_of sheet proofs contents events)

-- ---- rounds

-- these events before a feed
abbrev pub with_events : List Event → Feed → Feed
with_events [] feed = feed
with_events (event ∷ events) feed = with_entry (Change event) (with_events events feed)

-- a feed is its first round and what comes after it: if an ask ended the round, the feed of the
-- contents after it, after the round's events too
abbrev pub FeedsAreReadByRounds : Type 0
FeedsAreReadByRounds =
    (sheet : Sheet) (proofs : Bool) (contents : Contents) (events : List Event)
    → let round = round_of (entry_after sheet proofs) contents events in
    feed_of sheet proofs contents events
    ≡ with_events round.events
    (feed_after sheet proofs (events ++ round.events) round.rest round.close)

-- no event ends a round
abbrev pub RoundsEndOtherwise : Type 0
RoundsEndOtherwise =
    (live : LiveReading) (contents : Contents) (events : List Event) (event : Event)
    → (round_of live contents events).close ≢ Ok (Change event)

-- lines that tell events begin a round with these events, whatever follows them
abbrev pub EventLinesBeginRounds : Type 0
EventLinesBeginRounds =
    (live : LiveReading) (log log' : List Event) (lines : List (ℕ × List ℕ))
    → ReadsEvents live log lines log'
    → (told : List Event) × (log' ≡ log ++ told)
    × ((rest : Contents) → round_of live (with_lines lines rest) log
    ≡ round_after told (round_of live rest log'))

-- a line that asks closes a round, and so does one that is refused
pub record ClosesRound (live : LiveReading) (log : List Event) (number : ℕ) (text : List ℕ)
    (rest : Contents) : Type 0 where
  pub ask : live log text ≡ Ok (Some Ask)
      → round_of live (with_line number text rest) log ≡ round_closed (Ok Ask) rest
  pub refused : (fault : FeedFault) → live log text ≡ Err fault
      → round_of live (with_line number text rest) log
      ≡ round_closed (Err (Fault number fault)) rest

-- this holds of every line
abbrev pub LastLinesCloseRounds : Type 0
LastLinesCloseRounds =
    (live : LiveReading) (log : List Event) (number : ℕ) (text : List ℕ) (rest : Contents)
    → ClosesRound live log number text rest
