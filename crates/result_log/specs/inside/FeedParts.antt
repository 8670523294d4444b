-- What one call reads of a feed: its next entry, or a round, which goes up to the next ask; and the
-- events that entries add.
use Rattle.std.specs.Prelude.{ℕ, Bool, List, [], ◌∷◌, ◌++◌, Option, None, Some, Result, Ok, Err}
use Rattle.league_core.specs.declared.sheet.Sheet.{Sheet}
use Rattle.league_core.specs.declared.season.Event.{Event}
use Rattle.league_core.specs.game.Seasons.{epoch_of, season_after}
use Rattle.port_core.specs.declared.line.ReadStop.{ReadStop}
use Rattle.port_core.specs.Contents.{Contents, ended}
use Rattle.result_log.specs.declared.entry.Entry.{Entry}
use Rattle.result_log.specs.declared.entry.Entry.TheVariants.{Change, Ask, Proofs, End}
use Rattle.result_log.specs.declared.fault.FeedFault.{FeedFault}
use Rattle.result_log.specs.declared.fault.FeedStop.{FeedStop}
use Rattle.result_log.specs.declared.fault.FeedStop.TheVariants.{Fault}
use Rattle.result_log.specs.Feeds.{entry_in, entry_given_at_end}

-- ---- how lines are read

-- what a line's content is as an entry
abbrev pub LineEntry : Type 0
LineEntry = List ℕ → Result (Option Entry) FeedFault

-- the same of each line of an input, by the events before it
abbrev pub LiveReading : Type 0
LiveReading = List Event → LineEntry

-- a feed is read so: each line in the season of the events before it
abbrev pub entry_after : Sheet → Bool → LiveReading
entry_after sheet proofs events =
    entry_in sheet (season_after sheet events) (epoch_of events) proofs

-- ---- the next entry

-- a reading of one entry: what it gives, and the contents after what it read
pub record EntryReading : Type 0 where
  pub gives : Result Entry FeedStop
  pub rest : Contents

-- what a line leads to, by the entry that it is: the entry, the refusal of the line of this
-- number, or what comes of the lines after it
abbrev pub entry_reading_by :
    ℕ → Contents → EntryReading → Result (Option Entry) FeedFault → EntryReading
entry_reading_by number rest onward (Ok None) = onward
entry_reading_by number rest onward (Ok (Some entry)) = record { gives = Ok entry; rest = rest }
entry_reading_by number rest onward (Err fault) =
    record { gives = Err (Fault number fault); rest = rest }

-- the reading of the first entry of these lines and this ending, where `entry` says what a line is
abbrev pub entry_reading_from :
    LineEntry → List (ℕ × List ℕ) → Result ℕ ReadStop → EntryReading
entry_reading_from entry [] ending =
    record { gives = entry_given_at_end ending; rest = ended ending }
entry_reading_from entry (line ∷ lines) ending =
    entry_reading_by line.0 (record { lines = lines; ending = ending })
    (entry_reading_from entry lines ending) (entry line.1)

-- the same of contents
abbrev pub entry_reading_of : LineEntry → Contents → EntryReading
entry_reading_of entry contents = entry_reading_from entry contents.lines contents.ending

-- ---- the whole feed

-- the events so far, and those that an entry adds to them
abbrev pub events_with : List Event → Entry → List Event
events_with events (Change event) = events ++ event ∷ []
events_with events Ask = events
events_with events Proofs = events
events_with events End = events

-- the events that entries add, in their order
abbrev pub events_after : List Event → List Entry → List Event
events_after events [] = events
events_after events (entry ∷ entries) = events_after (events_with events entry) entries

-- ---- one round

-- a round of a feed: its events in their order, what ended it (an ask, the record `proofs`, the end
-- of the input, or why it stops), and the contents after it
pub record Round : Type 0 where
  pub events : List Event
  pub close : Result Entry FeedStop
  pub rest : Contents

-- one more event at the front
abbrev pub with_event : Event → Round → Round
with_event event round = record round { events = event ∷ round.events }

-- no event, but what ends the round
abbrev pub round_closed : Result Entry FeedStop → Contents → Round
round_closed close rest = record { events = []; close = close; rest = rest }

-- what a line is in a round with these events before it; `onward` is the round of the lines after
-- it, by the events before them
abbrev pub round_by :
    ℕ → Contents → (List Event → Round) → List Event → Result (Option Entry) FeedFault → Round
round_by number rest onward events (Ok None) = onward events
round_by number rest onward events (Ok (Some (Change event))) =
    with_event event (onward (events ++ event ∷ []))
round_by number rest onward events (Ok (Some Ask)) = round_closed (Ok Ask) rest
round_by number rest onward events (Ok (Some Proofs)) = round_closed (Ok Proofs) rest
round_by number rest onward events (Ok (Some End)) = round_closed (Ok End) rest
round_by number rest onward events (Err fault) = round_closed (Err (Fault number fault)) rest

-- the round of these lines and this ending, after these events
abbrev pub round_from :
    LiveReading → List (ℕ × List ℕ) → Result ℕ ReadStop → List Event → Round
round_from live [] ending events = round_closed (entry_given_at_end ending) (ended ending)
round_from live (line ∷ lines) ending events =
    round_by line.0 (record { lines = lines; ending = ending })
    (round_from live lines ending) events (live events line.1)

-- the first round of contents, after these events: up to the first ask, the end, or a stop
abbrev pub round_of : LiveReading → Contents → List Event → Round
round_of live contents events = round_from live contents.lines contents.ending events

-- these events before a round
abbrev pub round_after : List Event → Round → Round
round_after events round = record round { events = events ++ round.events }
