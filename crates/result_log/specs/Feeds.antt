-- What the contents of an input are as a feed: entry by entry, each read in the season of the
-- events before it, up to the end of the feed or the first refusal.
use Rattle.std.specs.Prelude.{ℕ, ◌+◌, Bool, List, [], ◌∷◌, ◌++◌, Option, None, Some, Result, Ok}
use Rattle.std.specs.Prelude.{Err, if◌then◌else◌, option_map}
use Rattle.league_core.specs.declared.sheet.Sheet.{Sheet}
use Rattle.league_core.specs.declared.season.Event.{Event}
use Rattle.league_core.specs.game.Results.{Results}
use Rattle.league_core.specs.game.Seasons.{epoch_of, event_applied, season_after}
use Rattle.port_core.specs.declared.line.ReadStop.{ReadStop}
use Rattle.port_core.specs.Contents.{Contents, ended}
use Rattle.fixture_sheet.specs.Fields.{has_return, record_of}
use Rattle.result_log.specs.declared.entry.Entry.{Entry}
use Rattle.result_log.specs.declared.entry.Entry.TheVariants.{Change, Ask, Proofs, End}
use Rattle.result_log.specs.declared.fault.FeedFault.{FeedFault}
use Rattle.result_log.specs.declared.fault.FeedFault.TheVariants.{UnknownRecord}
use Rattle.result_log.specs.declared.fault.FeedStop.{FeedStop}
use Rattle.result_log.specs.declared.fault.FeedStop.TheVariants.{Fault, Read}
use Rattle.result_log.specs.Records.{entry_of}

-- ---- one line, whatever its record tells

-- what a record tells, or its refusal
abbrev pub given : {T : Type 0} → Result T FeedFault → Result (Option T) FeedFault
given (Ok told) = Ok (Some told)
given (Err fault) = Err fault

-- what a line's record tells, if a field is left of the line
abbrev pub parsed_if : {T : Type 0} → (List (List ℕ) → Result T FeedFault) → Option (List (List ℕ))
    → Result (Option T) FeedFault
parsed_if tells None = Ok None
parsed_if tells (Some fields) = given (tells fields)

-- what the content of a line tells: a CR in it makes it no record
abbrev pub parsed_in : {T : Type 0} → (List (List ℕ) → Result T FeedFault) → List ℕ
    → Result (Option T) FeedFault
parsed_in tells content =
    if has_return content then Err UnknownRecord else parsed_if tells (record_of content)

-- what is told as an entry
abbrev pub found_as : {T : Type 0} → (T → Entry) → Result (Option T) FeedFault
    → Result (Option Entry) FeedFault
found_as entry (Ok found) = Ok (option_map entry found)
found_as entry (Err fault) = Err fault

-- what the content of a line tells as an entry
abbrev pub line_as : {T : Type 0} → (T → Entry) → (List (List ℕ) → Result T FeedFault) → List ℕ
    → Result (Option Entry) FeedFault
line_as entry tells content = found_as entry (parsed_in tells content)

-- the entry that a line's record is, if a field is left of the line
abbrev pub entry_if :
    Sheet → Results → ℕ → Bool → Option (List (List ℕ)) → Result (Option Entry) FeedFault
entry_if sheet season events proofs found = parsed_if (entry_of sheet season events proofs) found

-- the entry that the content of a line is
abbrev pub entry_in :
    Sheet → Results → ℕ → Bool → List ℕ → Result (Option Entry) FeedFault
entry_in sheet season events proofs content =
    parsed_in (entry_of sheet season events proofs) content

-- ---- the next entry

-- the input ends, or stops, before a record comes
abbrev pub entry_given_at_end : Result ℕ ReadStop → Result Entry FeedStop
entry_given_at_end (Ok number) = Ok End
entry_given_at_end (Err stop) = Err (Read stop)

-- ---- the whole feed

-- the season after an entry
abbrev pub season_with : Results → Entry → Results
season_with season (Change event) = event_applied season event
season_with season Ask = season
season_with season Proofs = season
season_with season End = season

-- how many events there come after an entry
abbrev pub count_with : ℕ → Entry → ℕ
count_with events (Change event) = events + 1
count_with events Ask = events
count_with events Proofs = events
count_with events End = events

-- a feed: its changes and asks in their order, what ended it (the end of the input, the record
-- `proofs`, or why it stops), and the contents after it
pub record Feed : Type 0 where
  pub entries : List Entry
  pub close : Result Entry FeedStop
  pub rest : Contents

-- one more entry at the front
abbrev pub with_entry : Entry → Feed → Feed
with_entry entry feed = record feed { entries = entry ∷ feed.entries }

-- no entry, but what ends the feed
abbrev pub closed : Result Entry FeedStop → Contents → Feed
closed close rest = record { entries = []; close = close; rest = rest }

-- what a line is in a feed with these events before it; `onward` is the feed of the lines after
-- it, by the events before them
abbrev pub feed_by :
    ℕ → Contents → (List Event → Feed) → List Event → Result (Option Entry) FeedFault → Feed
feed_by number rest onward events (Ok None) = onward events
feed_by number rest onward events (Ok (Some (Change event))) =
    with_entry (Change event) (onward (events ++ event ∷ []))
feed_by number rest onward events (Ok (Some Ask)) = with_entry Ask (onward events)
feed_by number rest onward events (Ok (Some Proofs)) = closed (Ok Proofs) rest
feed_by number rest onward events (Ok (Some End)) = closed (Ok End) rest
feed_by number rest onward events (Err fault) = closed (Err (Fault number fault)) rest

-- the feed of these lines and this ending, after these events: each line is read in the season
-- of the events before it
abbrev pub feed_from :
    Sheet → Bool → List (ℕ × List ℕ) → Result ℕ ReadStop → List Event → Feed
feed_from sheet proofs [] ending events = closed (entry_given_at_end ending) (ended ending)
feed_from sheet proofs (line ∷ lines) ending events =
    feed_by line.0 (record { lines = lines; ending = ending })
    (feed_from sheet proofs lines ending) events
    (entry_in sheet (season_after sheet events) (epoch_of events) proofs line.1)

-- the feed that contents are, after these events
abbrev pub feed_of : Sheet → Bool → Contents → List Event → Feed
feed_of sheet proofs contents events =
    feed_from sheet proofs contents.lines contents.ending events
