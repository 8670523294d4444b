-- What the calls promise, by what they return.
use Rattle.std.specs.Prelude.{◌≡◌, ℕ, ◌<◌, ◌≤◌, Bool, true, false, List, [], ◌∷◌, ◌++◌}
use Rattle.std.specs.Prelude.{length, map, All, Option, None, Some, option_map, Result, Ok, Err}
use Rattle.league_core.specs.declared.memory.OutOfMemory.{OutOfMemory}
use Rattle.league_core.specs.declared.sheet.Sheet.{Sheet}
use Rattle.league_core.specs.game.Results.{Results}
use Rattle.league_core.specs.game.Seasons.{IsEventOf, unplayed_season, season_after, epoch_of}
use Rattle.port_core.specs.declared.line.Line.{Line}
use Rattle.port_core.specs.declared.line.Line.TheVariants as line
use Rattle.port_core.specs.declared.line.ReadStop.{ReadStop}
use Rattle.port_core.specs.declared.line.ReadStop.TheVariants as read_stop
use Rattle.port_core.specs.Contents.{Contents, ended, with_lines, number_at, input_limit}
use Rattle.port_core.specs.Readers.{LineReaderView}
use Rattle.port_core.specs.inside.ReaderCalls.{LeavesReader}
use Rattle.port_core.specs.Ports.{Rose}
use Rattle.fixture_sheet.specs.inside.Calls.{refused_before}
use Rattle.result_log.specs.declared.entry.Entry.{Entry}
use Rattle.result_log.specs.declared.entry.Entry.TheVariants.{Change, Ask, Proofs, End}
use Rattle.result_log.specs.declared.fault.FeedStop.{FeedStop}
use Rattle.result_log.specs.declared.fault.FeedStop.TheVariants as feed_stop
use Rattle.result_log.specs.Feeds.{Feed, feed_of, season_with, count_with}
use Rattle.result_log.specs.inside.FeedParts.{events_after}
use Rattle.cert_check.specs.declared.stop.CheckStop.{CheckStop}
use Rattle.cert_check.specs.declared.stop.CheckStop.TheVariants as check_stop
use Rattle.cert_check.specs.declared.feed.FeedRead.{FeedRead}
use Rattle.cert_check.specs.declared.lines.ReportLines.{ReportLines}
use Rattle.cert_check.specs.declared.lines.LinesStop.{LinesStop}
use Rattle.cert_check.specs.declared.lines.LinesStop.TheVariants as lines_stop
use Rattle.cert_check.specs.declared.outcome.ReportFault.TheVariants.{BadLine, NoProof, Short}
use Rattle.cert_check.specs.declared.outcome.CheckOutcome.{CheckOutcome}
use Rattle.cert_check.specs.declared.outcome.CheckOutcome.TheVariants.{Accepted, Refused, BadSheet}
use Rattle.cert_check.specs.declared.outcome.CheckOutcome.TheVariants.{BadFeed, LineTooLong}
use Rattle.cert_check.specs.declared.outcome.CheckOutcome.TheVariants.{InputTooLong}
use Rattle.cert_check.specs.declared.outcome.CheckFailure.{CheckFailure}
use Rattle.cert_check.specs.declared.outcome.CheckFailure.TheVariants as failure
use Rattle.cert_check.specs.declared.expected.ReportKind.{ReportKind}
use Rattle.cert_check.specs.Outcomes.{ReportInput, ReportProgressView, outcome_of, outcome_of_feed}
use Rattle.cert_check.specs.Outcomes.{PartedReport, entry_outcome, outcome_of_report}
use Rattle.kept_lines.specs.LineLists.{numbered}

-- ---- the whole input

-- this holds of the contents, if they are known
abbrev pub IfRead : Option Contents → (Contents → Type 0) → Type 0
IfRead known fact = (contents : Contents) → known ≡ Some contents → fact contents

-- contents that were to come before the call, and those that are to come after it, by its answer:
-- an outcome is what the contents come to; before a fault of the source some lines came, which
-- come to nothing yet, so none of them was refused; running out of memory may come anywhere
abbrev pub ChecksBy : {O : Type 0} → (Contents → Option O) → Contents → Option Contents
    → Result O CheckFailure → Type 0
ChecksBy comes_to contents after (Ok outcome) = comes_to contents ≡ Some outcome
ChecksBy comes_to contents after (Err failure.ReadFault) =
    (lines : List (ℕ × List ℕ)) × (Some contents ≡ option_map (with_lines lines) after)
    × (comes_to (with_lines lines (ended (Err read_stop.ReadFault))) ≡ None)
ChecksBy comes_to contents after (Err failure.OutOfMemory) = Unit {0}

-- the same of a whole input
abbrev pub ChecksInput : ReportKind → Option Contents → Option Contents
    → Result CheckOutcome CheckFailure → Type 0
ChecksInput kind before after result =
    IfRead before (λ contents. ChecksBy (outcome_of kind) contents after result)

-- the reader's answer that an outcome came of: the report is judged only at the input's end
abbrev pub answer_after_check : LineReaderView → CheckOutcome → Result Line ReadStop
answer_after_check new (Accepted rows unsettled) = Ok (line.End (number_at new.position))
answer_after_check new (Refused number fault) = Ok (line.End (number_at new.position))
answer_after_check new (BadSheet number fault) = Ok (refused_before new.position number)
answer_after_check new (BadFeed number fault) = Ok (line.Text number)
answer_after_check new (LineTooLong number) = Err (read_stop.LineTooLong number)
answer_after_check new (InputTooLong number) = Err (read_stop.InputTooLong number)

-- where the reader and the source are left: at the input's end, of which nothing is left; after
-- the refused line; at the line that is too long; or with no whole line in hand
abbrev pub LeavesCheck : LineReaderView → Option (List ℕ) → Result CheckOutcome CheckFailure
    → Type 0
LeavesCheck new left (Ok outcome) = LeavesReader new left (answer_after_check new outcome)
LeavesCheck new left (Err failure.ReadFault) = LeavesReader new left (Err read_stop.ReadFault)
LeavesCheck new left (Err failure.OutOfMemory) = Unit {0}

-- a fault of the source is returned only if its count rose, and else that count stays
abbrev pub CountsCheck : {O : Type 0} → ℕ → ℕ → Result O CheckFailure → Type 0
CountsCheck before now (Ok outcome) = now ≡ before
CountsCheck before now (Err failure.ReadFault) = Rose before now
CountsCheck before now (Err failure.OutOfMemory) = now ≡ before

-- what a stop of the reading is returned as
abbrev pub IsStoppedBy : ReadStop → Result CheckOutcome CheckFailure → Type 0
IsStoppedBy read_stop.ReadFault result = result ≡ Err failure.ReadFault
IsStoppedBy (read_stop.LineTooLong number) result = result ≡ Ok (LineTooLong number)
IsStoppedBy (read_stop.InputTooLong number) result = result ≡ Ok (InputTooLong number)

-- an input without the record `proofs` is short at its end
abbrev pub IsShort : LineReaderView → Result CheckOutcome CheckFailure → Type 0
IsShort reader (Ok outcome) = outcome ≡ Refused (number_at reader.position) Short
IsShort reader (Err failure.ReadFault) = ⊥
IsShort reader (Err failure.OutOfMemory) = Unit {0}

-- ---- how far a feed is read

-- an entry of the feed of a sheet: its event is one that a season of the sheet may take
abbrev pub IsEntryOf : Sheet → Entry → Type 0
IsEntryOf sheet (Change event) =
    IsEventOf (unplayed_season (length sheet.clubs) (length sheet.fixtures)) event
IsEntryOf sheet Ask = Unit {0}
IsEntryOf sheet Proofs = Unit {0}
IsEntryOf sheet End = Unit {0}

-- the entries so far, the season after them, and how many events there are among them
pub record FeedSoFarView : Type 0 where
  pub entries : List Entry
  pub season : Results
  pub events : ℕ

-- nothing of the sheet's feed is read
abbrev pub state_unread : Sheet → FeedSoFarView
state_unread sheet =
    record {
      entries = [];
      season = unplayed_season (length sheet.clubs) (length sheet.fixtures);
      events = 0;
    }

-- the same with one entry more
abbrev pub state_with : FeedSoFarView → Entry → FeedSoFarView
state_with state entry =
    record {
      entries = state.entries ++ entry ∷ [];
      season = season_with state.season entry;
      events = count_with state.events entry;
    }

-- season and number of events are those of the entries, which are entries of the sheet
pub record IsStateOf (sheet : Sheet) (state : FeedSoFarView) : Type 0 where
  pub season : state.season ≡ season_after sheet (events_after [] state.entries)
  pub events : state.events ≡ epoch_of (events_after [] state.entries)
  pub entries : All (IsEntryOf sheet) state.entries

-- these entries before a feed
abbrev pub with_entries : List Entry → Feed → Feed
with_entries entries feed = record feed { entries = entries ++ feed.entries }

-- these entries, and what ended them
abbrev pub feed_ended : List Entry → Result Entry FeedStop → Contents → Feed
feed_ended entries close rest = record { entries = entries; close = close; rest = rest }

-- lines were read, and whatever follows them, the feed is this
abbrev pub LeadsTo : Sheet → Contents → Option Contents → (Contents → Feed) → Type 0
LeadsTo sheet contents after feed =
    (lines : List (ℕ × List ℕ)) × (Some contents ≡ option_map (with_lines lines) after)
    × ((rest : Contents) → feed_of sheet true (with_lines lines rest) [] ≡ feed rest)

-- lines were read that hold these entries, and none of the lines is refused or ends the feed
abbrev pub LeadsFeed : Sheet → Contents → Option Contents → List Entry → Type 0
LeadsFeed sheet contents after entries =
    LeadsTo sheet contents after
    (λ rest. with_entries entries (feed_of sheet true rest (events_after [] entries)))

-- the contents are these entries and what ends them, and these contents come after it
abbrev pub ReadsFeedAs : Sheet → Contents → Option Contents → List Entry → Result Entry FeedStop
    → Type 0
ReadsFeedAs sheet contents after entries close =
    (rest : Contents) × (after ≡ Some rest)
    × (feed_of sheet true contents [] ≡ feed_ended entries close rest)

-- a feed was read to its end: the record `proofs`, or the end of the input
abbrev pub EndsFeed : Sheet → Contents → Option Contents → List Entry → Bool → Type 0
EndsFeed sheet contents after entries true =
    LeadsTo sheet contents after (feed_ended entries (Ok Proofs))
EndsFeed sheet contents after entries false = ReadsFeedAs sheet contents after entries (Ok End)

-- a refusal and a stop for good come as the definition says; before a fault of the source no line
-- was refused
abbrev pub StopsFeed : Sheet → Contents → Option Contents → List Entry → FeedStop → Type 0
StopsFeed sheet contents after entries (feed_stop.Fault number fault) =
    ReadsFeedAs sheet contents after entries (Err (feed_stop.Fault number fault))
StopsFeed sheet contents after entries (feed_stop.Read read_stop.ReadFault) =
    LeadsFeed sheet contents after entries
StopsFeed sheet contents after entries (feed_stop.Read (read_stop.LineTooLong number)) =
    ReadsFeedAs sheet contents after entries
    (Err (feed_stop.Read (read_stop.LineTooLong number)))
StopsFeed sheet contents after entries (feed_stop.Read (read_stop.InputTooLong number)) =
    ReadsFeedAs sheet contents after entries
    (Err (feed_stop.Read (read_stop.InputTooLong number)))
StopsFeed sheet contents after entries feed_stop.OutOfMemory = Unit {0}

-- one step of a feed: it goes on, it is over, if it has ended, or it stops
abbrev pub StepsFeed : Sheet → Contents → Option Contents → List Entry
    → Result (Option Bool) FeedStop → Type 0
StepsFeed sheet contents after entries (Ok None) = LeadsFeed sheet contents after entries
StepsFeed sheet contents after entries (Ok (Some proofs)) =
    EndsFeed sheet contents after entries proofs
StepsFeed sheet contents after entries (Err stop) = StopsFeed sheet contents after entries stop

-- the same of a call that reads a whole feed
abbrev pub ReadsFeed : Sheet → Contents → Option Contents → Result FeedRead FeedStop → Type 0
ReadsFeed sheet contents after (Ok feed) =
    EndsFeed sheet contents after feed.entries.items feed.proofs
ReadsFeed sheet contents after (Err stop) =
    (entries : List Entry) × StopsFeed sheet contents after entries stop

-- the reader's answer that the end of a feed came of
abbrev pub answer_after_feed : LineReaderView → Bool → Result Line ReadStop
answer_after_feed new true = Ok (line.Text new.position.lines)
answer_after_feed new false = Ok (line.End (number_at new.position))

-- the reader's answer that a stop came of
abbrev pub answer_after_stop : LineReaderView → FeedStop → Result Line ReadStop
answer_after_stop new (feed_stop.Fault number fault) = Ok (line.Text number)
answer_after_stop new (feed_stop.Read stop) = Err stop
answer_after_stop new feed_stop.OutOfMemory = Ok (line.Text new.position.lines)

-- where a step leaves the reader, if it ends the feed or stops
abbrev pub LeavesStep : LineReaderView → Option (List ℕ) → Result (Option Bool) FeedStop → Type 0
LeavesStep new left (Ok None) = Unit {0}
LeavesStep new left (Ok (Some proofs)) = LeavesReader new left (answer_after_feed new proofs)
LeavesStep new left (Err stop) = LeavesReader new left (answer_after_stop new stop)

-- the same of a call that reads a whole feed
abbrev pub LeavesFeed : LineReaderView → Option (List ℕ) → Result FeedRead FeedStop → Type 0
LeavesFeed new left (Ok feed) = LeavesReader new left (answer_after_feed new feed.proofs)
LeavesFeed new left (Err stop) = LeavesReader new left (answer_after_stop new stop)

-- if a step goes on, bytes were passed, and none of them past the input's limit
abbrev pub StepMovesOn : LineReaderView → LineReaderView → Result (Option Bool) FeedStop → Type 0
StepMovesOn old new (Ok None) =
    (old.position.bytes < new.position.bytes) × (new.position.bytes ≤ input_limit)
StepMovesOn old new (Ok (Some proofs)) = Unit {0}
StepMovesOn old new (Err stop) = Unit {0}

-- a fault of the source is returned only if its count rose, and else that count stays
abbrev pub CountsFeed : {A : Type 0} → ℕ → ℕ → Result A FeedStop → Type 0
CountsFeed before now (Ok value) = now ≡ before
CountsFeed before now (Err (feed_stop.Fault number fault)) = now ≡ before
CountsFeed before now (Err (feed_stop.Read read_stop.ReadFault)) = Rose before now
CountsFeed before now (Err (feed_stop.Read (read_stop.LineTooLong number))) = now ≡ before
CountsFeed before now (Err (feed_stop.Read (read_stop.InputTooLong number))) = now ≡ before
CountsFeed before now (Err feed_stop.OutOfMemory) = now ≡ before

-- ---- the lines after the feed

-- all lines were read up to the input's end, or up to where it stops
abbrev pub ReadsLines : Contents → Option Contents → Result ReportLines LinesStop → Type 0
ReadsLines contents after (Ok told) =
    (lines : List (ℕ × List ℕ)) × (told.lines ≡ map numbered lines)
    × (contents ≡ record { lines = lines; ending = Ok told.end })
ReadsLines contents after (Err (lines_stop.Read read_stop.ReadFault)) =
    (lines : List (ℕ × List ℕ)) × (Some contents ≡ option_map (with_lines lines) after)
ReadsLines contents after (Err (lines_stop.Read (read_stop.LineTooLong number))) =
    contents.ending ≡ Err (read_stop.LineTooLong number)
ReadsLines contents after (Err (lines_stop.Read (read_stop.InputTooLong number))) =
    contents.ending ≡ Err (read_stop.InputTooLong number)
ReadsLines contents after (Err lines_stop.OutOfMemory) = Unit {0}

-- where the reader is left, if the lines end or stop
abbrev pub LeavesLines : LineReaderView → Option (List ℕ) → Result ReportLines LinesStop → Type 0
LeavesLines new left (Ok told) = LeavesReader new left (Ok (line.End told.end))
LeavesLines new left (Err (lines_stop.Read stop)) = LeavesReader new left (Err stop)
LeavesLines new left (Err lines_stop.OutOfMemory) = Unit {0}

-- a fault of the source is returned only if its count rose, and else that count stays
abbrev pub CountsLines : ℕ → ℕ → Result ReportLines LinesStop → Type 0
CountsLines before now (Ok told) = now ≡ before
CountsLines before now (Err (lines_stop.Read read_stop.ReadFault)) = Rose before now
CountsLines before now (Err (lines_stop.Read (read_stop.LineTooLong number))) = now ≡ before
CountsLines before now (Err (lines_stop.Read (read_stop.InputTooLong number))) = now ≡ before
CountsLines before now (Err lines_stop.OutOfMemory) = now ≡ before

-- ---- the report

-- what a stop of the checker comes to, in an input that ends at this number
abbrev pub IsRefusedBy : ℕ → CheckStop → Result CheckOutcome OutOfMemory → Type 0
IsRefusedBy end (check_stop.BadLine number) result = result ≡ Ok (Refused number BadLine)
IsRefusedBy end (check_stop.NoProof number) result = result ≡ Ok (Refused number NoProof)
IsRefusedBy end check_stop.Short result = result ≡ Ok (Refused end Short)
IsRefusedBy end check_stop.OutOfMemory (Ok outcome) = ⊥
IsRefusedBy end check_stop.OutOfMemory (Err want) = Unit {0}

-- the lines that are known, as a report on a sheet
abbrev pub report_read : ReportKind → Sheet → ReportLines → ReportInput
report_read kind sheet told =
    record { kind = kind; sheet = sheet; lines = told.lines; end = told.end }

-- an entry is gone over: the report is read on from here; or it comes to this, whatever follows
abbrev pub GoesOverEntry : PartedReport → ReportProgressView → ReportProgressView → Entry
    → Option CheckOutcome → Type 0
GoesOverEntry report old new entry None =
    (onward : ReportProgressView → CheckOutcome)
    → entry_outcome report old entry onward ≡ onward new
GoesOverEntry report old new entry (Some outcome) =
    (onward : ReportProgressView → CheckOutcome) → entry_outcome report old entry onward ≡ outcome

-- ---- what comes after the sheet, and after the feed

-- what contents come to as a feed of the sheet and what follows it
abbrev pub outcome_after_sheet : ReportKind → Sheet → Contents → Option CheckOutcome
outcome_after_sheet kind sheet contents =
    outcome_of_feed kind sheet (feed_of sheet true contents [])

-- what contents come to as a report, for a feed of these entries
abbrev pub outcome_after_feed : ReportKind → Sheet → List Entry → Contents → Option CheckOutcome
outcome_after_feed kind sheet entries contents =
    outcome_of_report kind sheet entries contents.lines contents.ending
