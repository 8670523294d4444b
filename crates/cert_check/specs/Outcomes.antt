-- What an input comes to in which a report is checked. It has a sheet, then a feed up to the record
-- `proofs`, then the report: one part for each ask of the feed, in their order, of the season and
-- the number of events at that ask, and nothing that counts after the last part. That a refused
-- sheet or feed, and an input that stops, come before any judgement on the report, is this
-- project's own rule.
use Rattle.std.specs.Prelude.{ℕ, ◌+◌, ◌*◌, List, [], ◌∷◌, length, map, drop, Result, Ok, Err, codes}
use Rattle.std.specs.Prelude.{true, if◌then◌else◌, Option, None, Some}
use Rattle.league_core.specs.declared.sheet.Sheet.{Sheet}
use Rattle.league_core.specs.game.Results.{Results}
use Rattle.league_core.specs.game.Seasons.{unplayed_season}
use Rattle.port_core.specs.declared.line.ReadStop.{ReadStop}
use Rattle.port_core.specs.declared.line.ReadStop.TheVariants.{ReadFault}
use Rattle.port_core.specs.declared.line.ReadStop.TheVariants as read_stop
use Rattle.port_core.specs.Contents.{Contents}
use Rattle.fixture_sheet.specs.Sheets.{SheetStop}
use Rattle.fixture_sheet.specs.declared.fault.ReadingStop.TheVariants as sheet_stop
use Rattle.fixture_sheet.specs.Sheets.{sheet_reading_of}
use Rattle.result_log.specs.declared.entry.Entry.{Entry}
use Rattle.result_log.specs.declared.entry.Entry.TheVariants.{Change, Ask, Proofs, End}
use Rattle.result_log.specs.declared.fault.FeedStop.{FeedStop}
use Rattle.result_log.specs.declared.fault.FeedStop.TheVariants as feed_stop
use Rattle.result_log.specs.Feeds.{Feed, feed_of, season_with, count_with}
use Rattle.line_tokens.specs.Tokens.{token_of, counts}
use Rattle.kept_lines.specs.LineLists.{NumberedLine, line_number_at, numbered}
use Rattle.cert_check.specs.declared.expected.ReportKind.{ReportKind}
use Rattle.cert_check.specs.LineGrammars.{Ending, whole_at, bad_line, no_proof, short}
use Rattle.cert_check.specs.Machine.{basis_of, part_ending}
use Rattle.cert_check.specs.declared.outcome.ReportFault.{ReportFault}
use Rattle.cert_check.specs.declared.outcome.ReportFault.TheVariants.{BadLine, NoProof, Short}
use Rattle.cert_check.specs.declared.outcome.CheckOutcome.{CheckOutcome}
use Rattle.cert_check.specs.declared.outcome.CheckOutcome.TheVariants.{Accepted, Refused, BadSheet}
use Rattle.cert_check.specs.declared.outcome.CheckOutcome.TheVariants.{BadFeed, LineTooLong}
use Rattle.cert_check.specs.declared.outcome.CheckOutcome.TheVariants.{InputTooLong}

-- the code that a fault of a report is printed by
abbrev pub report_code_of : ReportFault → List ℕ
report_code_of BadLine = codes "bad_line"
report_code_of NoProof = codes "no_proof"
report_code_of Short = codes "short"

-- ---- the report

-- a report: its kind, the sheet that it is of, its lines with their numbers, and the number after
-- the last line of the input
pub record ReportInput : Type 0 where
  pub kind : ReportKind
  pub sheet : Sheet
  pub lines : List NumberedLine
  pub end : ℕ

-- how far a report is read, and the feed beside it: season and number of events so far, the
-- position of the first line that is left, and how many rows of verdicts came, and how many of them
-- are unsettled
pub record ReportProgressView : Type 0 where
  pub season : Results
  pub epoch : ℕ
  pub at : ℕ
  pub rows : ℕ
  pub unsettled : ℕ

-- before the first entry of the feed and the first line of the report
abbrev pub first_progress : Sheet → ReportProgressView
first_progress sheet =
    record {
      season = unplayed_season (length sheet.clubs) (length sheet.fixtures);
      epoch = 0;
      at = 0;
      rows = 0;
      unsettled = 0;
    }

-- the same after an entry of the feed
abbrev pub progress_with : ReportProgressView → Entry → ReportProgressView
progress_with standing entry =
    record standing {
      season = season_with standing.season entry;
      epoch = count_with standing.epoch entry;
    }

-- nothing that counts may be left after the last part
abbrev pub outcome_at_end : ReportProgressView → List NumberedLine → CheckOutcome
outcome_at_end standing [] = Accepted standing.rows standing.unsettled
outcome_at_end standing (line ∷ lines) =
    if counts (token_of line.text) then Refused line.number BadLine
    else outcome_at_end standing lines

-- a report whatever its parts are: what the part of an ask comes to, and how far the report is
-- read after a part that ends at this position with so many unsettled rows; its lines with their
-- numbers, and the number after the last line of the input
pub record PartedReport : Type 0 where
  pub part_at : ReportProgressView → Ending
  pub behind : ReportProgressView → ℕ → ℕ → ReportProgressView
  pub lines : List NumberedLine
  pub end : ℕ

-- what a part comes to: if it is whole, what the rest of the report does
abbrev pub part_outcome : PartedReport → ReportProgressView → Ending
    → (ReportProgressView → CheckOutcome) → CheckOutcome
part_outcome report standing (whole_at next unsettled) onward =
    onward (report.behind standing next unsettled)
part_outcome report standing (bad_line at) onward =
    Refused (line_number_at report.lines at) BadLine
part_outcome report standing (no_proof at) onward =
    Refused (line_number_at report.lines at) NoProof
part_outcome report standing short onward = Refused report.end Short

-- an ask has a part of the report, any other entry has none
abbrev pub entry_outcome : PartedReport → ReportProgressView → Entry
    → (ReportProgressView → CheckOutcome) → CheckOutcome
entry_outcome report standing (Change event) onward =
    onward (progress_with standing (Change event))
entry_outcome report standing Ask onward =
    part_outcome report standing (report.part_at standing) onward
entry_outcome report standing Proofs onward = onward standing
entry_outcome report standing End onward = onward standing

-- what the report comes to from here on, when these entries of the feed are left
abbrev pub parts_outcome : PartedReport → List Entry → ReportProgressView → CheckOutcome
parts_outcome report [] standing = outcome_at_end standing (drop standing.at report.lines)
parts_outcome report (entry ∷ entries) standing =
    entry_outcome report standing entry (parts_outcome report entries)

-- ---- a report on a league

-- the same after a part of the report that ends at this position
abbrev pub progress_after : Sheet → ReportProgressView → ℕ → ℕ → ReportProgressView
progress_after sheet standing next unsettled =
    record standing {
      at = next;
      rows = standing.rows + length sheet.lines * length sheet.clubs;
      unsettled = standing.unsettled + unsettled;
    }

-- what the lines from a position on come to as the part of an ask
abbrev pub part_there : ReportInput → ReportProgressView → Ending
part_there report standing =
    part_ending (basis_of report.kind report.sheet standing.season standing.epoch) report.lines
    standing.at

-- the report by its parts
abbrev pub parted : ReportInput → PartedReport
parted report = record {
  part_at = part_there report;
  behind = progress_after report.sheet;
  lines = report.lines;
  end = report.end;
}

-- what a part comes to: if it is whole, what the rest of the report does
abbrev pub outcome_by : ReportInput → ReportProgressView → Ending
    → (ReportProgressView → CheckOutcome) → CheckOutcome
outcome_by report standing ending onward = part_outcome (parted report) standing ending onward

-- what the report comes to from here on, when these entries of the feed are left
abbrev pub outcome_from : ReportInput → List Entry → ReportProgressView → CheckOutcome
outcome_from report entries standing = parts_outcome (parted report) entries standing

-- ---- the whole input

-- an input that stops comes to this; what one comes to whose source failed is open
abbrev pub outcome_of_stop : ReadStop → Option CheckOutcome
outcome_of_stop ReadFault = None
outcome_of_stop (read_stop.LineTooLong number) = Some (LineTooLong number)
outcome_of_stop (read_stop.InputTooLong number) = Some (InputTooLong number)

-- what the lines after the record `proofs` come to, judged so: the input is read to its end first
abbrev pub lines_outcome : (List NumberedLine → ℕ → CheckOutcome) → List (ℕ × List ℕ)
    → Result ℕ ReadStop → Option CheckOutcome
lines_outcome judged lines (Ok number) = Some (judged (map numbered lines) number)
lines_outcome judged lines (Err stop) = outcome_of_stop stop

-- the input ended before the record `proofs`, at the number after its last line's, or it stopped
abbrev pub outcome_unproved : Result ℕ ReadStop → Option CheckOutcome
outcome_unproved (Ok number) = Some (Refused number Short)
outcome_unproved (Err stop) = outcome_of_stop stop

-- what a feed that does not go on comes to; that memory runs out, no input says
abbrev pub outcome_of_feed_stop : FeedStop → Option CheckOutcome
outcome_of_feed_stop (feed_stop.Fault number fault) = Some (BadFeed number fault)
outcome_of_feed_stop (feed_stop.Read stop) = outcome_of_stop stop
outcome_of_feed_stop feed_stop.OutOfMemory = None

-- what a feed and the contents after it come to, by what ended the feed, if the lines are judged so
abbrev pub close_outcome : (List NumberedLine → ℕ → CheckOutcome) → Contents
    → Result Entry FeedStop → Option CheckOutcome
close_outcome judged rest (Ok (Change event)) = outcome_unproved rest.ending
close_outcome judged rest (Ok Ask) = outcome_unproved rest.ending
close_outcome judged rest (Ok Proofs) = lines_outcome judged rest.lines rest.ending
close_outcome judged rest (Ok End) = outcome_unproved rest.ending
close_outcome judged rest (Err stop) = outcome_of_feed_stop stop

-- the same of a feed, its lines being judged by its entries
abbrev pub feed_outcome : (List Entry → List NumberedLine → ℕ → CheckOutcome) → Feed
    → Option CheckOutcome
feed_outcome judged feed = close_outcome (judged feed.entries) feed.rest feed.close

-- ---- an input with a league

-- what the lines come to as a report of this kind on a sheet, for a feed of these entries
abbrev pub judged_lines : ReportKind → Sheet → List Entry → List NumberedLine → ℕ → CheckOutcome
judged_lines kind sheet entries lines end =
    outcome_from (record { kind = kind; sheet = sheet; lines = lines; end = end }) entries
    (first_progress sheet)

-- what the lines after the record `proofs` come to as such a report
abbrev pub outcome_of_report : ReportKind → Sheet → List Entry → List (ℕ × List ℕ)
    → Result ℕ ReadStop → Option CheckOutcome
outcome_of_report kind sheet entries lines ending =
    lines_outcome (judged_lines kind sheet entries) lines ending

-- what a feed and the contents after it come to
abbrev pub outcome_of_feed : ReportKind → Sheet → Feed → Option CheckOutcome
outcome_of_feed kind sheet feed = feed_outcome (judged_lines kind sheet) feed

-- what a sheet that is not whole comes to
abbrev pub outcome_of_sheet_stop : SheetStop → Option CheckOutcome
outcome_of_sheet_stop (sheet_stop.Fault number fault) = Some (BadSheet number fault)
outcome_of_sheet_stop (sheet_stop.Read stop) = outcome_of_stop stop
outcome_of_sheet_stop sheet_stop.OutOfMemory = None

-- what the contents after a sheet come to: the feed is read in the season of its own events
abbrev pub outcome_of_sheet : ReportKind → Contents → Result Sheet SheetStop
    → Option CheckOutcome
outcome_of_sheet kind rest (Ok sheet) = outcome_of_feed kind sheet (feed_of sheet true rest [])
outcome_of_sheet kind rest (Err stop) = outcome_of_sheet_stop stop

-- what the contents of an input come to, with a report of this kind; nothing yet, if the source
-- failed before that was known
abbrev pub outcome_of : ReportKind → Contents → Option CheckOutcome
outcome_of kind contents =
    outcome_of_sheet kind (sheet_reading_of contents None).rest
    (sheet_reading_of contents None).gives
