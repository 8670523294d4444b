-- What an input comes to in which a report on a cup is checked. It has the sheet of a cup, then a
-- feed of all its groups up to the record `proofs`, then the report: one part for each ask of the
-- feed, in their order, of the groups' seasons and the number of events at that ask, and nothing
-- that counts after the last part. A refused sheet or feed, and an input that stops, come before
-- any judgement on the report, as for a league.
use Rattle.std.specs.Prelude.{ℕ, ◌+◌, true, List, [], Result, Ok, Err}
use Rattle.std.specs.Prelude.{Option, None, Some, option_map}
use Rattle.league_core.specs.game.Results.{Results}
use Rattle.port_core.specs.declared.line.ReadStop.{ReadStop}
use Rattle.port_core.specs.Contents.{Contents}
use Rattle.result_log.specs.declared.entry.Entry.{Entry}
use Rattle.result_log.specs.Feeds.{Feed, feed_of}
use Rattle.kept_lines.specs.LineLists.{NumberedLine}
use Rattle.cert_check.specs.LineGrammars.{Ending}
use Rattle.cert_check.specs.declared.outcome.CheckOutcome.{CheckOutcome}
use Rattle.cert_check.specs.Outcomes.{ReportProgressView, first_progress, PartedReport}
use Rattle.cert_check.specs.Outcomes.{part_outcome, parts_outcome, lines_outcome, feed_outcome}
use Rattle.cert_check.specs.Outcomes.{outcome_of_stop}
use Rattle.cup_sheet.specs.declared.cup.Cup.{Cup}
use Rattle.cup_sheet.specs.CupReadings.{CupStop}
use Rattle.fixture_sheet.specs.declared.fault.ReadingStop.TheVariants.{Fault, Read, OutOfMemory}
use Rattle.cup_sheet.specs.Cups.{clubs_together}
use Rattle.cup_sheet.specs.CupFeeds.{joint_sheet, results_by_group}
use Rattle.cup_sheet.specs.CupReadings.{CupReading, cup_reading_of}
use Rattle.cup_grammar.specs.PlacedGroups.{CupBasis}
use Rattle.cup_grammar.specs.CupReports.{cup_part_ending}
use Rattle.cup_check.specs.declared.outcome.CupOutcome.{CupOutcome}
use Rattle.cup_check.specs.declared.outcome.CupOutcome.TheVariants.{BadCup, Judged}

-- ---- the report

-- a report on a cup: the cup, its lines with their numbers, and the number after the last line of
-- the input
pub record CupReportInput : Type 0 where
  pub cup : Cup
  pub lines : List NumberedLine
  pub end : ℕ

-- what an ask is judged by: a season of the joint sheet, group by group, and how many events came
abbrev pub cup_basis : Cup → Results → ℕ → CupBasis
cup_basis cup season epoch =
    record { cup = cup; seasons = results_by_group cup.groups season; epoch = epoch }

-- what the lines from a position on come to as the part of an ask
abbrev pub cup_part_there : CupReportInput → ReportProgressView → Ending
cup_part_there report standing =
    cup_part_ending (cup_basis report.cup standing.season standing.epoch) report.lines standing.at

-- how far a report is read after a part that ends at this position: it has a row for each club
abbrev pub cup_progress_after : Cup → ReportProgressView → ℕ → ℕ → ReportProgressView
cup_progress_after cup standing next unsettled =
    record standing {
      at = next;
      rows = standing.rows + clubs_together cup.groups;
      unsettled = standing.unsettled + unsettled;
    }

-- the report by its parts
abbrev pub cup_parted : CupReportInput → PartedReport
cup_parted report = record {
  part_at = cup_part_there report;
  behind = cup_progress_after report.cup;
  lines = report.lines;
  end = report.end;
}

-- what a part comes to: if it is whole, what the rest of the report does
abbrev pub cup_outcome_by : CupReportInput → ReportProgressView → Ending
    → (ReportProgressView → CheckOutcome) → CheckOutcome
cup_outcome_by report standing ending onward =
    part_outcome (cup_parted report) standing ending onward

-- what the report comes to from here on, when these entries of the feed are left
abbrev pub cup_outcome_from : CupReportInput → List Entry → ReportProgressView → CheckOutcome
cup_outcome_from report entries standing = parts_outcome (cup_parted report) entries standing

-- ---- the whole input

-- what the lines come to as a report on a cup, for a feed of these entries
abbrev pub judged_cup_lines : Cup → List Entry → List NumberedLine → ℕ → CheckOutcome
judged_cup_lines cup entries lines end =
    cup_outcome_from (record { cup = cup; lines = lines; end = end }) entries
    (first_progress (joint_sheet cup))

-- what the lines after the record `proofs` come to as such a report
abbrev pub outcome_of_cup_report : Cup → List Entry → List (ℕ × List ℕ) → Result ℕ ReadStop
    → Option CheckOutcome
outcome_of_cup_report cup entries lines ending =
    lines_outcome (judged_cup_lines cup entries) lines ending

-- what a feed and the contents after it come to
abbrev pub outcome_of_cup_feed : Cup → Feed → Option CheckOutcome
outcome_of_cup_feed cup feed = feed_outcome (judged_cup_lines cup) feed

-- what contents come to as a feed over all groups of the cup and what follows it
abbrev pub outcome_after_cup : Cup → Contents → Option CheckOutcome
outcome_after_cup cup contents =
    outcome_of_cup_feed cup (feed_of (joint_sheet cup) true contents [])

-- what the contents after the sheet come to, by what came of it
abbrev pub outcome_of_cup : Contents → Result Cup CupStop → Option CupOutcome
outcome_of_cup rest (Ok cup) = option_map Judged (outcome_after_cup cup rest)
outcome_of_cup rest (Err (Fault number fault)) = Some (BadCup number fault)
outcome_of_cup rest (Err (Read stop)) = option_map Judged (outcome_of_stop stop)
outcome_of_cup rest (Err OutOfMemory) = None

-- the same of a reading of a sheet
abbrev pub outcome_of_cup_reading : CupReading → Option CupOutcome
outcome_of_cup_reading reading = outcome_of_cup reading.rest reading.gives

-- what the contents of an input come to, with a report on a cup; nothing yet, if the source failed
-- before that was known
abbrev pub cup_outcome_of : Contents → Option CupOutcome
cup_outcome_of contents = outcome_of_cup_reading (cup_reading_of contents None)
