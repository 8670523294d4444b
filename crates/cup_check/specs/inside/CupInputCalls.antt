-- What the calls promise, by what they return.
use Rattle.std.specs.Prelude.{ℕ, ◌*◌, ◌≤◌, ◌^◌, List, Option}
use Rattle.std.specs.Prelude.{Result, Ok, Err}
use Rattle.league_core.specs.declared.sheet.Sheet.{Sheet}
use Rattle.league_core.specs.game.Seasons.{IsSeasonOf}
use Rattle.port_core.specs.declared.line.Line.{Line}
use Rattle.port_core.specs.declared.line.ReadStop.{ReadStop}
use Rattle.port_core.specs.declared.line.ReadStop.TheVariants as read_stop
use Rattle.port_core.specs.Contents.{Contents}
use Rattle.port_core.specs.Readers.{LineReaderView}
use Rattle.port_core.specs.inside.ReaderCalls.{LeavesReader}
use Rattle.fixture_sheet.specs.inside.Calls.{refused_before}
use Rattle.result_log.specs.declared.entry.Entry.{Entry}
use Rattle.cert_check.specs.declared.lines.ReportLines.{ReportLines}
use Rattle.cert_check.specs.declared.outcome.CheckOutcome.{CheckOutcome}
use Rattle.cert_check.specs.declared.outcome.CheckFailure.{CheckFailure}
use Rattle.cert_check.specs.declared.outcome.CheckFailure.TheVariants as failure
use Rattle.cert_check.specs.Outcomes.{ReportProgressView}
use Rattle.cert_check.specs.inside.InputCalls.{GoesOverEntry, answer_after_check}
use Rattle.cup_sheet.specs.declared.cup.Cup.{Cup}
use Rattle.cup_check.specs.declared.outcome.CupOutcome.{CupOutcome}
use Rattle.cup_check.specs.declared.outcome.CupOutcome.TheVariants.{BadCup, Judged}
use Rattle.cup_check.specs.CupOutcomes.{CupReportInput, cup_parted, outcome_of_cup_report}

-- ---- the whole input

-- the reader's answer that an outcome came of: the report is judged only at the input's end
abbrev pub answer_after_cup : LineReaderView → CupOutcome → Result Line ReadStop
answer_after_cup new (BadCup number fault) = Ok (refused_before new.position number)
answer_after_cup new (Judged outcome) = answer_after_check new outcome

-- where the reader and the source are left: at the input's end, of which nothing is left; after
-- the refused line; at the line that is too long; or with no whole line in hand
abbrev pub LeavesCupCheck : LineReaderView → Option (List ℕ) → Result CupOutcome CheckFailure
    → Type 0
LeavesCupCheck new left (Ok outcome) = LeavesReader new left (answer_after_cup new outcome)
LeavesCupCheck new left (Err failure.ReadFault) = LeavesReader new left (Err read_stop.ReadFault)
LeavesCupCheck new left (Err failure.OutOfMemory) = Unit {0}

-- an outcome of feed and report as one of the whole input
abbrev pub as_cup_outcome : Result CheckOutcome CheckFailure → Result CupOutcome CheckFailure
as_cup_outcome (Ok outcome) = Ok (Judged outcome)
as_cup_outcome (Err stop) = Err stop

-- what contents come to as a report, for a feed of these entries
abbrev pub outcome_after_cup_feed : Cup → List Entry → Contents → Option CheckOutcome
outcome_after_cup_feed cup entries contents =
    outcome_of_cup_report cup entries contents.lines contents.ending

-- ---- the report

-- the lines that are known, as a report on a cup
abbrev pub cup_report_read : Cup → ReportLines → CupReportInput
cup_report_read cup told = record { cup = cup; lines = told.lines; end = told.end }

-- a season of the joint sheet and a place within the lines, few enough entries being gone over for
-- the numbers to be counted
pub record IsProgressWithin (sheet : Sheet) (lines : ℕ) (entries : ℕ)
    (standing : ReportProgressView) : Type 0 where
  pub season : IsSeasonOf sheet standing.season
  pub at : standing.at ≤ lines
  pub epoch : standing.epoch ≤ entries
  pub rows : standing.rows ≤ entries * 2 ^ 32
  pub unsettled : standing.unsettled ≤ entries * 2 ^ 32

-- an entry is gone over: the report is read on from here; or it comes to this, whatever follows
abbrev pub GoesOverCupEntry : CupReportInput → ReportProgressView → ReportProgressView → Entry
    → Option CheckOutcome → Type 0
GoesOverCupEntry report old new entry found = GoesOverEntry (cup_parted report) old new entry found
