-- The bytes of an answer: what the program writes and what a check reads are the same lines.
use Rattle.std.specs.Prelude.{◌≡◌, ◌≢◌, ℕ, ◌*◌, List, length, Ok, Some}
use Rattle.std.specs.List.{flat_map}
use Rattle.league_core.specs.declared.sheet.Sheet.{Sheet}
use Rattle.league_core.specs.game.Seasons.{unplayed_season}
use Rattle.port_core.specs.Lines.{lines_of}
use Rattle.port_core.specs.Contents.{Position, contents_from}
use Rattle.result_log.specs.declared.entry.Entry.{Entry}
use Rattle.line_tokens.specs.declared.token.Token.{Token}
use Rattle.cert_check.specs.declared.outcome.CheckOutcome.TheVariants.{Accepted}
use Rattle.cert_check.specs.declared.expected.ReportKind.{ReportKind}
use Rattle.cert_check.specs.Outcomes.{outcome_of_report}
use Rattle.report_lines.specs.inside.WrittenReports.{AreRead, written}
use Rattle.report_laws.specs.inside.AcceptedReports.{AreAnswersWritten, rows_written}

-- if an input has a sheet, a feed and the record `proofs`, and after them the bytes of the answers
-- of all asks of that feed, and is read to its end, the report is accepted, with all rows of the
-- answers and with as many unsettled ones as they have
abbrev pub WrittenAnswersAreAccepted : Type 0
WrittenAnswersAreAccepted =
    (kind : ReportKind) (sheet : Sheet) (entries : List Entry) (told : List Token) (unsettled : ℕ)
    (position : Position) (lines : List (ℕ × List ℕ)) (end : ℕ)
    → AreAnswersWritten kind sheet entries
    (unplayed_season (length sheet.clubs) (length sheet.fixtures)) 0 told unsettled
    → AreRead told → position.lines ≢ 0
    → contents_from position (lines_of (flat_map written told))
    ≡ record { lines = lines; ending = Ok end }
    → outcome_of_report kind sheet entries lines (Ok end)
    ≡ Some (Accepted (rows_written (length sheet.lines * length sheet.clubs) entries) unsettled)
