-- Five worked inputs of a check, one for each status that it may have.
use Rattle.std.proofs.Common.{ℕ, List, [], ◌∷◌, ◌++◌, codes, replicate, refl}
use lib.Utf8.{encode}
use Rattle.std.specs.Str.{chars, is_utf8}
use Rattle.csv.specs.Machine.{next_record}
use Rattle.csv.specs.Reading.{strip_bom}
use Rattle.fixture_sheet.specs.declared.fault.SheetFault.TheVariants.{NoLeague}
use Rattle.result_log.specs.declared.fault.FeedFault.TheVariants.{UnknownRecord}
use Rattle.cert_check.specs.declared.expected.ReportKind.{ReportKind}
use Rattle.cert_check.specs.declared.outcome.ReportFault.TheVariants.{Short}
use Rattle.cert_check.specs.declared.outcome.CheckOutcome.TheVariants as outcome
use Rattle.run_ends.specs.declared.status.Status.TheVariants.{Done, BadSheet, BadFeed}
use Rattle.run_ends.specs.declared.status.Status.TheVariants.{NotProved, TooLong}
use Rattle.futmax_main.specs.Checks.{report_judge}
use Rattle.futmax_main.specs.Modes.{IsChecked}

-- a line of these words
abbrev pub ended_line : List ℕ → List ℕ
ended_line text = text ++ 10 ∷ []

-- the sheet of two clubs that do not meet
abbrev pub pair_sheet : List ℕ
pair_sheet =
    ended_line (codes "league,T,1") ++ (ended_line (codes "club,A,1")
    ++ (ended_line (codes "club,B,2") ++ ended_line (codes "season")))

-- without an ask, the empty report is accepted
pub checked-done : (kind : ReportKind)
    → IsChecked (report_judge kind) (pair_sheet ++ ended_line (codes "proofs")) Done
unfolding next_record strip_bom is_utf8 chars encode
checked-done kind = (outcome.Accepted 0 0, refl, refl)

-- no report comes
pub checked-not_proved : (kind : ReportKind) → IsChecked (report_judge kind) pair_sheet NotProved
unfolding next_record strip_bom is_utf8 chars encode
checked-not_proved kind = (outcome.Refused 5 Short, refl, refl)

-- no sheet stands in an empty input
pub checked-bad_sheet : (kind : ReportKind) → IsChecked (report_judge kind) [] BadSheet
checked-bad_sheet kind = (outcome.BadSheet 1 NoLeague, refl, refl)

-- a word that no feed has
pub checked-bad_feed : (kind : ReportKind)
    → IsChecked (report_judge kind) (pair_sheet ++ ended_line (codes "x")) BadFeed
unfolding next_record strip_bom is_utf8 chars encode
checked-bad_feed kind = (outcome.BadFeed 5 UnknownRecord, refl, refl)

-- a line of 1025 bytes
pub checked-too_long : (kind : ReportKind)
    → IsChecked (report_judge kind) (replicate 1025 97) TooLong
checked-too_long kind = (outcome.LineTooLong 1, refl, refl)
