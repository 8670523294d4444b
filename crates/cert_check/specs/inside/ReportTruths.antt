-- What it means that the report in an input is accepted: each part of it tells the truth of the
-- season at its ask, for every finish and every drawing of lots.
use Rattle.std.specs.Prelude.{◌≡◌, ℕ, true, List, [], ◌∷◌, map, drop, Ok, None, Some}
use Rattle.league_core.specs.declared.sheet.Sheet.{Sheet}
use Rattle.port_core.specs.Contents.{Contents}
use Rattle.fixture_sheet.specs.Sheets.{sheet_reading_of}
use Rattle.result_log.specs.declared.entry.Entry.{Entry}
use Rattle.result_log.specs.declared.entry.Entry.TheVariants.{Change, Ask, Proofs, End}
use Rattle.result_log.specs.Feeds.{Feed, feed_of}
use Rattle.line_tokens.specs.Tokens.{counted_lines}
use Rattle.cert_check.specs.declared.expected.ReportKind.{ReportKind}
use Rattle.line_tokens.specs.Tokens.{tokens_of}
use Rattle.cert_check.specs.Machine.{basis_of}
use Rattle.cert_check.specs.inside.Calls.{SaysTruly}
use Rattle.cert_check.specs.declared.outcome.CheckOutcome.TheVariants.{Accepted}
use Rattle.cert_check.specs.Outcomes.{ReportInput, ReportProgressView, progress_with}
use Rattle.cert_check.specs.Outcomes.{PartedReport, parted}
use Rattle.cert_check.specs.Outcomes.{first_progress, outcome_of}
use Rattle.kept_lines.specs.LineLists.{numbered}

-- each part from here on says what it has to, by where it begins and ends, when these entries of
-- the feed are left, and nothing that counts comes after the last
abbrev pub PartsSay : (ReportProgressView → ℕ → Type 0) → PartedReport → List Entry
    → ReportProgressView → Type 0
PartsSay Says report [] standing = counted_lines (drop standing.at (tokens_of report.lines)) ≡ []
PartsSay Says report (Change event ∷ entries) standing =
    PartsSay Says report entries (progress_with standing (Change event))
PartsSay Says report (Ask ∷ entries) standing =
    (next : ℕ) × (unsettled : ℕ) × Says standing next
    × PartsSay Says report entries (report.behind standing next unsettled)
PartsSay Says report (Proofs ∷ entries) standing = PartsSay Says report entries standing
PartsSay Says report (End ∷ entries) standing = PartsSay Says report entries standing

-- each tells the truth of the season at its ask
abbrev pub PartsTellTruly : ReportInput → List Entry → ReportProgressView → Type 0
PartsTellTruly report entries standing =
    PartsSay (λ (it : ReportProgressView) next.
    SaysTruly (basis_of report.kind report.sheet it.season it.epoch) report.lines it.at next)
    (parted report) entries standing

-- an input is a sheet, a feed that ends with the record `proofs`, and a report of it, of this kind,
-- that tells the truth
pub record HasTrueReport (kind : ReportKind) (contents : Contents) : Type 0 where
  pub sheet : Sheet
  pub behind : Contents
  pub feed : Feed
  pub end : ℕ
  pub is_sheet : sheet_reading_of contents None ≡ record { gives = Ok sheet; rest = behind }
  pub is_feed : feed_of sheet true behind [] ≡ feed
  pub closed : feed.close ≡ Ok Proofs
  pub whole : feed.rest.ending ≡ Ok end
  pub tells : PartsTellTruly
      (record { kind = kind; sheet = sheet; lines = map numbered feed.rest.lines; end = end })
      feed.entries (first_progress sheet)

-- an input whose report is accepted has one that tells the truth
abbrev pub AcceptedInputsTellTruly : Type 0
AcceptedInputsTellTruly =
    (kind : ReportKind) (contents : Contents) (rows unsettled : ℕ)
    → outcome_of kind contents ≡ Some (Accepted rows unsettled)
    → HasTrueReport kind contents
