-- Whole reports: what `verdicts` or `decide` with proofs writes for the asks of a feed, one answer
-- after the other.
use Rattle.std.specs.Prelude.{◌≡◌, ℕ, ◌+◌, ◌*◌, List, [], ◌∷◌, ◌++◌, length}
use Rattle.league_core.specs.declared.sheet.Sheet.{Sheet}
use Rattle.league_core.specs.game.Results.{Results}
use Rattle.league_core.specs.game.Seasons.{unplayed_season}
use Rattle.result_log.specs.declared.entry.Entry.{Entry}
use Rattle.result_log.specs.declared.entry.Entry.TheVariants.{Change, Ask, Proofs, End}
use Rattle.result_log.specs.Feeds.{season_with, count_with}
use Rattle.line_tokens.specs.declared.token.Token.{Token}
use Rattle.line_tokens.specs.Tokens.{tokens_of}
use Rattle.cert_check.specs.declared.outcome.CheckOutcome.TheVariants.{Accepted}
use Rattle.cert_check.specs.declared.expected.ReportKind.{ReportKind}
use Rattle.cert_check.specs.Outcomes.{ReportInput, first_progress, outcome_from}
use Rattle.report_laws.specs.inside.AcceptedAnswers.{Findings, AreFindingsOf, answer_written}
use Rattle.report_laws.specs.inside.AcceptedAnswers.{unsettled_count}

-- the lines are the answers of the asks among these entries, in their order, each of its own season
-- and number of events, and so many of their findings are unsettled
abbrev pub AreAnswersWritten : ReportKind → Sheet → List Entry → Results → ℕ → List Token → ℕ
    → Type 0
AreAnswersWritten kind sheet [] season epoch lines unsettled = (lines ≡ []) × (unsettled ≡ 0)
AreAnswersWritten kind sheet (Change event ∷ entries) season epoch lines unsettled =
    AreAnswersWritten kind sheet entries (season_with season (Change event))
    (count_with epoch (Change event)) lines unsettled
AreAnswersWritten kind sheet (Ask ∷ entries) season epoch lines unsettled =
    (findings : Findings kind) × (later : List Token) × (others : ℕ)
    × AreFindingsOf kind sheet season findings
    × (lines ≡ answer_written kind sheet season epoch findings ++ later)
    × (unsettled ≡ unsettled_count kind findings + others)
    × AreAnswersWritten kind sheet entries season epoch later others
AreAnswersWritten kind sheet (Proofs ∷ entries) season epoch lines unsettled =
    AreAnswersWritten kind sheet entries season epoch lines unsettled
AreAnswersWritten kind sheet (End ∷ entries) season epoch lines unsettled =
    AreAnswersWritten kind sheet entries season epoch lines unsettled

-- how many rows of verdicts the answers have, if each has so many
abbrev pub rows_written : ℕ → List Entry → ℕ
rows_written each [] = 0
rows_written each (Change event ∷ entries) = rows_written each entries
rows_written each (Ask ∷ entries) = each + rows_written each entries
rows_written each (Proofs ∷ entries) = rows_written each entries
rows_written each (End ∷ entries) = rows_written each entries

-- a report that is the answers of all asks of its feed is accepted, with all their rows, and with
-- as many unsettled ones as they have
abbrev pub ReportsAreAccepted : Type 0
ReportsAreAccepted =
    (report : ReportInput) (entries : List Entry) (unsettled : ℕ)
    → AreAnswersWritten report.kind report.sheet entries
    (unplayed_season (length report.sheet.clubs) (length report.sheet.fixtures)) 0
    (tokens_of report.lines) unsettled
    → outcome_from report entries (first_progress report.sheet)
    ≡ Accepted (rows_written (length report.sheet.lines * length report.sheet.clubs) entries)
    unsettled
