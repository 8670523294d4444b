-- A report of parts, one after the other, and so one of answers.
use Rattle.std.proofs.Common.{◌≡◌, ℕ, ◌+◌, ◌*◌, List, [], ◌∷◌, ◌++◌, drop, length, refl}
use Rattle.std.proofs.Common.{sym, ap, ◌∙◌, arith}
use Rattle.std.proofs.Math.Seq.{drop-append_seam}
use Rattle.std.proofs.lemmas.List.{drop-drop}
use Rattle.league_core.specs.declared.sheet.Sheet.{Sheet}
use Rattle.league_core.specs.game.Results.{Results}
use Rattle.result_log.specs.Feeds.{season_with, count_with}
use Rattle.result_log.specs.declared.entry.Entry.{Entry}
use Rattle.result_log.specs.declared.entry.Entry.TheVariants.{Change, Ask, Proofs, End}
use Rattle.line_tokens.specs.declared.token.Token.{Token}
use Rattle.line_tokens.specs.Tokens.{counted_lines}
use Rattle.line_tokens.specs.Tokens.{tokens_of}
use Rattle.cert_check.specs.LineGrammars.{Ending, whole_at}
use Rattle.cert_check.specs.Machine.{ending_of, part_of_ask}
use Rattle.cert_check.specs.declared.expected.ReportKind.{ReportKind}
use Rattle.cert_check.specs.Machine.{basis_of}
use Rattle.cert_check.specs.declared.outcome.CheckOutcome.TheVariants.{Accepted}
use Rattle.cert_check.specs.Outcomes.{ReportInput, ReportProgressView, first_progress, outcome_by}
use Rattle.cert_check.specs.Outcomes.{outcome_from, progress_after, progress_with}
use Rattle.cert_check.proofs.OutcomeLemmas.{end-accepted}
use Rattle.report_laws.specs.inside.AcceptedAnswers.{answer_written, unsettled_count}
use Rattle.report_laws.specs.inside.AcceptedReports.{AreAnswersWritten, rows_written}
use Rattle.report_laws.proofs.ItemLemmas.{answer_of_findings}

-- the lines are read as the whole part of an ask, whatever follows them, with so many unsettled
-- rows
abbrev pub IsWholePart : ReportKind → Sheet → Results → ℕ → List Token → ℕ → Type 0
IsWholePart kind sheet season epoch part unsettled =
    (rest : List Token) (from : ℕ)
    → ending_of (basis_of kind sheet season epoch) (part ++ rest) (part_of_ask sheet) from 0
    ≡ whole_at (from + length part) unsettled

-- the lines are such parts for the asks among these entries, in their order, each of its own season
-- and number of events
abbrev pub ArePartsRead : ReportKind → Sheet → List Entry → Results → ℕ → List Token → ℕ → Type 0
ArePartsRead kind sheet [] season epoch lines unsettled = (lines ≡ []) × (unsettled ≡ 0)
ArePartsRead kind sheet (Change event ∷ entries) season epoch lines unsettled =
    ArePartsRead kind sheet entries (season_with season (Change event))
    (count_with epoch (Change event)) lines unsettled
ArePartsRead kind sheet (Ask ∷ entries) season epoch lines unsettled =
    (part : List Token) × (here : ℕ) × (later : List Token) × (others : ℕ)
    × IsWholePart kind sheet season epoch part here
    × (lines ≡ part ++ later) × (unsettled ≡ here + others)
    × ArePartsRead kind sheet entries season epoch later others
ArePartsRead kind sheet (Proofs ∷ entries) season epoch lines unsettled =
    ArePartsRead kind sheet entries season epoch lines unsettled
ArePartsRead kind sheet (End ∷ entries) season epoch lines unsettled =
    ArePartsRead kind sheet entries season epoch lines unsettled

-- a report is accepted from here on, if the lines that are left are such parts
parts_from : (report : ReportInput) (entries : List Entry) (standing : ReportProgressView)
    (lines : List Token) (unsettled : ℕ)
    → drop standing.at (tokens_of report.lines) ≡ lines
    → ArePartsRead report.kind report.sheet entries standing.season standing.epoch lines unsettled
    → outcome_from report entries standing
    ≡ Accepted (standing.rows
    + rows_written (length report.sheet.lines * length report.sheet.clubs) entries)
    (standing.unsettled + unsettled)
parts_from report [] standing lines unsettled left told =
    end-accepted standing report.lines (ap counted_lines (left ∙ told.0))
    ∙ ap (λ (n : ℕ). Accepted n standing.unsettled) (none standing.rows)
    ∙ ap (λ (n : ℕ). Accepted (standing.rows + 0) n)
    (none standing.unsettled ∙ ap (λ (n : ℕ). standing.unsettled + n) (sym told.1))
  where
    none : (n : ℕ) → n ≡ n + 0
    none n = omega arith
parts_from report (Change event ∷ entries) standing lines unsettled left told =
    parts_from report entries (progress_with standing (Change event)) lines unsettled left told
parts_from report (Ask ∷ entries) standing lines unsettled left told =
    let basis = basis_of report.kind report.sheet standing.season standing.epoch in
    let part = told.0 in
    let next = progress_after report.sheet standing (standing.at + length part) told.1 in
    let each = length report.sheet.lines * length report.sheet.clubs in
    ap (λ (tokens : List Token). outcome_by report standing
    (ending_of basis tokens (part_of_ask report.sheet) standing.at 0)
    (outcome_from report entries))
    (left ∙ told.5)
    ∙ ap (λ (ending : Ending). outcome_by report standing ending (outcome_from report entries))
    (told.4 told.2 standing.at)
    ∙ parts_from report entries next told.2 told.3
    (sym (drop-drop (length part) standing.at (tokens_of report.lines))
    ∙ ap (drop (length part)) (left ∙ told.5) ∙ drop-append_seam part told.2)
    told.7
    ∙ ap (λ (n : ℕ). Accepted n ((standing.unsettled + told.1) + told.3))
    (grouped standing.rows each (rows_written each entries))
    ∙ ap (λ (n : ℕ). Accepted (standing.rows + (each + rows_written each entries)) n)
    (grouped standing.unsettled told.1 told.3
    ∙ ap (λ (n : ℕ). standing.unsettled + n) (sym told.6))
  where
    grouped : (a b c : ℕ) → (a + b) + c ≡ a + (b + c)
    grouped a b c = omega arith
parts_from report (Proofs ∷ entries) standing lines unsettled left told =
    parts_from report entries standing lines unsettled left told
parts_from report (End ∷ entries) standing lines unsettled left told =
    parts_from report entries standing lines unsettled left told

-- a report of parts
pub report_of_parts : (report : ReportInput) (entries : List Entry) (unsettled : ℕ)
    → ArePartsRead report.kind report.sheet entries (first_progress report.sheet).season 0
    (tokens_of report.lines) unsettled
    → outcome_from report entries (first_progress report.sheet)
    ≡ Accepted (rows_written (length report.sheet.lines * length report.sheet.clubs) entries)
    unsettled
report_of_parts report entries unsettled told =
    let each = length report.sheet.lines * length report.sheet.clubs in
    parts_from report entries (first_progress report.sheet) (tokens_of report.lines) unsettled
    refl told
    ∙ ap (λ (n : ℕ). Accepted n (0 + unsettled)) (nothing (rows_written each entries))
    ∙ ap (λ (n : ℕ). Accepted (rows_written each entries) n) (nothing unsettled)
  where
    nothing : (n : ℕ) → 0 + n ≡ n
    nothing n = omega arith

-- answers are such parts
answers_are_parts : (kind : ReportKind) (sheet : Sheet) (entries : List Entry) (season : Results)
    (epoch : ℕ) (lines : List Token) (unsettled : ℕ)
    → AreAnswersWritten kind sheet entries season epoch lines unsettled
    → ArePartsRead kind sheet entries season epoch lines unsettled
answers_are_parts kind sheet [] season epoch lines unsettled told = told
answers_are_parts kind sheet (Change event ∷ entries) season epoch lines unsettled told =
    answers_are_parts kind sheet entries (season_with season (Change event))
    (count_with epoch (Change event)) lines unsettled told
answers_are_parts kind sheet (Ask ∷ entries) season epoch lines unsettled told = (
  answer_written kind sheet season epoch told.0,
  unsettled_count kind told.0,
  told.1,
  told.2,
  (λ rest from. answer_of_findings kind sheet season epoch told.0 rest from told.3),
  told.4,
  told.5,
  answers_are_parts kind sheet entries season epoch told.1 told.2 told.6,
)
answers_are_parts kind sheet (Proofs ∷ entries) season epoch lines unsettled told =
    answers_are_parts kind sheet entries season epoch lines unsettled told
answers_are_parts kind sheet (End ∷ entries) season epoch lines unsettled told =
    answers_are_parts kind sheet entries season epoch lines unsettled told

-- a report of answers
pub report_of_answers : (report : ReportInput) (entries : List Entry) (unsettled : ℕ)
    → AreAnswersWritten report.kind report.sheet entries (first_progress report.sheet).season 0
    (tokens_of report.lines) unsettled
    → outcome_from report entries (first_progress report.sheet)
    ≡ Accepted (rows_written (length report.sheet.lines * length report.sheet.clubs) entries)
    unsettled
report_of_answers report entries unsettled told =
    report_of_parts report entries unsettled
    (answers_are_parts report.kind report.sheet entries (first_progress report.sheet).season 0
    (tokens_of report.lines) unsettled told)
