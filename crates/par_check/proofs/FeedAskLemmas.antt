-- A report by the entries of a feed is the report by their asks.
use Rattle.std.proofs.Common.{◌≡◌, ℕ, ◌+◌, ◌*◌, List, [], ◌∷◌, drop}
use Rattle.std.proofs.Common.{length}
use Rattle.std.proofs.Common.{refl, sym, ap, ◌∙◌, arith, if◌then◌else◌}
use Rattle.league_core.specs.declared.sheet.Sheet.{Sheet}
use Rattle.std.proofs.Common.{take, subst, Result, Ok, Err, IfOk}
use Rattle.std.proofs.lemmas.List.{length-map}
use Rattle.league_core.specs.declared.memory.OutOfMemory.{OutOfMemory}
use Rattle.league_core.specs.game.Seasons.{season_after, unplayed_season}
use Rattle.cert_check.specs.declared.stop.Accepted.{Accepted as PartAccepted}
use Rattle.cert_check.specs.declared.stop.CheckStop.{CheckStop}
use Rattle.cert_check.specs.declared.stop.CheckStop.TheVariants as check_stop
use Rattle.cert_check.specs.declared.lines.ReportLines.{ReportLines}
use Rattle.cert_check.specs.declared.outcome.ReportFault.TheVariants.{NoProof}
use Rattle.cert_check.specs.Outcomes.{first_progress}
use Rattle.cert_check.specs.inside.InputCalls.{IsRefusedBy, report_read}
use Rattle.par_check.specs.declared.asks.Asks.{Asks}
use Rattle.par_check.specs.Cuts.{bases_in}
use Rattle.par_check.specs.Checked.{AnswersSo, ending_in, rows_in}
use Rattle.par_check.proofs.RowAtLemmas.{rows_count}
use Rattle.result_log.specs.declared.entry.Entry.{Entry}
use Rattle.result_log.specs.declared.entry.Entry.TheVariants.{Change, Ask, Proofs, End}
use Rattle.kept_lines.specs.LineLists.{NumberedLine}
use Rattle.line_tokens.specs.Tokens.{tokens_of}
use Rattle.line_tokens.specs.Tokens.{token_of, counts}
use Rattle.cert_check.specs.LineGrammars.{Ending, whole_at, bad_line, no_proof}
use Rattle.cert_check.specs.LineGrammars.{short}
use Rattle.cert_check.specs.ExpectedItems.{Basis}
use Rattle.cert_check.specs.declared.expected.ReportKind.{ReportKind}
use Rattle.cert_check.specs.Machine.{basis_of, part_of_ask, report_grammar}
use Rattle.cert_check.specs.inside.Calls.{ending_from}
use Rattle.cert_check.specs.declared.outcome.CheckOutcome.{CheckOutcome}
use Rattle.cert_check.specs.declared.outcome.CheckOutcome.TheVariants.{Accepted, Refused}
use Rattle.cert_check.specs.declared.outcome.ReportFault.TheVariants.{BadLine}
use Rattle.cert_check.specs.Outcomes.{ReportInput, ReportProgressView, outcome_from, outcome_by}
use Rattle.cert_check.specs.Outcomes.{outcome_at_end, part_there, progress_with, progress_after}
use Rattle.cert_check.specs.inside.Pieces.{ending_of_asks, go_on_by}
use Rattle.cert_check.proofs.CountLemmas.{with_more, ending_shifted}
use Rattle.par_check.specs.FirstStops.{judged_by, reports}
use Rattle.par_check.specs.FeedAsks.{bases_from, outcome_of_ending, standing_at_end}

-- the end of a report looks at what was counted alone
end_counts : (one other : ReportProgressView) (lines : List NumberedLine)
    → one.rows ≡ other.rows → one.unsettled ≡ other.unsettled
    → outcome_at_end one lines ≡ outcome_at_end other lines
end_counts one other [] rows unsettled = λ i. Accepted (rows i) (unsettled i)
end_counts one other (line ∷ lines) rows unsettled =
    ap (λ it. if counts (token_of line.text) then Refused line.number BadLine else it)
    (end_counts one other lines rows unsettled)

-- the rows of so many asks
abbrev rows_by : ReportInput → List Basis → ℕ
rows_by report bases =
    length bases * (length report.sheet.lines * length report.sheet.clubs)

-- one ask, by what its part comes to
ask_outcome : (report : ReportInput) (standing : ReportProgressView) (later : List Basis)
    (onward : ReportProgressView → CheckOutcome) (part : Ending)
    → ((next unsettled : ℕ) → onward (progress_after report.sheet standing next unsettled)
    ≡ outcome_of_ending report
    (standing.rows + length report.sheet.lines * length report.sheet.clubs
    + rows_by report later)
    (ending_of_asks reports (tokens_of report.lines) later next (standing.unsettled + unsettled)))
    → (rows : ℕ) → standing.rows + length report.sheet.lines * length report.sheet.clubs
    + rows_by report later ≡ rows
    → outcome_by report standing part onward
    ≡ outcome_of_ending report rows
    (go_on_by (with_more standing.unsettled part)
    (λ to found. ending_of_asks reports (tokens_of report.lines) later to found))
ask_outcome report standing later onward (whole_at next unsettled) same rows is =
    same next unsettled
    ∙ ap (λ it. outcome_of_ending report it
    (ending_of_asks reports (tokens_of report.lines) later next
    (standing.unsettled + unsettled))) is
ask_outcome report standing later onward (bad_line at) same rows is = refl
ask_outcome report standing later onward (no_proof at) same rows is = refl
ask_outcome report standing later onward short same rows is = refl

-- what a report comes to by the entries that are left is what it comes to by their asks
pub feed_outcome : (report : ReportInput) (entries : List Entry) (standing : ReportProgressView)
    → outcome_from report entries standing
    ≡ outcome_of_ending report
    (standing.rows + rows_by report
    (bases_from report.kind report.sheet standing.season standing.epoch entries))
    (ending_of_asks reports (tokens_of report.lines)
    (bases_from report.kind report.sheet standing.season standing.epoch entries) standing.at
    standing.unsettled)
feed_outcome report [] standing =
    end_counts standing (standing_at_end (record {
      next = standing.at;
      rows = standing.rows + 0 * (length report.sheet.lines * length report.sheet.clubs);
      unsettled = standing.unsettled;
    })) (drop standing.at report.lines) (omega arith) refl
feed_outcome report (Change event ∷ entries) standing =
    feed_outcome report entries (progress_with standing (Change event))
feed_outcome report (Ask ∷ entries) standing =
    let basis = basis_of report.kind report.sheet standing.season standing.epoch in
    let later = bases_from report.kind report.sheet standing.season standing.epoch entries in
    let tokens = tokens_of report.lines in
    let rows = standing.rows + rows_by report (basis ∷ later) in
    ask_outcome report standing later (outcome_from report entries) (part_there report standing)
    (λ next unsettled. feed_outcome report entries
    (progress_after report.sheet standing next unsettled))
    rows (omega arith)
    ∙ ap (λ it. outcome_of_ending report rows (go_on_by it
    (λ to found. ending_of_asks reports tokens later to found)))
    (sym (ending_shifted report_grammar basis (drop standing.at tokens)
    (part_of_ask report.sheet) standing.at
    standing.unsettled 0)
    ∙ ap (ending_from (judged_by tokens basis) standing.at (part_of_ask report.sheet))
    (omega arith))
feed_outcome report (Proofs ∷ entries) standing = feed_outcome report entries standing
feed_outcome report (End ∷ entries) standing = feed_outcome report entries standing

-- what a report comes to by the asks of its feed
pub report_comes : (kind : ReportKind) (sheet : Sheet) (entries : List Entry) (asks : Asks)
    (told : ReportLines)
    → bases_in sheet asks
    ≡ bases_from kind sheet (unplayed_season (length sheet.clubs) (length sheet.fixtures)) 0 entries
    → outcome_from (report_read kind sheet told) entries (first_progress sheet)
    ≡ outcome_of_ending (report_read kind sheet told) (rows_in sheet asks)
    (ending_in sheet asks told.lines)
report_comes kind sheet entries asks told same =
    let report = report_read kind sheet told in
    let basis = λ (epoch : ℕ).
    basis_of asks.kind sheet (season_after sheet (take epoch asks.log.items)) epoch in
    let each = length sheet.lines * length sheet.clubs in
    let rows : rows_by report (bases_in sheet asks) ≡ rows_in sheet asks =
    ap (λ n. n * each) (length-map asks.epochs.items basis)
    ∙ ap (λ n. length asks.epochs.items * n) (rows_count sheet each refl) in
    feed_outcome report entries (first_progress sheet)
    ∙ ap (λ bases. outcome_of_ending report (0 + rows_by report bases)
    (ending_of_asks reports (tokens_of told.lines) bases 0 0)) (sym same)
    ∙ ap (λ n. outcome_of_ending report n (ending_in sheet asks told.lines)) (omega (arith, rows))

-- a stop is the outcome
pub stop_comes : (report : ReportInput) (rows : ℕ) (ending : Ending) (stop : CheckStop)
    (result : Result CheckOutcome OutOfMemory) → AnswersSo report.lines rows ending (Err stop)
    → IsRefusedBy report.end stop result
    → IfOk result (λ outcome. outcome ≡ outcome_of_ending report rows ending)
stop_comes report rows ending (check_stop.BadLine number) result so is =
    let P : Result CheckOutcome OutOfMemory → Type 0 =
    λ it. IfOk it (λ outcome. outcome ≡ outcome_of_ending report rows ending) in
    subst P (sym is) (ap (λ n. Refused n BadLine) so.3
    ∙ ap (outcome_of_ending report rows) (sym so.2))
stop_comes report rows ending (check_stop.NoProof number) result so is =
    let P : Result CheckOutcome OutOfMemory → Type 0 =
    λ it. IfOk it (λ outcome. outcome ≡ outcome_of_ending report rows ending) in
    subst P (sym is) (ap (λ n. Refused n NoProof) so.3
    ∙ ap (outcome_of_ending report rows) (sym so.2))
stop_comes report rows ending check_stop.Short result so is =
    let P : Result CheckOutcome OutOfMemory → Type 0 =
    λ it. IfOk it (λ outcome. outcome ≡ outcome_of_ending report rows ending) in
    subst P (sym is) (ap (outcome_of_ending report rows) (sym so))
stop_comes report rows ending check_stop.OutOfMemory (Ok outcome) so is = absurd is
stop_comes report rows ending check_stop.OutOfMemory (Err memory) so is = tt

-- accepted answers, and what is left
pub accepted_comes : (report : ReportInput) (rows : ℕ) (ending : Ending) (accepted : PartAccepted)
    (result : Result CheckOutcome OutOfMemory) → AnswersSo report.lines rows ending (Ok accepted)
    → IfOk result (λ outcome. outcome
    ≡ outcome_at_end (standing_at_end accepted) (drop accepted.next report.lines))
    → IfOk result (λ outcome. outcome ≡ outcome_of_ending report rows ending)
accepted_comes report rows ending accepted (Ok outcome) so is =
    is ∙ ap (λ n. outcome_of_ending report n (whole_at accepted.next accepted.unsettled)) so.2
    ∙ ap (outcome_of_ending report rows) (sym so.0)
accepted_comes report rows ending accepted (Err memory) so is = tt

-- the same outcome by another name
pub comes_as : (result : Result CheckOutcome OutOfMemory) (one other : CheckOutcome)
    → IfOk result (λ outcome. outcome ≡ one) → other ≡ one
    → IfOk result (λ outcome. outcome ≡ other)
comes_as (Ok outcome) one other is same = is ∙ sym same
comes_as (Err memory) one other is same = tt
