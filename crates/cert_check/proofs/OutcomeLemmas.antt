-- A report part by part: what each part does, what may be left after the last, and that what is
-- accepted tells the truth.
use Rattle.std.proofs.Common.{◌≡◌, ◌≤◌, ◌<◌, ℕ, ◌+◌, suc, zero, Bool, true, false, List, [], ◌∷◌}
use Rattle.std.proofs.Common.{None, Some, map, drop, length, Result, Ok, Err}
use Rattle.std.proofs.Common.{refl, sym, ap, ◌∙◌, arith, drop-cons, get_or, IfOk, add-one}
use Rattle.std.specs.Prelude.{filter}
use Rattle.std.proofs.Math.Seq.{drop-nil}
use Rattle.std.proofs.lemmas.List.{drop-map}
use Rattle.league_core.specs.declared.sheet.Sheet.{Sheet}
use Rattle.league_core.specs.declared.memory.OutOfMemory.{OutOfMemory}
use Rattle.port_core.specs.declared.line.ReadStop.{ReadStop}
use Rattle.port_core.specs.declared.line.ReadStop.TheVariants as read_stop
use Rattle.port_core.specs.Contents.{Contents}
use Rattle.fixture_sheet.specs.Sheets.{SheetStop}
use Rattle.fixture_sheet.specs.declared.fault.ReadingStop.TheVariants as sheet_stop
use Rattle.fixture_sheet.specs.Sheets.{sheet_reading_of}
use Rattle.result_log.specs.declared.entry.Entry.{Entry}
use Rattle.result_log.specs.declared.entry.Entry.TheVariants.{Change, Ask, Proofs, End}
use Rattle.result_log.specs.declared.fault.FeedStop.{FeedStop}
use Rattle.result_log.specs.declared.fault.FeedStop.TheVariants as feed_stop
use Rattle.result_log.specs.Feeds.{feed_of}
use Rattle.line_tokens.specs.declared.token.Token.{Token}
use Rattle.cert_check.specs.declared.stop.CheckStop.{CheckStop}
use Rattle.cert_check.specs.declared.stop.CheckStop.TheVariants as check_stop
use Rattle.line_tokens.specs.Tokens.{token_of, counts, counted_lines}
use Rattle.kept_lines.specs.LineLists.{NumberedLine, line_number_at, numbered}
use Rattle.line_tokens.specs.Tokens.{tokens_of}
use Rattle.cert_check.specs.LineGrammars.{Ending, whole_at, bad_line, no_proof, short}
use Rattle.cert_check.specs.declared.expected.ReportKind.{ReportKind}
use Rattle.cert_check.specs.Machine.{basis_of}
use Rattle.cert_check.specs.inside.Calls.{ChecksEnd}
use Rattle.cert_check.proofs.TruthLemmas.{told_truly}
use Rattle.cert_check.specs.declared.outcome.ReportFault.TheVariants.{BadLine}
use Rattle.cert_check.specs.declared.outcome.CheckOutcome.{CheckOutcome}
use Rattle.cert_check.specs.declared.outcome.CheckOutcome.TheVariants.{Accepted, Refused}
use Rattle.cert_check.specs.Outcomes.{ReportInput, ReportProgressView, outcome_at_end, outcome_by}
use Rattle.cert_check.specs.Outcomes.{outcome_from, PartedReport, parts_outcome, close_outcome}
use Rattle.cert_check.specs.Outcomes.{outcome_of, outcome_of_sheet, lines_outcome, judged_lines}
use Rattle.cert_check.specs.Outcomes.{outcome_of_stop, outcome_unproved}
use Rattle.cert_check.specs.Outcomes.{part_there, first_progress, progress_with, progress_after}
use Rattle.cert_check.specs.inside.ReportTruths.{PartsTellTruly, HasTrueReport}
use Rattle.cert_check.specs.inside.InputCalls.{GoesOverEntry, IsRefusedBy}

-- ---- what is left after the last part

-- a line that is passed over
passed-over : (standing : ReportProgressView) (line : NumberedLine) (lines : List NumberedLine)
    → counts (token_of line.text) ≡ false
    → outcome_at_end standing (line ∷ lines) ≡ outcome_at_end standing lines
passed-over standing line lines passed = rw passed refl

-- a line that counts
counted-there : (standing : ReportProgressView) (line : NumberedLine) (lines : List NumberedLine)
    → counts (token_of line.text) ≡ true
    → outcome_at_end standing (line ∷ lines) ≡ Refused line.number BadLine
counted-there standing line lines there = rw there refl

-- nothing that counts is left
none-left : (standing : ReportProgressView) (lines : List NumberedLine)
    → filter counts (map (λ (l : NumberedLine). token_of l.text) lines) ≡ []
    → outcome_at_end standing lines ≡ Accepted standing.rows standing.unsettled
none-left standing [] none = refl
none-left standing (line ∷ lines) none =
    by_test (counts (token_of line.text)) refl (none-left standing lines)
  where
    by_test : (test : Bool) → counts (token_of line.text) ≡ test
        → (filter counts (map (λ (l : NumberedLine). token_of l.text) lines) ≡ []
        → outcome_at_end standing lines ≡ Accepted standing.rows standing.unsettled)
        → outcome_at_end standing (line ∷ lines) ≡ Accepted standing.rows standing.unsettled
    by_test true is behind = absurd (let some = rw is at none in cc)
    by_test false is behind = passed-over standing line lines is ∙ behind (rw is at none)

-- and back
pub left-none : (standing : ReportProgressView) (lines : List NumberedLine) (rows unsettled : ℕ)
    → outcome_at_end standing lines ≡ Accepted rows unsettled
    → filter counts (map (λ (l : NumberedLine). token_of l.text) lines) ≡ []
left-none standing [] rows unsettled is = refl
left-none standing (line ∷ lines) rows unsettled is =
    by_test (counts (token_of line.text)) refl (left-none standing lines rows unsettled)
  where
    by_test : (test : Bool) → counts (token_of line.text) ≡ test
        → (outcome_at_end standing lines ≡ Accepted rows unsettled
        → filter counts (map (λ (l : NumberedLine). token_of l.text) lines) ≡ [])
        → filter counts (map (λ (l : NumberedLine). token_of l.text) (line ∷ lines)) ≡ []
    by_test true there behind =
        let other : Refused line.number BadLine ≡ Accepted rows unsettled =
        sym (counted-there standing line lines there) ∙ is in absurd cc
    by_test false passed behind =
        rw passed (behind (sym (passed-over standing line lines passed) ∙ is))

-- what passes a test is no more after some of the list
filter-drop : (n : ℕ) (tokens : List Token)
    → length (filter counts (drop n tokens)) ≤ length (filter counts tokens)
filter-drop zero tokens = omega arith
filter-drop (suc n) [] = omega arith
filter-drop (suc n) (token ∷ tokens) = by_test (counts token) refl (filter-drop n tokens)
  where
    by_test : (test : Bool) → counts token ≡ test
        → length (filter counts (drop n tokens)) ≤ length (filter counts tokens)
        → length (filter counts (drop n tokens)) ≤ length (filter counts (token ∷ tokens))
    by_test true is behind = rw is (omega arith)
    by_test false is behind = rw is behind

-- the first line that counts is so many after
first-left : (standing : ReportProgressView) (lines : List NumberedLine) (behind : ℕ)
    (token : Token)
    (later : List Token)
    → drop behind (map (λ (l : NumberedLine). token_of l.text) lines) ≡ token ∷ later
    → counts token ≡ true
    → filter counts (map (λ (l : NumberedLine). token_of l.text) lines)
    ≡ filter counts (drop behind (map (λ (l : NumberedLine). token_of l.text) lines))
    → outcome_at_end standing lines ≡ Refused (line_number_at lines behind) BadLine
first-left standing [] behind token later there counted same =
    let none : [] ≡ token ∷ later = sym (drop-nil behind) ∙ there in absurd cc
first-left standing (line ∷ lines) zero token later there counted same =
    let is : token_of line.text ≡ token = cc in
    counted-there standing line lines (ap counts is ∙ counted)
first-left standing (line ∷ lines) (suc behind) token later there counted same =
    by_test (counts (token_of line.text)) refl
    (first-left standing lines behind token later there counted)
  where
    by_test : (test : Bool) → counts (token_of line.text) ≡ test
        → (filter counts (map (λ (l : NumberedLine). token_of l.text) lines)
        ≡ filter counts (drop behind (map (λ (l : NumberedLine). token_of l.text) lines))
        → outcome_at_end standing lines ≡ Refused (line_number_at lines behind) BadLine)
        → outcome_at_end standing (line ∷ lines)
        ≡ Refused (line_number_at (line ∷ lines) (suc behind)) BadLine
    by_test true is onward =
        let more = ap length (rw is at same) in
        let fewer = filter-drop behind (map (λ (l : NumberedLine). token_of l.text) lines) in
        absurd (omega (arith, more, fewer))
    by_test false is onward = passed-over standing line lines is ∙ onward (rw is at same)

-- the same from a position on
left-over : (standing : ReportProgressView) (lines : List NumberedLine) (from at : ℕ)
    (token : Token)
    (later : List Token) → from ≤ at → drop at (tokens_of lines) ≡ token ∷ later
    → counts token ≡ true
    → counted_lines (drop from (tokens_of lines)) ≡ counted_lines (drop at (tokens_of lines))
    → outcome_at_end standing (drop from lines) ≡ Refused (line_number_at lines at) BadLine
left-over standing lines zero at token later before there counted same =
    first-left standing lines at token later there counted same
left-over standing [] (suc from) at token later before there counted same =
    let none : [] ≡ token ∷ later = sym (drop-nil at) ∙ there in absurd cc
left-over standing (line ∷ lines) (suc from) zero token later before there counted same =
    absurd (omega arith)
left-over standing (line ∷ lines) (suc from) (suc at) token later before there counted same =
    left-over standing lines from at token later (omega arith) there counted same

-- nothing was left
pub end-accepted : (standing : ReportProgressView) (lines : List NumberedLine)
    → ChecksEnd lines standing.at (Ok tt)
    → outcome_at_end standing (drop standing.at lines)
    ≡ Accepted standing.rows standing.unsettled
end-accepted standing lines none =
    none-left standing (drop standing.at lines)
    (ap (filter counts) (sym (drop-map (λ (l : NumberedLine). token_of l.text) standing.at lines))
    ∙ none)

-- something was
pub end-refused : (standing : ReportProgressView) (lines : List NumberedLine) (end : ℕ)
    (stop : CheckStop)
    (result : Result CheckOutcome OutOfMemory) → ChecksEnd lines standing.at (Err stop)
    → IsRefusedBy end stop result
    → IfOk result (λ outcome. outcome ≡ outcome_at_end standing (drop standing.at lines))
end-refused standing lines end (check_stop.BadLine number) (Ok outcome) checks answers =
    let is : outcome ≡ Refused number BadLine = cc in
    is ∙ ap (λ (n : ℕ). Refused n BadLine) checks.3
    ∙ sym (left-over standing lines standing.at checks.0 checks.5.0 _ checks.1 checks.5.1
    checks.5.2 checks.4)
end-refused standing lines end (check_stop.NoProof number) (Ok outcome) checks answers =
    absurd checks
end-refused standing lines end check_stop.Short (Ok outcome) checks answers = absurd checks
end-refused standing lines end check_stop.OutOfMemory (Ok outcome) checks answers = absurd answers
end-refused standing lines end stop (Err want) checks answers = tt

-- ---- one entry after the other

-- what is left from a place on is the entry there and what comes after it
left_from : (report : PartedReport) (entries : List Entry) (at : ℕ) (other : Entry)
    (old : ReportProgressView) → at < length entries
    → parts_outcome report (drop at entries) old
    ≡ parts_outcome report (get_or entries at other ∷ drop (at + 1) entries) old
left_from report entries at other old inside =
    ap (λ (left : List Entry). parts_outcome report left old)
    (drop-cons entries at other inside
    ∙ ap (λ (n : ℕ). get_or entries at other ∷ drop n entries) (sym (add-one at)))

-- an entry more is gone over
pub entries-more : (report : PartedReport) (entries : List Entry) (at : ℕ) (other : Entry)
    (first old new : ReportProgressView) → at < length entries
    → parts_outcome report entries first ≡ parts_outcome report (drop at entries) old
    → GoesOverEntry report old new (get_or entries at other) None
    → parts_outcome report entries first ≡ parts_outcome report (drop (at + 1) entries) new
entries-more report entries at other first old new inside same goes =
    same ∙ left_from report entries at other old inside
    ∙ goes (parts_outcome report (drop (at + 1) entries))

-- ---- what is accepted

-- a report that is accepted tells the truth
truly_from : (report : ReportInput) (entries : List Entry) (standing : ReportProgressView)
    (rows unsettled : ℕ) → outcome_from report entries standing ≡ Accepted rows unsettled
    → PartsTellTruly report entries standing
truly_from report [] standing rows unsettled is =
    ap (filter counts) (drop-map (λ (l : NumberedLine). token_of l.text) standing.at report.lines)
    ∙ left-none standing (drop standing.at report.lines) rows unsettled is
truly_from report (Change event ∷ entries) standing rows unsettled is =
    truly_from report entries (progress_with standing (Change event)) rows unsettled is
truly_from report (Ask ∷ entries) standing rows unsettled is =
    by_ending (part_there report standing) refl
    (λ next. truly_from report entries next rows unsettled) is
  where
    by_ending : (ending : Ending) → part_there report standing ≡ ending
        → ((next : ReportProgressView) → outcome_from report entries next ≡ Accepted rows unsettled
        → PartsTellTruly report entries next)
        → outcome_by report standing ending (outcome_from report entries)
        ≡ Accepted rows unsettled
        → PartsTellTruly report (Ask ∷ entries) standing
    by_ending (whole_at next more) whole onward is = (
      next,
      more,
      told_truly (basis_of report.kind report.sheet standing.season standing.epoch) report.lines
          standing.at next more whole,
      onward (progress_after report.sheet standing next more) is,
    )
    by_ending (bad_line at) whole onward is = absurd cc
    by_ending (no_proof at) whole onward is = absurd cc
    by_ending short whole onward is = absurd cc
truly_from report (Proofs ∷ entries) standing rows unsettled is =
    truly_from report entries standing rows unsettled is
truly_from report (End ∷ entries) standing rows unsettled is =
    truly_from report entries standing rows unsettled is

-- a stop is never accepted
pub stop_accepts_nothing : (stop : ReadStop) (rows unsettled : ℕ)
    → outcome_of_stop stop ≡ Some (Accepted rows unsettled) → ⊥
stop_accepts_nothing read_stop.ReadFault rows unsettled is = cc
stop_accepts_nothing (read_stop.LineTooLong number) rows unsettled is = cc
stop_accepts_nothing (read_stop.InputTooLong number) rows unsettled is = cc

-- nor is an input without proofs
unproved_accepts_nothing : (ending : Result ℕ ReadStop) (rows unsettled : ℕ)
    → outcome_unproved ending ≡ Some (Accepted rows unsettled) → ⊥
unproved_accepts_nothing (Ok number) rows unsettled is = cc
unproved_accepts_nothing (Err stop) rows unsettled is = stop_accepts_nothing stop rows unsettled is

-- the record `proofs` ended the feed, and the input its lines, which were judged as accepted
pub record AreLinesAccepted (judged : List NumberedLine → ℕ → CheckOutcome) (rest : Contents)
    (close : Result Entry FeedStop) (rows unsettled : ℕ) : Type 0
  where
    pub closed : close ≡ Ok Proofs
    pub end : ℕ
    pub whole : rest.ending ≡ Ok end
    pub accepted : judged (map numbered rest.lines) end ≡ Accepted rows unsettled

-- and so it is of what is accepted behind a feed
pub accepted_lines : (judged : List NumberedLine → ℕ → CheckOutcome) (rest : Contents)
    (close : Result Entry FeedStop) (rows unsettled : ℕ)
    → close_outcome judged rest close ≡ Some (Accepted rows unsettled)
    → AreLinesAccepted judged rest close rows unsettled
accepted_lines judged rest (Ok (Change event)) rows unsettled is =
    absurd (unproved_accepts_nothing rest.ending rows unsettled is)
accepted_lines judged rest (Ok Ask) rows unsettled is =
    absurd (unproved_accepts_nothing rest.ending rows unsettled is)
accepted_lines judged rest (Ok Proofs) rows unsettled is = by_ending rest.ending refl is
  where
    by_ending : (ending : Result ℕ ReadStop) → rest.ending ≡ ending
        → lines_outcome judged rest.lines ending ≡ Some (Accepted rows unsettled)
        → AreLinesAccepted judged rest (Ok Proofs) rows unsettled
    by_ending (Ok number) whole is =
        record { closed = refl; end = number; whole = whole; accepted = cc }
    by_ending (Err stop) whole is = absurd (stop_accepts_nothing stop rows unsettled is)
accepted_lines judged rest (Ok End) rows unsettled is =
    absurd (unproved_accepts_nothing rest.ending rows unsettled is)
accepted_lines judged rest (Err (feed_stop.Fault number fault)) rows unsettled is = absurd cc
accepted_lines judged rest (Err (feed_stop.Read stop)) rows unsettled is =
    absurd (stop_accepts_nothing stop rows unsettled is)
accepted_lines judged rest (Err feed_stop.OutOfMemory) rows unsettled is = absurd cc

-- an input whose report is accepted has one that tells the truth
pub accepted_tells_truly : (kind : ReportKind) (contents : Contents) (rows unsettled : ℕ)
    → outcome_of kind contents ≡ Some (Accepted rows unsettled) → HasTrueReport kind contents
accepted_tells_truly kind contents rows unsettled is =
    by_gives (sheet_reading_of contents None).gives refl is
  where
    by_gives : (gives : Result Sheet SheetStop) → (sheet_reading_of contents None).gives ≡ gives
        → outcome_of_sheet kind (sheet_reading_of contents None).rest gives
        ≡ Some (Accepted rows unsettled)
        → HasTrueReport kind contents
    by_gives (Ok sheet) read is =
        let behind = (sheet_reading_of contents None).rest in
        let feed = feed_of sheet true behind [] in
        let told = accepted_lines (judged_lines kind sheet feed.entries) feed.rest feed.close
        rows unsettled is in
        record {
          sheet = sheet;
          behind = behind;
          feed = feed;
          end = told.end;
          is_sheet = ap (λ (g : Result Sheet SheetStop). record { gives = g; rest = behind }) read;
          is_feed = refl;
          closed = told.closed;
          whole = told.whole;
          tells = truly_from
              (record {
                kind = kind;
                sheet = sheet;
                lines = map numbered feed.rest.lines;
                end = told.end;
              }) feed.entries (first_progress sheet) rows unsettled told.accepted;
        }
    by_gives (Err (sheet_stop.Fault number fault)) read is = absurd cc
    by_gives (Err (sheet_stop.Read stop)) read is =
        absurd (stop_accepts_nothing stop rows unsettled is)
    by_gives (Err sheet_stop.OutOfMemory) read is = absurd cc
