-- What an input comes to by its parts: the sheet, the feed after it, and the report after that.
use Rattle.std.proofs.Common.{◌≡◌, ℕ, List, [], ◌∷◌, ◌++◌, Option, None, Some, option_map, map}
use Rattle.std.proofs.Common.{Result, Ok, Err, refl, sym, ap, subst, ◌∙◌, true, false}
use Rattle.league_core.specs.declared.sheet.Sheet.{Sheet}
use Rattle.port_core.specs.declared.line.ReadStop.{ReadStop}
use Rattle.port_core.specs.declared.line.ReadStop.TheVariants as read_stop
use Rattle.port_core.specs.Contents.{Contents, with_lines, ended, number_at}
use Rattle.port_core.specs.Readers.{LineReaderView}
use Rattle.port_core.specs.inside.ReaderCalls.{NextGives, LeavesReader}
use Rattle.port_core.specs.declared.line.Line.TheVariants as line
use Rattle.fixture_sheet.specs.declared.fault.SheetFault.{SheetFault}
use Rattle.fixture_sheet.specs.declared.fault.ReadingStop.TheVariants as sheet_stop
use Rattle.fixture_sheet.specs.Records.{sheet_rules}
use Rattle.fixture_sheet.specs.Sheets.{SheetReading, sheet_reading_of}
use Rattle.fixture_sheet.specs.inside.Calls.{CountsSheet, ReadsSheet}
use Rattle.result_log.specs.declared.entry.Entry.{Entry}
use Rattle.result_log.specs.declared.entry.Entry.TheVariants.{Change, Ask, Proofs, End}
use Rattle.result_log.specs.declared.fault.FeedFault.{FeedFault}
use Rattle.result_log.specs.declared.fault.FeedStop.TheVariants as feed_stop
use Rattle.kept_lines.specs.LineLists.{NumberedLine}
use Rattle.line_tokens.specs.Tokens.{counts, token_of}
use Rattle.cert_check.specs.LineGrammars.{Ending, whole_at, bad_line, no_proof, short}
use Rattle.cert_check.specs.declared.feed.FeedRead.{FeedRead}
use Rattle.cert_check.specs.declared.lines.ReportLines.{ReportLines}
use Rattle.cert_check.specs.declared.lines.LinesStop.TheVariants as lines_stop
use Rattle.cert_check.specs.declared.outcome.ReportFault.TheVariants.{BadLine}
use Rattle.cert_check.specs.declared.outcome.CheckOutcome.{CheckOutcome}
use Rattle.cert_check.specs.declared.outcome.CheckOutcome.TheVariants.{Refused, BadSheet, BadFeed}
use Rattle.cert_check.specs.declared.outcome.CheckFailure.{CheckFailure}
use Rattle.cert_check.specs.declared.outcome.CheckFailure.TheVariants as failure
use Rattle.cert_check.specs.declared.expected.ReportKind.{ReportKind}
use Rattle.cert_check.specs.Outcomes.{outcome_of, outcome_of_sheet, feed_outcome, lines_outcome}
use Rattle.cert_check.specs.Outcomes.{parts_outcome}
use Rattle.result_log.specs.Feeds.{feed_of}
use Rattle.kept_lines.specs.LineLists.{numbered}
use Rattle.cert_check.specs.inside.InputCalls.{IfRead, ChecksBy, IsStoppedBy, EndsFeed, StopsFeed}
use Rattle.cert_check.specs.inside.InputCalls.{ReadsLines, outcome_after_sheet}
use Rattle.cert_check.specs.Outcomes.{PartedReport, ReportProgressView, outcome_at_end}
use Rattle.cert_check.specs.Outcomes.{part_outcome}
use Rattle.cert_check.specs.Outcomes.{progress_with}
use Rattle.cert_check.specs.inside.InputCalls.{answer_after_check}
use Rattle.std.proofs.Common.{Bool, append-nil, drop}
use Rattle.std.specs.Prelude.{if◌then◌else◌}
use Rattle.cert_check.specs.inside.InputCalls.{LeavesCheck, CountsCheck, CountsFeed}
use Rattle.cert_check.specs.inside.InputCalls.{CountsLines}
use Rattle.port_core.proofs.ContentLemmas.{with_lines-append}
use Rattle.cert_check.proofs.ReadingLemmas.{read_after, told_after, told_both}
use Rattle.cert_check.proofs.ReadingLemmas.{sheet_read}
use Rattle.std.proofs.lemmas.List.{map-append}

-- ---- lines before them

-- what contents come to is what the rest comes to, if that is so of all that may follow these lines
pub checks-behind : {O : Type 0} (one two : Contents → Option O) (contents rest : Contents)
    (after : Option Contents) (front : List (ℕ × List ℕ)) → contents ≡ with_lines front rest
    → ((other : Contents) → one (with_lines front other) ≡ two other)
    → (result : Result O CheckFailure) → ChecksBy two rest after result
    → ChecksBy one contents after result
checks-behind one two contents rest after front is same (Ok outcome) checks =
    ap one is ∙ same rest ∙ checks
checks-behind one two contents rest after front is same (Err failure.ReadFault) checks = (
  front ++ checks.0,
  ap Some is ∙ ap (option_map (with_lines front)) checks.1 ∙ told_both front checks.0 after,
  ap one (with_lines-append front checks.0 (ended (Err read_stop.ReadFault)))
      ∙ same (with_lines checks.0 (ended (Err read_stop.ReadFault))) ∙ checks.2,
)
checks-behind one two contents rest after front is same (Err failure.OutOfMemory) checks = tt

-- ---- the sheet

-- after a whole sheet
pub input-sheet : (kind : ReportKind) (before mid after : Option Contents) (sheet : Sheet)
    (result : Result CheckOutcome CheckFailure) → ReadsSheet sheet_rules before mid (Ok sheet)
    → IfRead mid (λ rest. ChecksBy (outcome_after_sheet kind sheet) rest after result)
    → IfRead before (λ contents. ChecksBy (outcome_of kind) contents after result)
input-sheet kind before mid after sheet result reads checks = λ contents is.
    let there = read_after (λ (c : Contents). sheet_reading_of c None)
    (λ (rest : Contents). record { gives = Ok sheet; rest = rest }) before mid contents is reads in
    let found = sheet_read contents sheet there.0 there.2 in
    checks-behind (outcome_of kind) (outcome_after_sheet kind sheet) contents there.0 after found.0
    found.1
    (λ other. ap (λ (r : SheetReading). outcome_of_sheet kind r.rest r.gives) (found.2 other))
    result
    (checks there.0 there.1)

-- at a refused line of it
pub input-sheet_fault : (kind : ReportKind) (before after : Option Contents) (number : ℕ) (fault :
    SheetFault)
    → ReadsSheet sheet_rules before after (Err (sheet_stop.Fault number fault))
    → IfRead before (λ contents. ChecksBy (outcome_of kind) contents after (Ok (BadSheet number
    fault)))
input-sheet_fault kind before after number fault reads = λ contents is.
    let there = read_after (λ (c : Contents). sheet_reading_of c None)
    (λ (rest : Contents). record { gives = Err (sheet_stop.Fault number fault); rest = rest })
    before after contents is reads in
    ap (λ (r : SheetReading). outcome_of_sheet kind r.rest r.gives) there.2

-- where it stops
pub input-sheet_stop : (kind : ReportKind) (before after : Option Contents) (stop : ReadStop)
    (result : Result CheckOutcome CheckFailure) → IsStoppedBy stop result
    → ReadsSheet sheet_rules before after (Err (sheet_stop.Read stop))
    → IfRead before (λ contents. ChecksBy (outcome_of kind) contents after result)
input-sheet_stop kind before after read_stop.ReadFault result answers reads = λ contents is.
    let leads = reads.1 in
    subst (ChecksBy (outcome_of kind) contents after) (sym answers) (
      leads.0,
      sym is ∙ leads.1,
      ap (λ (r : SheetReading). outcome_of_sheet kind r.rest r.gives)
          (leads.2 (ended (Err read_stop.ReadFault))),
    )
input-sheet_stop kind before after (read_stop.LineTooLong number) result answers reads = λ contents
    is.
    let there = read_after (λ (c : Contents). sheet_reading_of c None)
    (λ (rest : Contents).
    record { gives = Err (sheet_stop.Read (read_stop.LineTooLong number)); rest = rest })
    before after contents is reads in
    subst (ChecksBy (outcome_of kind) contents after) (sym answers)
    (ap (λ (r : SheetReading). outcome_of_sheet kind r.rest r.gives) there.2)
input-sheet_stop kind before after (read_stop.InputTooLong number) result answers reads = λ contents
    is.
    let there = read_after (λ (c : Contents). sheet_reading_of c None)
    (λ (rest : Contents).
    record { gives = Err (sheet_stop.Read (read_stop.InputTooLong number)); rest = rest })
    before after contents is reads in
    subst (ChecksBy (outcome_of kind) contents after) (sym answers)
    (ap (λ (r : SheetReading). outcome_of_sheet kind r.rest r.gives) there.2)

-- ---- the feed

module _ (judged : List Entry → List NumberedLine → ℕ → CheckOutcome) (sheet : Sheet)
    (before after : Option Contents) where
  -- what contents come to as a feed of the sheet, and the lines after it judged so
  abbrev of_feed : Contents → Option CheckOutcome
  of_feed contents = feed_outcome judged (feed_of sheet true contents [])

  -- after the record `proofs`
  pub feed-proofs : (mid : Option Contents) (entries : List Entry)
      (result : Result CheckOutcome CheckFailure)
      → IfRead before (λ contents. EndsFeed sheet contents mid entries true)
      → IfRead mid (λ rest. ChecksBy
      (λ (c : Contents). lines_outcome (judged entries) c.lines c.ending) rest after result)
      → IfRead before (λ contents. ChecksBy of_feed contents after result)
  feed-proofs mid entries result ends checks = λ contents is.
      let leads = ends contents is in
      let there = told_after leads.0 mid contents leads.1 in
      checks-behind of_feed (λ (c : Contents). lines_outcome (judged entries) c.lines c.ending)
      contents there.0 after leads.0 there.2
      (λ other. ap (feed_outcome judged) (leads.2 other)) result (checks there.0 there.1)

  -- at a refused line of it
  pub feed-fault : (entries : List Entry) (number : ℕ) (fault : FeedFault) (contents : Contents)
      → StopsFeed sheet contents after entries (feed_stop.Fault number fault)
      → ChecksBy of_feed contents after (Ok (BadFeed number fault))
  feed-fault entries number fault contents stops = ap (feed_outcome judged) stops.2

  -- where it stops
  pub feed-stop : (entries : List Entry) (stop : ReadStop)
      (result : Result CheckOutcome CheckFailure) (contents : Contents) → IsStoppedBy stop result
      → StopsFeed sheet contents after entries (feed_stop.Read stop)
      → ChecksBy of_feed contents after result
  feed-stop entries read_stop.ReadFault result contents answers stops =
      subst (ChecksBy of_feed contents after) (sym answers) (
        stops.0,
        stops.1,
        ap (feed_outcome judged) (stops.2 (ended (Err read_stop.ReadFault))),
      )
  feed-stop entries (read_stop.LineTooLong number) result contents answers stops =
      subst (ChecksBy of_feed contents after) (sym answers) (ap (feed_outcome judged) stops.2)
  feed-stop entries (read_stop.InputTooLong number) result contents answers stops =
      subst (ChecksBy of_feed contents after) (sym answers) (ap (feed_outcome judged) stops.2)

-- ---- the report

module _ (judged : List NumberedLine → ℕ → CheckOutcome) where
  -- what contents come to whose lines are judged so
  abbrev of_lines : Contents → Option CheckOutcome
  of_lines contents = lines_outcome judged contents.lines contents.ending

  -- the report is whole
  pub report-told : (told : ReportLines) (outcome : CheckOutcome) (contents : Contents)
      (after behind : Option Contents) → ReadsLines contents after (Ok told)
      → outcome ≡ judged told.lines told.end → ChecksBy of_lines contents behind (Ok outcome)
  report-told told outcome contents after behind reads is =
      ap of_lines reads.2
      ∙ ap (λ (all : List NumberedLine). Some (judged all told.end)) (sym reads.1)
      ∙ ap Some (sym is)

  -- its lines stop
  pub report-stop : (stop : ReadStop) (result : Result CheckOutcome CheckFailure)
      (contents : Contents) (after : Option Contents) → IsStoppedBy stop result
      → ReadsLines contents after (Err (lines_stop.Read stop))
      → ChecksBy of_lines contents after result
  report-stop read_stop.ReadFault result contents after answers reads =
      subst (ChecksBy of_lines contents after) (sym answers) (reads.0, reads.1, refl)
  report-stop (read_stop.LineTooLong number) result contents after answers reads =
      subst (ChecksBy of_lines contents after) (sym answers)
      (ap (lines_outcome judged contents.lines) reads)
  report-stop (read_stop.InputTooLong number) result contents after answers reads =
      subst (ChecksBy of_lines contents after) (sym answers)
      (ap (lines_outcome judged contents.lines) reads)

-- a part that is whole, or not, leads to the input's end
answer_by : (report : PartedReport) (standing : ReportProgressView) (ending : Ending)
    (onward : ReportProgressView → CheckOutcome) (new : LineReaderView)
    → ((next : ReportProgressView) → answer_after_check new (onward next)
    ≡ Ok (line.End (number_at new.position)))
    → answer_after_check new (part_outcome report standing ending onward)
    ≡ Ok (line.End (number_at new.position))
answer_by report standing (whole_at next unsettled) onward new behind = behind _
answer_by report standing (bad_line at) onward new behind = refl
answer_by report standing (no_proof at) onward new behind = refl
answer_by report standing short onward new behind = refl

-- so does what is left after the last part
answer_at_end : (standing : ReportProgressView) (lines : List NumberedLine) (new : LineReaderView)
    → answer_after_check new (outcome_at_end standing lines)
    ≡ Ok (line.End (number_at new.position))
answer_at_end standing [] new = refl
answer_at_end standing (first ∷ lines) new =
    by_test (counts (token_of first.text)) (answer_at_end standing lines new)
  where
    by_test : (test : Bool)
        → answer_after_check new (outcome_at_end standing lines)
        ≡ Ok (line.End (number_at new.position))
        → answer_after_check new
        (if test then Refused first.number BadLine else outcome_at_end standing lines)
        ≡ Ok (line.End (number_at new.position))
    by_test true behind = refl
    by_test false behind = behind

-- a report is judged at the input's end
answer_from : (report : PartedReport) (entries : List Entry) (standing : ReportProgressView)
    (new : LineReaderView)
    → answer_after_check new (parts_outcome report entries standing)
    ≡ Ok (line.End (number_at new.position))
answer_from report [] standing new = answer_at_end standing (drop standing.at report.lines) new
answer_from report (Change event ∷ entries) standing new =
    answer_from report entries (progress_with standing (Change event)) new
answer_from report (Ask ∷ entries) standing new =
    answer_by report standing (report.part_at standing) (parts_outcome report entries) new
    (λ next. answer_from report entries next new)
answer_from report (Proofs ∷ entries) standing new = answer_from report entries standing new
answer_from report (End ∷ entries) standing new = answer_from report entries standing new

-- where the reader is left then
pub report-leaves : (report : PartedReport) (entries : List Entry) (standing : ReportProgressView)
    (outcome : CheckOutcome) (new : LineReaderView) (left : Option (List ℕ))
    → LeavesReader new left (Ok (line.End report.end))
    → outcome ≡ parts_outcome report entries standing → LeavesCheck new left (Ok outcome)
report-leaves report entries standing outcome new left leaves is =
    let answer = ap (answer_after_check new) is ∙ answer_from report entries standing new in
    subst (LeavesReader new left) (sym answer) (refl, leaves.1, leaves.2)

-- ---- its lines, one after the other

-- these lines were kept of contents, and the rest is still to come
pub LinesKept : Contents → Option Contents → List NumberedLine → Type 0
LinesKept contents now kept =
    (given : List (ℕ × List ℕ)) × (Some contents ≡ option_map (with_lines given) now)
    × (kept ≡ map numbered given)

-- none yet
pub kept-none : (contents : Contents) (kept : List NumberedLine) → kept ≡ []
    → LinesKept contents (Some contents) kept
unfolding LinesKept
kept-none contents kept is = ([], refl, is)

-- one more
pub kept-more : (contents : Contents) (before after : Option Contents)
    (kept more : List NumberedLine) (number : ℕ) (text : List ℕ)
    → LinesKept contents before kept → NextGives before after text (Ok (line.Text number))
    → more ≡ kept ++ record { number = number; text = text } ∷ []
    → LinesKept contents after more
unfolding LinesKept
kept-more contents before after kept more number text old gives is = (
  old.0 ++ (number, text) ∷ [],
  old.1 ∙ ap (option_map (with_lines old.0)) gives ∙ told_both old.0 ((number, text) ∷ []) after,
  is ∙ ap (λ (all : List NumberedLine). all ++ record { number = number; text = text } ∷ []) old.2
      ∙ sym (map-append numbered old.0 ((number, text) ∷ [])),
)

-- the input's end
pub kept-end : (contents : Contents) (before after : Option Contents) (kept : List NumberedLine)
    (told : ReportLines) (text : List ℕ) (number : ℕ) → LinesKept contents before kept
    → NextGives before after text (Ok (line.End number)) → told.lines ≡ kept → told.end ≡ number
    → ReadsLines contents after (Ok told)
unfolding LinesKept
kept-end contents None after kept told text number old gives lines_is end_is = absurd cc
kept-end contents (Some rest) after kept told text number old gives lines_is end_is = (
  old.0,
  lines_is ∙ old.2,
  let whole : Some contents ≡ Some (with_lines old.0 (ended (Ok number))) =
      old.1 ∙ ap (λ (c : Contents). Some (with_lines old.0 c)) gives.0 in
      let is : contents ≡ with_lines old.0 (ended (Ok number)) = cc in
      is ∙ ap (with_lines old.0) (ap (λ (n : ℕ). ended (Ok n)) (sym end_is))
      ∙ ap (λ (all : List (ℕ × List ℕ)). record { lines = all; ending = Ok told.end })
      (append-nil old.0),
)

-- a stop
pub kept-stop : (contents : Contents) (before after : Option Contents) (kept : List NumberedLine)
    (text : List ℕ) (stop : ReadStop) → LinesKept contents before kept
    → NextGives before after text (Err stop)
    → ReadsLines contents after (Err (lines_stop.Read stop))
unfolding LinesKept
kept-stop contents before after kept text read_stop.ReadFault old gives =
    (old.0, old.1 ∙ ap (option_map (with_lines old.0)) gives)
kept-stop contents None after kept text (read_stop.LineTooLong number) old gives = absurd cc
kept-stop contents (Some rest) after kept text (read_stop.LineTooLong number) old gives =
    let whole : Some contents ≡ Some (with_lines old.0 rest) = old.1 in
    let is : contents ≡ with_lines old.0 rest = cc in
    ap (λ (c : Contents). c.ending) is ∙ ap (λ (c : Contents). c.ending) gives.0
kept-stop contents None after kept text (read_stop.InputTooLong number) old gives = absurd cc
kept-stop contents (Some rest) after kept text (read_stop.InputTooLong number) old gives =
    let whole : Some contents ≡ Some (with_lines old.0 rest) = old.1 in
    let is : contents ≡ with_lines old.0 rest = cc in
    ap (λ (c : Contents). c.ending) is ∙ ap (λ (c : Contents). c.ending) gives.0

-- ---- where a stop leaves the reader, and the count of faults

-- the reader
pub stop-leaves : (new : LineReaderView) (left : Option (List ℕ)) (stop : ReadStop)
    (result : Result CheckOutcome CheckFailure) → IsStoppedBy stop result
    → LeavesReader new left (Err stop) → LeavesCheck new left result
stop-leaves new left read_stop.ReadFault result answers leaves =
    subst (LeavesCheck new left) (sym answers) leaves
stop-leaves new left (read_stop.LineTooLong number) result answers leaves =
    subst (LeavesCheck new left) (sym answers) leaves
stop-leaves new left (read_stop.InputTooLong number) result answers leaves =
    subst (LeavesCheck new left) (sym answers) leaves

-- the count, after the sheet
pub sheet-stop-counts : (before now : ℕ) (stop : ReadStop)
    (result : Result CheckOutcome CheckFailure) → IsStoppedBy stop result
    → CountsSheet {A = Sheet} {F = SheetFault} before now (Err (sheet_stop.Read stop))
    → CountsCheck before now result
sheet-stop-counts before now read_stop.ReadFault result answers counts =
    subst (CountsCheck before now) (sym answers) counts
sheet-stop-counts before now (read_stop.LineTooLong number) result answers counts =
    subst (CountsCheck before now) (sym answers) counts
sheet-stop-counts before now (read_stop.InputTooLong number) result answers counts =
    subst (CountsCheck before now) (sym answers) counts

-- after the feed
pub feed-stop-counts : (before now : ℕ) (stop : ReadStop)
    (result : Result CheckOutcome CheckFailure) → IsStoppedBy stop result
    → CountsFeed {A = FeedRead} before now (Err (feed_stop.Read stop))
    → CountsCheck before now result
feed-stop-counts before now read_stop.ReadFault result answers counts =
    subst (CountsCheck before now) (sym answers) counts
feed-stop-counts before now (read_stop.LineTooLong number) result answers counts =
    subst (CountsCheck before now) (sym answers) counts
feed-stop-counts before now (read_stop.InputTooLong number) result answers counts =
    subst (CountsCheck before now) (sym answers) counts

-- after the lines
pub lines-stop-counts : (before now : ℕ) (stop : ReadStop)
    (result : Result CheckOutcome CheckFailure) → IsStoppedBy stop result
    → CountsLines before now (Err (lines_stop.Read stop)) → CountsCheck before now result
lines-stop-counts before now read_stop.ReadFault result answers counts =
    subst (CountsCheck before now) (sym answers) counts
lines-stop-counts before now (read_stop.LineTooLong number) result answers counts =
    subst (CountsCheck before now) (sym answers) counts
lines-stop-counts before now (read_stop.InputTooLong number) result answers counts =
    subst (CountsCheck before now) (sym answers) counts
