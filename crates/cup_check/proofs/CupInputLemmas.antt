-- What an input with a report on a cup comes to by its sheet, and as an outcome of the whole.
use Rattle.std.proofs.Common.{ℕ, List, Option, None, Result, Ok, Err, sym, ap, subst, ◌∙◌}
use Rattle.std.specs.Prelude.{option_map}
use Rattle.port_core.specs.declared.line.ReadStop.{ReadStop}
use Rattle.port_core.specs.declared.line.ReadStop.TheVariants as read_stop
use Rattle.port_core.specs.Contents.{Contents, ended}
use Rattle.port_core.specs.Readers.{LineReaderView}
use Rattle.cert_check.specs.declared.outcome.CheckOutcome.{CheckOutcome}
use Rattle.cert_check.specs.declared.outcome.CheckFailure.{CheckFailure}
use Rattle.cert_check.specs.declared.outcome.CheckFailure.TheVariants as failure
use Rattle.cert_check.specs.inside.InputCalls.{ChecksBy, CountsCheck, IfRead, IsStoppedBy}
use Rattle.cert_check.specs.inside.InputCalls.{LeavesCheck}
use Rattle.cert_check.proofs.InputLemmas.{checks-behind}
use Rattle.cert_check.proofs.ReadingLemmas.{read_after}
use Rattle.fixture_sheet.specs.declared.fault.ReadingStop.TheVariants as cup_stop
use Rattle.fixture_sheet.specs.inside.Calls.{CountsSheet, ReadsSheet}
use Rattle.cup_sheet.specs.declared.cup.Cup.{Cup}
use Rattle.cup_sheet.specs.declared.fault.CupFault.{CupFault}
use Rattle.cup_sheet.specs.CupRecords.{cup_rules}
use Rattle.cup_sheet.specs.CupReadings.{cup_reading_of}
use Rattle.cup_check.specs.declared.outcome.CupOutcome.TheVariants.{BadCup, Judged}
use Rattle.cup_check.specs.CupOutcomes.{cup_outcome_of, outcome_after_cup}
use Rattle.cup_check.specs.CupOutcomes.{outcome_of_cup_reading}
use Rattle.cup_check.specs.inside.CupInputCalls.{LeavesCupCheck, as_cup_outcome}
use Rattle.cup_check.proofs.CupReadingLemmas.{cup_read}

-- ---- as an outcome of the whole input

-- what feed and report come to
pub checks-judged : (comes : Contents → Option CheckOutcome) (contents : Contents)
    (after : Option Contents) (result : Result CheckOutcome CheckFailure)
    → ChecksBy comes contents after result
    → ChecksBy (λ (c : Contents). option_map Judged (comes c)) contents after
    (as_cup_outcome result)
checks-judged comes contents after (Ok outcome) checks = ap (option_map Judged) checks
checks-judged comes contents after (Err failure.ReadFault) checks =
    (checks.0, checks.1, ap (option_map Judged) checks.2)
checks-judged comes contents after (Err failure.OutOfMemory) checks = tt

-- where the reader is left
pub leaves-judged : (new : LineReaderView) (left : Option (List ℕ))
    (result : Result CheckOutcome CheckFailure) → LeavesCheck new left result
    → LeavesCupCheck new left (as_cup_outcome result)
leaves-judged new left (Ok outcome) leaves = leaves
leaves-judged new left (Err failure.ReadFault) leaves = leaves
leaves-judged new left (Err failure.OutOfMemory) leaves = tt

-- the count of faults
pub counts-judged : (before now : ℕ) (result : Result CheckOutcome CheckFailure)
    → CountsCheck before now result → CountsCheck before now (as_cup_outcome result)
counts-judged before now (Ok outcome) counts = counts
counts-judged before now (Err failure.ReadFault) counts = counts
counts-judged before now (Err failure.OutOfMemory) counts = counts

-- ---- the sheet

-- after a whole sheet
pub input-cup : (before mid after : Option Contents) (cup : Cup)
    (result : Result CheckOutcome CheckFailure) → ReadsSheet cup_rules before mid (Ok cup)
    → IfRead mid (λ rest. ChecksBy (outcome_after_cup cup) rest after result)
    → IfRead before (λ contents. ChecksBy cup_outcome_of contents after (as_cup_outcome result))
input-cup before mid after cup result reads checks = λ contents is.
    let there = read_after (λ (c : Contents). cup_reading_of c None)
    (λ (rest : Contents). record { gives = Ok cup; rest = rest }) before mid contents is reads in
    let found = cup_read contents cup there.0 there.2 in
    checks-behind cup_outcome_of (λ (c : Contents). option_map Judged (outcome_after_cup cup c))
    contents there.0 after found.0 found.1
    (λ other. ap outcome_of_cup_reading (found.2 other))
    (as_cup_outcome result)
    (checks-judged (outcome_after_cup cup) there.0 after result (checks there.0 there.1))

-- at a refused line of it
pub input-cup_fault : (before after : Option Contents) (number : ℕ) (fault : CupFault)
    → ReadsSheet cup_rules before after (Err (cup_stop.Fault number fault))
    → IfRead before (λ contents. ChecksBy cup_outcome_of contents after
    (Ok (BadCup number fault)))
input-cup_fault before after number fault reads = λ contents is.
    let there = read_after (λ (c : Contents). cup_reading_of c None)
    (λ (rest : Contents). record { gives = Err (cup_stop.Fault number fault); rest = rest })
    before after contents is reads in
    ap outcome_of_cup_reading there.2

-- where it stops
pub input-cup_stop : (before after : Option Contents) (stop : ReadStop)
    (result : Result CheckOutcome CheckFailure) → IsStoppedBy stop result
    → ReadsSheet cup_rules before after (Err (cup_stop.Read stop))
    → IfRead before (λ contents. ChecksBy cup_outcome_of contents after (as_cup_outcome result))
input-cup_stop before after read_stop.ReadFault result answers reads = λ contents is.
    let leads = reads.1 in
    subst (λ r. ChecksBy cup_outcome_of contents after (as_cup_outcome r)) (sym answers) (
      leads.0,
      sym is ∙ leads.1,
      ap outcome_of_cup_reading (leads.2 (ended (Err read_stop.ReadFault))),
    )
input-cup_stop before after (read_stop.LineTooLong number) result answers reads = λ contents is.
    let there = read_after (λ (c : Contents). cup_reading_of c None)
    (λ (rest : Contents).
    record { gives = Err (cup_stop.Read (read_stop.LineTooLong number)); rest = rest })
    before after contents is reads in
    subst (λ r. ChecksBy cup_outcome_of contents after (as_cup_outcome r)) (sym answers)
    (ap outcome_of_cup_reading there.2)
input-cup_stop before after (read_stop.InputTooLong number) result answers reads = λ contents is.
    let there = read_after (λ (c : Contents). cup_reading_of c None)
    (λ (rest : Contents).
    record { gives = Err (cup_stop.Read (read_stop.InputTooLong number)); rest = rest })
    before after contents is reads in
    subst (λ r. ChecksBy cup_outcome_of contents after (as_cup_outcome r)) (sym answers)
    (ap outcome_of_cup_reading there.2)

-- ---- the count of faults after the sheet

pub cup-stop-counts : (before now : ℕ) (stop : ReadStop)
    (result : Result CheckOutcome CheckFailure) → IsStoppedBy stop result
    → CountsSheet {A = Cup} {F = CupFault} before now (Err (cup_stop.Read stop))
    → CountsCheck before now result
cup-stop-counts before now read_stop.ReadFault result answers counts =
    subst (CountsCheck before now) (sym answers) counts
cup-stop-counts before now (read_stop.LineTooLong number) result answers counts =
    subst (CountsCheck before now) (sym answers) counts
cup-stop-counts before now (read_stop.InputTooLong number) result answers counts =
    subst (CountsCheck before now) (sym answers) counts
