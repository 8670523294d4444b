-- What the modes without asks write: a check one row for all of an input, and `sample` one row,
-- which no input changes.
use Rattle.std.specs.Prelude.{◌≡◌, ℕ, Bool, true, false, List, [], ◌∷◌, Option, Some, None, codes}
use Rattle.std.specs.Prelude.{decimal}
use Rattle.std.specs.Io.KnownBytes.{append_known}
use Rattle.port_core.specs.Ports.{IsBytePrefix}
use Rattle.port_core.specs.Contents.{Contents, contents_of}
use Rattle.cert_text.specs.Rows.{text_of_row}
use Rattle.cert_check.specs.declared.expected.ReportKind.{ReportKind}
use Rattle.cert_check.specs.declared.expected.ReportKind.TheVariants.{Plain, Wide}
use Rattle.cert_check.specs.declared.outcome.ReportFault.{ReportFault}
use Rattle.cert_check.specs.declared.outcome.CheckOutcome.{CheckOutcome}
use Rattle.cert_check.specs.declared.outcome.CheckOutcome.TheVariants.{Accepted, Refused, BadSheet}
use Rattle.cert_check.specs.declared.outcome.CheckOutcome.TheVariants.{BadFeed, LineTooLong}
use Rattle.cert_check.specs.declared.outcome.CheckOutcome.TheVariants.{InputTooLong}
use Rattle.cert_check.specs.Outcomes.{outcome_of, report_code_of}
use Rattle.run_ends.specs.declared.status.Status.{Status}
use Rattle.run_ends.specs.declared.status.Status.TheVariants as status
use Rattle.run_ends.specs.declared.run_end.Cause.TheVariants as cause
use Rattle.run_ends.specs.InputEnds.{input_fault, line_fault}
use Rattle.run_ends.specs.Rows.{fault_row}

-- ---- a report is checked

-- `accepted,ROWS,UNSETTLED`
abbrev pub accepted_row : ℕ → ℕ → List ℕ
accepted_row rows unsettled =
    text_of_row (codes "accepted" ∷ decimal rows ∷ decimal unsettled ∷ [])

-- `refused,LINE,CODE`
abbrev pub refused_row : ℕ → ReportFault → List ℕ
refused_row number fault =
    text_of_row (codes "refused" ∷ decimal number ∷ report_code_of fault ∷ [])

-- the one row that is written, by what the input comes to
abbrev pub check_row : CheckOutcome → List ℕ
check_row (Accepted rows unsettled) = accepted_row rows unsettled
check_row (Refused number fault) = refused_row number fault
check_row (BadSheet number fault) =
    fault_row (record { number = number; cause = cause.Sheet fault })
check_row (BadFeed number fault) =
    fault_row (record { number = number; cause = cause.Feed fault })
check_row (LineTooLong number) = fault_row (line_fault number)
check_row (InputTooLong number) = fault_row (input_fault number)

-- the status, by the same
abbrev pub status_of_check : CheckOutcome → Status
status_of_check (Accepted rows unsettled) = status.Done
status_of_check (Refused number fault) = status.NotProved
status_of_check (BadSheet number fault) = status.BadSheet
status_of_check (BadFeed number fault) = status.BadFeed
status_of_check (LineTooLong number) = status.TooLong
status_of_check (InputTooLong number) = status.TooLong

-- the reports that a check takes: those of the mode `decide` are wide
abbrev pub kind_of_check : Bool → ReportKind
kind_of_check true = Wide
kind_of_check false = Plain

-- how a report is judged: what the contents of an input come to, once it is known, the one row that
-- is written for it, and the status
pub record Judge (Outcome : Type 0) : Type 0 where
  pub comes : Contents → Option Outcome
  pub row : Outcome → List ℕ
  pub status : Outcome → Status

-- a report of this kind on a league
abbrev pub report_judge : ReportKind → Judge CheckOutcome
report_judge kind =
    record { comes = outcome_of kind; row = check_row; status = status_of_check }

-- an input with a report comes to this
abbrev pub ComesTo : {Outcome : Type 0} → Judge Outcome → List ℕ → Outcome → Type 0
ComesTo judge input outcome = judge.comes (contents_of input) ≡ Some outcome

-- the whole text of a check of this input, which has this status
abbrev pub IsCheckText : {Outcome : Type 0} → Judge Outcome → List ℕ → Status → List ℕ → Type 0
IsCheckText {Outcome} judge input status text =
    (outcome : Outcome) × ComesTo judge input outcome × (judge.status outcome ≡ status)
    × (text ≡ judge.row outcome)

-- what was written if a check of this input ends with this status, by what the source has left:
-- nothing if the source failed, or memory ran out; nothing is left where a report was judged
abbrev pub CheckEnds : {Outcome : Type 0} → Judge Outcome → List ℕ → Option (List ℕ) → Status
    → List ℕ → Type 0
CheckEnds judge input left status.Done text =
    IsCheckText judge input status.Done text × (left ≡ Some [])
CheckEnds judge input left status.ReadFault text = text ≡ []
CheckEnds {Outcome} judge input left status.WriteFault text =
    (outcome : Outcome) × ComesTo judge input outcome × IsBytePrefix text (judge.row outcome)
CheckEnds judge input left status.OutOfMemory text = text ≡ []
CheckEnds judge input left status.NotProved text =
    IsCheckText judge input status.NotProved text × (left ≡ Some [])
CheckEnds judge input left status text = IsCheckText judge input status text

-- the sink's bytes before and after a check, by what the source had left and has left; nothing is
-- said if the source exposes none
abbrev pub ServesCheck : {Outcome : Type 0} → Judge Outcome → Option (List ℕ) → Option (List ℕ)
    → Option (List ℕ) → Option (List ℕ) → Status → Type 0
ServesCheck judge None left old new status = Unit {0}
ServesCheck judge (Some input) left old new status =
    (text : List ℕ) × (new ≡ append_known old text) × CheckEnds judge input left status text
