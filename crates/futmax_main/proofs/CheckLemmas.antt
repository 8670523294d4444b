-- Checks of an input: what was written, from what the input comes to.
use Rattle.std.proofs.Common.{◌≡◌, ℕ, List, [], Option, Some, None, Ok, refl, ◌∙◌}
use Rattle.std.proofs.Common.{subst, sym}
use Rattle.std.specs.Io.KnownBytes.{IsAtEnd}
use Rattle.port_core.specs.Contents.{start, contents_of}
use Rattle.port_core.specs.Readers.{LineReaderView, contents_to_come, TakesInput}
use Rattle.cert_check.specs.declared.expected.ReportKind.{ReportKind}
use Rattle.cert_check.specs.declared.outcome.CheckOutcome.{CheckOutcome}
use Rattle.cert_check.specs.declared.outcome.CheckOutcome.TheVariants as outcome
use Rattle.cert_check.specs.inside.InputCalls.{ChecksInput, LeavesCheck}
use Rattle.run_ends.specs.declared.status.Status.{Status}
use Rattle.run_ends.specs.declared.status.Status.TheVariants.{Done, BadWords, BadSheet, BadFeed}
use Rattle.run_ends.specs.declared.status.Status.TheVariants.{ReadFault, WriteFault, OutOfMemory}
use Rattle.run_ends.specs.declared.status.Status.TheVariants.{NotProved, TooLong}
use Rattle.futmax_main.specs.Checks.{ComesTo, Judge, ServesCheck, check_row, report_judge}
use Rattle.futmax_main.specs.Checks.{status_of_check}
use Rattle.futmax_main.specs.inside.Judging.{IsStatusOfCheck, JudgedEnds}
use Rattle.league_core.proofs.plain.Streams.{append_known-nothing, nothing_left}
use Rattle.run_ends.proofs.WayLemmas.{fresh-contents}

-- no outcome is a fault of a device or of the words
pub of_check : (outcome : CheckOutcome) → IsStatusOfCheck (status_of_check outcome)
of_check (outcome.Accepted rows unsettled) = tt
of_check (outcome.Refused number fault) = tt
of_check (outcome.BadSheet number fault) = tt
of_check (outcome.BadFeed number fault) = tt
of_check (outcome.LineTooLong number) = tt
of_check (outcome.InputTooLong number) = tt

-- the status of a report that was judged
abbrev pub IsJudged : Status → Type 0
IsJudged Done = Unit {0}
IsJudged NotProved = Unit {0}
IsJudged status = ⊥

-- where a report was judged, nothing is left
pub judged-end : (outcome : CheckOutcome) (new : LineReaderView) (left : Option (List ℕ))
    → IsJudged (status_of_check outcome) → LeavesCheck new left (Ok outcome) → IsAtEnd left
judged-end (outcome.Accepted rows unsettled) new left is leaves = leaves.2
judged-end (outcome.Refused number fault) new left is leaves = leaves.2
judged-end (outcome.BadSheet number fault) new left is leaves = absurd is
judged-end (outcome.BadFeed number fault) new left is leaves = absurd is
judged-end (outcome.LineTooLong number) new left is leaves = absurd is
judged-end (outcome.InputTooLong number) new left is leaves = absurd is

-- what an input comes to is written
pub check-ends : {Outcome : Type 0} (judge : Judge Outcome) (input : List ℕ)
    (left : Option (List ℕ)) (outcome : Outcome) (old now : Option (List ℕ)) (status : Status)
    → ComesTo judge input outcome → IsStatusOfCheck (judge.status outcome)
    → (IsJudged (judge.status outcome) → left ≡ Some [])
    → JudgedEnds (judge.row outcome) (judge.status outcome) old now status
    → ServesCheck judge (Some input) left old now status
check-ends judge input left outcome old now Done comes of_it at_end ends = (
  judge.row outcome,
  ends.1,
  ((outcome, comes, ends.0, refl), at_end (subst IsJudged (sym ends.0) tt)),
)
check-ends judge input left outcome old now BadWords comes of_it at_end ends =
    (judge.row outcome, ends.1, (outcome, comes, ends.0, refl))
check-ends judge input left outcome old now BadSheet comes of_it at_end ends =
    (judge.row outcome, ends.1, (outcome, comes, ends.0, refl))
check-ends judge input left outcome old now BadFeed comes of_it at_end ends =
    (judge.row outcome, ends.1, (outcome, comes, ends.0, refl))
check-ends judge input left outcome old now ReadFault comes of_it at_end ends =
    absurd (subst IsStatusOfCheck ends.0 of_it)
check-ends judge input left outcome old now WriteFault comes of_it at_end ends =
    (ends.0, ends.2, (outcome, comes, ends.1))
check-ends judge input left outcome old now OutOfMemory comes of_it at_end ends =
    ([], ends ∙ append_known-nothing old, refl)
check-ends judge input left outcome old now NotProved comes of_it at_end ends = (
  judge.row outcome,
  ends.1,
  ((outcome, comes, ends.0, refl), at_end (subst IsJudged (sym ends.0) tt)),
)
check-ends judge input left outcome old now TooLong comes of_it at_end ends =
    (judge.row outcome, ends.1, (outcome, comes, ends.0, refl))

-- a report that was judged
pub check-serves : (kind : ReportKind) (reader new : LineReaderView) (input left : Option (List ℕ))
    (outcome : CheckOutcome)
    (old now : Option (List ℕ)) (status : Status)
    → reader ≡ record { held = []; text = []; position = start }
    → ChecksInput kind (contents_to_come reader input) (contents_to_come new left) (Ok outcome)
    → LeavesCheck new left (Ok outcome) → TakesInput reader new input left
    → JudgedEnds (check_row outcome) (status_of_check outcome) old now status
    → ServesCheck (report_judge kind) input left old now status
check-serves kind reader new None left outcome old now status fresh checks leaves takes ends = tt
check-serves kind reader new (Some input) left outcome old now status fresh checks leaves takes ends
    =
    check-ends (report_judge kind) input left outcome old now status
    (checks (contents_of input) (fresh-contents reader (Some input) fresh)) (of_check outcome)
    (λ is. nothing_left input takes.0 left takes.1 (judged-end outcome new left is leaves)) ends

-- a fault of the source, which leaves no text
pub check-fails : {Outcome : Type 0} (judge : Judge Outcome) (input left old : Option (List ℕ))
    → ServesCheck judge input left old old ReadFault
check-fails judge None left old = tt
check-fails judge (Some input) left old = ([], append_known-nothing old, refl)

-- running out of memory, which leaves none
pub check-starved : {Outcome : Type 0} (judge : Judge Outcome) (input left old : Option (List ℕ))
    → ServesCheck judge input left old old OutOfMemory
check-starved judge None left old = tt
check-starved judge (Some input) left old = ([], append_known-nothing old, refl)
