-- Checks of an input with a report on a cup: what was written, from what the input comes to.
use Rattle.std.proofs.Common.{◌≡◌, ℕ, List, [], Option, Some, None, Ok}
use Rattle.std.specs.Io.KnownBytes.{IsAtEnd}
use Rattle.port_core.specs.Contents.{Contents, start, contents_of}
use Rattle.port_core.specs.Readers.{LineReaderView, contents_to_come, TakesInput}
use Rattle.cert_check.specs.inside.InputCalls.{ChecksBy, IfRead}
use Rattle.cup_check.specs.declared.outcome.CupOutcome.{CupOutcome}
use Rattle.cup_check.specs.declared.outcome.CupOutcome.TheVariants.{BadCup, Judged}
use Rattle.cup_check.specs.CupOutcomes.{cup_outcome_of}
use Rattle.cup_check.specs.inside.CupInputCalls.{LeavesCupCheck}
use Rattle.run_ends.specs.declared.status.Status.{Status}
use Rattle.futmax_main.specs.Checks.{ServesCheck}
use Rattle.futmax_main.specs.CupModes.{cup_check_row, cup_judge, status_of_cup_check}
use Rattle.futmax_main.specs.inside.Judging.{IsStatusOfCheck, JudgedEnds}
use Rattle.league_core.proofs.plain.Streams.{nothing_left}
use Rattle.run_ends.proofs.WayLemmas.{fresh-contents}
use Rattle.futmax_main.proofs.CheckLemmas.{IsJudged, check-ends, judged-end, of_check}

-- no outcome is a fault of a device or of the words
pub of_cup_check : (outcome : CupOutcome) → IsStatusOfCheck (status_of_cup_check outcome)
of_cup_check (BadCup number fault) = tt
of_cup_check (Judged outcome) = of_check outcome

-- where a report was judged, nothing is left
judged-cup_end : (outcome : CupOutcome) (new : LineReaderView) (left : Option (List ℕ))
    → IsJudged (status_of_cup_check outcome) → LeavesCupCheck new left (Ok outcome)
    → IsAtEnd left
judged-cup_end (BadCup number fault) new left is leaves = absurd is
judged-cup_end (Judged outcome) new left is leaves = judged-end outcome new left is leaves

-- a report that was judged
pub cup_check-serves : (reader new : LineReaderView) (input left : Option (List ℕ))
    (outcome : CupOutcome) (old now : Option (List ℕ)) (status : Status)
    → reader ≡ record { held = []; text = []; position = start }
    → IfRead (contents_to_come reader input)
    (λ (contents : Contents). ChecksBy cup_outcome_of contents (contents_to_come new left)
    (Ok outcome))
    → LeavesCupCheck new left (Ok outcome) → TakesInput reader new input left
    → JudgedEnds (cup_check_row outcome) (status_of_cup_check outcome) old now status
    → ServesCheck cup_judge input left old now status
cup_check-serves reader new None left outcome old now status fresh checks leaves takes ends = tt
cup_check-serves reader new (Some input) left outcome old now status fresh checks leaves takes ends
    =
    check-ends cup_judge input left outcome old now status
    (checks (contents_of input) (fresh-contents reader (Some input) fresh)) (of_cup_check outcome)
    (λ is. nothing_left input takes.0 left takes.1 (judged-cup_end outcome new left is leaves))
    ends
