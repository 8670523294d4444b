-- What the modes about cups write: `groups` an answer to each ask, `groups_check` one row for all
-- of an input.
use Rattle.std.specs.Prelude.{ℕ, Bool, List}
use Rattle.cup_turns.specs.CupCourses.{CupPlayed, cup_kind}
use Rattle.cup_answers.specs.CupTexts.{IsGroupsText}
use Rattle.cup_check.specs.declared.outcome.CupOutcome.{CupOutcome}
use Rattle.cup_check.specs.declared.outcome.CupOutcome.TheVariants.{BadCup, Judged}
use Rattle.cup_check.specs.CupOutcomes.{cup_outcome_of}
use Rattle.run_ends.specs.declared.status.Status.{Status}
use Rattle.run_ends.specs.declared.status.Status.TheVariants as status
use Rattle.run_ends.specs.declared.run_end.Cause.TheVariants as cause
use Rattle.run_ends.specs.Rows.{fault_row}
use Rattle.run_ends.specs.Texts.{SessionKind}
use Rattle.futmax_main.specs.Checks.{Judge, check_row, status_of_check}

-- ---- asks

-- the text answers an ask about a cup: the verdict of each club
abbrev pub IsGroupsAnswer : Bool → CupPlayed → List ℕ → Type 0
IsGroupsAnswer proofs played text =
    IsGroupsText proofs played.cup played.seasons played.epoch text

-- the session of a cup whose asks are answered so
abbrev pub groups_kind : Bool → SessionKind CupPlayed
groups_kind proofs = cup_kind (IsGroupsAnswer proofs)

-- ---- reports

-- the one row that is written, by what the input comes to
abbrev pub cup_check_row : CupOutcome → List ℕ
cup_check_row (BadCup number fault) =
    fault_row (record { number = number; cause = cause.Cup fault })
cup_check_row (Judged outcome) = check_row outcome

-- the status, by the same
abbrev pub status_of_cup_check : CupOutcome → Status
status_of_cup_check (BadCup number fault) = status.BadSheet
status_of_cup_check (Judged outcome) = status_of_check outcome

-- how a report on a cup is judged
abbrev pub cup_judge : Judge CupOutcome
cup_judge = record {
  comes = cup_outcome_of;
  row = cup_check_row;
  status = status_of_cup_check;
}
