use Rattle.std.proofs.Common.{◌≡◌, drop, length}
use Rattle.cert_check.specs.Outcomes.{first_progress}
use Rattle.cup_sheet.specs.CupFeeds.{joint_sheet}
use Rattle.cup_check.specs.CupOutcomes.{cup_outcome_from}
use Rattle.cup_check.specs.inside.CupInputCalls.{IsProgressWithin, cup_report_read}
use Rattle.cup_check.proofs.entries.cup_report_outcome.Given as goal

abbrev pub invariant-loop-entry : goal.invariant-loop-entry
invariant-loop-entry l =
    (cup_outcome_from (cup_report_read l.cup l.told) l.entries (first_progress (joint_sheet l.cup))
    ≡ cup_outcome_from (cup_report_read l.cup l.told) (drop l.entry-index l.entries) l.standing)
    × IsProgressWithin (joint_sheet l.cup) (length l.told.lines) l.entry-index l.standing
