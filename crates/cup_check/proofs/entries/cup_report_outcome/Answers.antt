use Rattle.std.proofs.Common.{◌<◌, arith, length}
use Rattle.cup_sheet.specs.CupFeeds.{joint_sheet}
use Rattle.cert_check.specs.Outcomes.{first_progress}
use Rattle.cert_check.proofs.OutcomeLemmas.{entries-more}
use Rattle.cup_check.specs.CupOutcomes.{cup_parted}
use Rattle.cup_check.specs.inside.CupInputCalls.{cup_report_read}
use Rattle.cup_check.proofs.entries.cup_report_outcome.Goals as goal

pub loop-entry-preserved : goal.loop-entry-preserved
loop-entry-preserved c =
    let entries = c.args.entries.now in
    let at = c.loop-entry.entry-index in
    let within : at < length entries = omega (arith, c.loop-entry-test.true) in
    let goes = rw c.in_default.is at (c.in_ok-outcome.ensures {u = tt}).goes in (
      entries-more (cup_parted (cup_report_read c.args.cup.now c.args.told.now)) entries at _
          (first_progress (joint_sheet c.args.cup.now)) c.loop-entry.standing
          c.take_entry.new.standing within c.loop-entry.invariant.0 goes,
      (c.in_ok-outcome.ensures {u = tt}).way at c.loop-entry.invariant.1,
    )
