use Rattle.std.proofs.Common.{arith}
use Rattle.cup_feed.proofs.CutLemmas.{deduction_written}
use Rattle.cup_feed.proofs.seasons.put_deductions.Goals as goal

pub loop-points-preserved : goal.loop-points-preserved
loop-points-preserved c =
    let so_far = c.loop-points.invariant in (
      omega (arith, so_far.0),
      deduction_written c.args.deductions.now c.loop-points.points-index c.loop-points.club
          c.args.season.now c.loop-points.season c.put_deduction.new.season c.requires.same
          c.loop-points-test.true so_far.0 so_far.1 c.put_deduction.ensures,
    )
