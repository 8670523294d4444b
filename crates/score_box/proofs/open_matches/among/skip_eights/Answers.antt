-- Eight more have none.
use Rattle.std.proofs.Common.{◌+◌, arith}
use Rattle.score_box.proofs.OpenSideLemmas.{none_further}
use Rattle.score_box.proofs.open_matches.among.skip_eights.Goals as goal

pub loop-place-preserved : goal.loop-place-preserved
loop-place-preserved c = record {
  from = omega (arith, c.loop-place.invariant.from);
  within = omega (arith, c.loop-place.invariant.within, c.loop-place-test.true);
  before = none_further c.args.sides.now c.args.group c.args.from c.loop-place.place
      (c.loop-place.place + 8) c.loop-place.invariant.before
      (c.has_none_in_eight.ensures c.if-has_none_in_eight.true);
}
