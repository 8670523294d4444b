-- One more is not.
use Rattle.std.proofs.Common.{◌+◌, refl, arith}
use Rattle.score_box.proofs.OpenSideLemmas.{none_at, none_further}
use Rattle.score_box.proofs.open_matches.among.next_within.Goals as goal

pub loop-place-preserved : goal.loop-place-preserved
loop-place-preserved c =
    let place = c.loop-place.place in
    record {
      from = omega (arith, c.loop-place.invariant.from);
      within = omega (arith, c.loop-place-test.true);
      before = none_further c.args.sides.now c.args.group c.args.from place (place + 1)
          c.loop-place.invariant.before
          (none_at c.args.sides.now c.args.group _ place (place + 1) c.lies_within.result refl
          c.lies_within.ensures c.if-not-lies_within.true);
    }
