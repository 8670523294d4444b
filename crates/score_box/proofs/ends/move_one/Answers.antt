-- The number at the club's place is the one that is written.
use mir.Syntax.{w32}
use mir.Val.{to_z, of_z}
use Rattle.std.proofs.Common.{◌≡◌, pos, ◌+ℤ◌, ◌-ℤ◌, arith}
use Rattle.std.proofs.lemmas.Int.{ints}
use Rattle.score_box.specs.inside.Ends.{end_at}
use Rattle.score_box.proofs.EndLemmas.{one_moved}
use Rattle.score_box.proofs.ends.move_one.Goals as goal

pub returns : goal.returns
returns c =
    let old = end_at c.args.numbers.now c.args.club in
    let low = c.requires.low c.args.club in
    let high = c.requires.high c.args.club in
    let is : to_z w32 (of_z w32 (to_z w32 (of_z w32 old)
    +ℤ to_z w32 (of_z w32 (to_z w32 (of_z w32 c.from.result)
    -ℤ to_z w32 (of_z w32 c.from-2.result)))))
    ≡ old +ℤ (pos c.args.now -ℤ pos c.args.was) =
    omega (
      arith,
      ints,
      c.from.ensures,
      c.from-2.ensures,
      c.ranges.was.fits,
      c.ranges.now.fits,
      low,
      high,
    ) in
    one_moved c.args.numbers.now c.args.club _ (pos c.args.now -ℤ pos c.args.was)
    c.requires.in_range is
