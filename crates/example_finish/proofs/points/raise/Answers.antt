-- The points at the club's place are those that are written.
use mir.Syntax.{w32}
use mir.Val.{to_z, of_z}
use Rattle.std.proofs.Common.{◌≡◌, ◌+ℤ◌, arith}
use Rattle.std.proofs.lemmas.Int.{ints}
use Rattle.score_box.specs.inside.Ends.{end_at}
use Rattle.score_box.proofs.EndLemmas.{one_moved}
use Rattle.example_finish.proofs.points.raise.Goals as goal

pub returns : goal.returns
returns c =
    let old = end_at c.args.points.now c.args.club in
    let near = c.requires.near c.args.club in
    let is : to_z w32 (of_z w32 (to_z w32 (of_z w32 old) +ℤ to_z w32 (of_z w32 c.args.by)))
    ≡ old +ℤ c.args.by = omega (
      arith,
      ints,
      near.0,
      near.1,
      c.requires.small.0,
      c.requires.small.1,
    ) in
    one_moved c.args.points.now c.args.club _ c.args.by c.requires.in_range is
