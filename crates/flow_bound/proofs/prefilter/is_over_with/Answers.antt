use mir.Syntax.{w64}
use mir.Val.{to_z, of_z}
use Rattle.std.proofs.Common.{◌≡◌, pos, ◌+ℤ◌, ap, arith}
use Rattle.std.specs.Prelude.{int_lt}
use Rattle.std.proofs.lemmas.Int.{ints}
use Rattle.flow_bound.specs.inside.Parts.{entry}
use Rattle.flow_bound.proofs.prefilter.is_over_with.Goals as goal

pub overflow_add-result : goal.overflow_add-result
overflow_add-result c =
    let least = c.requires.sized.least c.args.club in
    let most = c.requires.sized.most c.args.club in
    omega (arith, ints, least, most, c.requires.more.0, c.requires.more.1)

pub returns : goal.returns
returns c =
    let least = c.requires.sized.least c.args.club in
    let most = c.requires.sized.most c.args.club in
    let sum : to_z w64 (of_z w64 (to_z w64 (of_z w64 (entry c.args.alone.now c.args.club))
    +ℤ to_z w64 (of_z w64 c.args.more)))
    ≡ entry c.args.alone.now c.args.club +ℤ c.args.more =
    omega (arith, ints, least, most, c.requires.more.0, c.requires.more.1) in
    ap (int_lt (pos 0)) sum
