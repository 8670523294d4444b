use Rattle.std.proofs.Common.{◌≡◌, ◌+ℤ◌, to_z, of_z, w32, arith}
use Rattle.std.proofs.lemmas.Int.{ints}
use Rattle.tie_bound.proofs.int_range.IntRange.plus.Goals as goal

pub returns : goal.returns
returns c =
    let least : to_z w32 (of_z w32 (to_z w32 (of_z w32 c.args.self.least) +ℤ to_z w32
    (of_z w32 c.args.other.least))) ≡ c.args.self.least +ℤ c.args.other.least =
    omega (
      arith,
      ints,
      c.requires.near.least_above,
      c.requires.near.least_below,
      c.requires.other_near.least_above,
      c.requires.other_near.least_below,
    ) in
    let greatest : to_z w32 (of_z w32 (to_z w32 (of_z w32 c.args.self.greatest) +ℤ to_z w32
    (of_z w32 c.args.other.greatest))) ≡ c.args.self.greatest +ℤ c.args.other.greatest =
    omega (
      arith,
      ints,
      c.requires.near.greatest_above,
      c.requires.near.greatest_below,
      c.requires.other_near.greatest_above,
      c.requires.other_near.greatest_below,
    ) in
    (λ j. record { least = least j; greatest = greatest j })
