use Rattle.std.proofs.Common.{◌≡◌, pos, ◌+ℤ◌, ◌-ℤ◌, to_z, of_z, w64, arith}
use Rattle.std.proofs.lemmas.Int.{ints}
use Rattle.check_bounds.proofs.int_range.IntRange.less.Goals as goal

pub returns-clause-range : goal.returns-clause-range
returns-clause-range c =
    let least : to_z w64 (of_z w64 (to_z w64 (of_z w64 c.args.self.least) -ℤ to_z w64
    (of_z w64 c.args.off))) ≡ c.args.self.least +ℤ (pos 0 -ℤ c.args.off) =
    omega (
      arith,
      ints,
      c.requires.near.least_above,
      c.requires.near.least_below,
      c.requires.few.0,
      c.requires.few.1,
    ) in
    let greatest : to_z w64 (of_z w64 (to_z w64 (of_z w64 c.args.self.greatest) -ℤ to_z w64
    (of_z w64 c.args.off))) ≡ c.args.self.greatest +ℤ (pos 0 -ℤ c.args.off) =
    omega (
      arith,
      ints,
      c.requires.near.greatest_above,
      c.requires.near.greatest_below,
      c.requires.few.0,
      c.requires.few.1,
    ) in
    (λ j. record { least = least j; greatest = greatest j })
