-- Each end: the difference, then the sum, stays in its type.
use Rattle.std.proofs.Common.{◌≡◌, ℤ, pos, neg_ℤ, ◌≤ℤ◌, ◌+ℤ◌, ◌-ℤ◌, to_z, of_z, w64, ap, ◌∙◌, arith}
use Rattle.std.proofs.lemmas.Int.{ints}
use Rattle.check_bounds.proofs.int_range.IntRange.exchanged.Goals as goal

-- a sum that is near is the sum that the type holds
settled : (a b : ℤ) → neg_ℤ (pos 3000) ≤ℤ (a +ℤ b) → (a +ℤ b) ≤ℤ pos 3000
    → to_z w64 (of_z w64 (a +ℤ b)) ≡ a +ℤ b
settled a b low high = omega (arith, ints, low, high)

pub returns : goal.returns
returns c =
    let first_least : to_z w64 (of_z w64 (to_z w64 (of_z w64 c.args.self.least) -ℤ to_z w64
    (of_z w64 c.args.old.least))) ≡ c.args.self.least -ℤ c.args.old.least =
    omega (
      arith,
      ints,
      c.requires.near.least_above,
      c.requires.near.least_below,
      c.requires.old_near.least_above,
      c.requires.old_near.least_below,
    ) in
    let new_least : to_z w64 (of_z w64 c.args.new.least) ≡ c.args.new.least =
    omega (arith, ints, c.requires.new_near.least_above, c.requires.new_near.least_below) in
    let least : to_z w64 (of_z w64 (to_z w64 (of_z w64 (to_z w64 (of_z w64 c.args.self.least)
    -ℤ to_z w64 (of_z w64 c.args.old.least))) +ℤ to_z w64 (of_z w64 c.args.new.least)))
    ≡ (c.args.self.least -ℤ c.args.old.least) +ℤ c.args.new.least =
    (λ j. to_z w64 (of_z w64 (first_least j +ℤ new_least j)))
    ∙ settled (c.args.self.least -ℤ c.args.old.least) c.args.new.least
    (omega (
      arith,
      ints,
      c.requires.near.least_above,
      c.requires.old_near.least_below,
      c.requires.new_near.least_above,
    ))
    (omega (
      arith,
      ints,
      c.requires.near.least_below,
      c.requires.old_near.least_above,
      c.requires.new_near.least_below,
    )) in
    let own_least : ((c.args.self.least -ℤ c.args.old.least) +ℤ c.args.new.least)
    +ℤ c.args.old.least
    ≡ c.args.self.least +ℤ c.args.new.least = omega (arith, ints) in
    let first_greatest : to_z w64 (of_z w64 (to_z w64 (of_z w64 c.args.self.greatest) -ℤ to_z w64
    (of_z w64 c.args.old.greatest))) ≡ c.args.self.greatest -ℤ c.args.old.greatest =
    omega (
      arith,
      ints,
      c.requires.near.greatest_above,
      c.requires.near.greatest_below,
      c.requires.old_near.greatest_above,
      c.requires.old_near.greatest_below,
    ) in
    let new_greatest : to_z w64 (of_z w64 c.args.new.greatest) ≡ c.args.new.greatest =
    omega (arith, ints, c.requires.new_near.greatest_above, c.requires.new_near.greatest_below) in
    let greatest : to_z w64 (of_z w64 (to_z w64 (of_z w64 (to_z w64 (of_z w64 c.args.self.greatest)
    -ℤ to_z w64 (of_z w64 c.args.old.greatest))) +ℤ to_z w64 (of_z w64 c.args.new.greatest)))
    ≡ (c.args.self.greatest -ℤ c.args.old.greatest) +ℤ c.args.new.greatest =
    (λ j. to_z w64 (of_z w64 (first_greatest j +ℤ new_greatest j)))
    ∙ settled (c.args.self.greatest -ℤ c.args.old.greatest) c.args.new.greatest
    (omega (
      arith,
      ints,
      c.requires.near.greatest_above,
      c.requires.old_near.greatest_below,
      c.requires.new_near.greatest_above,
    ))
    (omega (
      arith,
      ints,
      c.requires.near.greatest_below,
      c.requires.old_near.greatest_above,
      c.requires.new_near.greatest_below,
    )) in
    let own_greatest : ((c.args.self.greatest -ℤ c.args.old.greatest) +ℤ c.args.new.greatest)
    +ℤ c.args.old.greatest
    ≡ c.args.self.greatest +ℤ c.args.new.greatest = omega (arith, ints) in
    (λ j. record {
      least = (ap (λ n. n +ℤ c.args.old.least) least ∙ own_least) j;
      greatest = (ap (λ n. n +ℤ c.args.old.greatest) greatest ∙ own_greatest) j;
    })
