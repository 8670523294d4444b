-- No sum is far from 0.
use Rattle.std.proofs.Common.{◌≤ℤ◌, pos, neg_ℤ, to_z, of_z, w64, arith}
use Rattle.std.proofs.lemmas.Int.{ints}
use Rattle.check_bounds.specs.declared.int_range.IntRange.{IntRange}
use Rattle.check_bounds.specs.inside.IntRanges.{IsRangeWithin}
use Rattle.check_bounds.proofs.key_ends.ends_over.Goals as goal

low : (range : IntRange) → IsRangeWithin 153000 range
    → (neg_ℤ (pos 200000) ≤ℤ to_z w64 (of_z w64 range.least))
    × (to_z w64 (of_z w64 range.least) ≤ℤ pos 200000)
low range near =
    let above = near.least_above in
    let below = near.least_below in
    (omega (arith, ints, above, below), omega (arith, ints, above, below))

high : (range : IntRange) → IsRangeWithin 153000 range
    → (neg_ℤ (pos 200000) ≤ℤ to_z w64 (of_z w64 range.greatest))
    × (to_z w64 (of_z w64 range.greatest) ≤ℤ pos 200000)
high range near =
    let above = near.greatest_above in
    let below = near.greatest_below in
    (omega (arith, ints, above, below), omega (arith, ints, above, below))

pub narrowed-requires-2 : goal.narrowed-requires-2
narrowed-requires-2 c = low c.sum_of-difference.result c.sum_of-difference.ensures.near

pub narrowed-requires-3 : goal.narrowed-requires-3
narrowed-requires-3 c = low c.sum_of-goals.result c.sum_of-goals.ensures.near

pub narrowed-requires-4 : goal.narrowed-requires-4
narrowed-requires-4 c = low c.sum_of-away_goals.result c.sum_of-away_goals.ensures.near

pub narrowed-requires-5 : goal.narrowed-requires-5
narrowed-requires-5 c = low c.sum_of-wins.result c.sum_of-wins.ensures.near

pub narrowed-requires-6 : goal.narrowed-requires-6
narrowed-requires-6 c = low c.sum_of-away_wins.result c.sum_of-away_wins.ensures.near

pub narrowed-requires-8 : goal.narrowed-requires-8
narrowed-requires-8 c = high c.sum_of-difference.result c.sum_of-difference.ensures.near

pub narrowed-requires-9 : goal.narrowed-requires-9
narrowed-requires-9 c = high c.sum_of-goals.result c.sum_of-goals.ensures.near

pub narrowed-requires-10 : goal.narrowed-requires-10
narrowed-requires-10 c = high c.sum_of-away_goals.result c.sum_of-away_goals.ensures.near

pub narrowed-requires-11 : goal.narrowed-requires-11
narrowed-requires-11 c = high c.sum_of-wins.result c.sum_of-wins.ensures.near

pub narrowed-requires-12 : goal.narrowed-requires-12
narrowed-requires-12 c = high c.sum_of-away_wins.result c.sum_of-away_wins.ensures.near
