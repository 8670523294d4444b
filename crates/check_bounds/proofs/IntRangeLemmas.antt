-- Ranges of sums: when two are one, how they are added, and how far from 0 they are.
use Rattle.std.proofs.Common.{◌≡◌, ℕ, ◌+◌, ◌≤◌, ℤ, pos, ◌+ℤ◌, ◌-ℤ◌, ◌≤ℤ◌, neg_ℤ}
use Rattle.std.proofs.Common.{ap, arith}
use Rattle.std.specs.Int.{int_min, int_max}
use Rattle.std.proofs.lemmas.Int.{ints, clamps}
use Rattle.league_core.specs.search.PointRanges.{Range, added, widened}
use Rattle.check_bounds.specs.declared.int_range.IntRange.{IntRange}
use Rattle.check_bounds.specs.inside.IntRanges.{as_sum_range, IsRangeWithin}

-- sums of near ranges are near
pub near_plus : (bound more : ℕ) (a b c : IntRange)
    → as_sum_range c ≡ added (as_sum_range a) (as_sum_range b) → IsRangeWithin bound a
    → IsRangeWithin more b
    → IsRangeWithin (bound + more) c
near_plus bound more a b c is near other =
    let least : c.least ≡ a.least +ℤ b.least = ap (λ (r : Range). r.least) is in
    let greatest : c.greatest ≡ a.greatest +ℤ b.greatest = ap (λ (r : Range). r.greatest) is in
    let al = near.least_above in
    let bl = near.least_below in
    let ag = near.greatest_above in
    let bg = near.greatest_below in
    let oal = other.least_above in
    let obl = other.least_below in
    let oag = other.greatest_above in
    let obg = other.greatest_below in
    record {
      least_above = omega (arith, ints, least, al, oal);
      least_below = omega (arith, ints, least, bl, obl);
      greatest_above = omega (arith, ints, greatest, ag, oag);
      greatest_below = omega (arith, ints, greatest, bg, obg);
    }

pub near_wider : (bound more : ℕ) (range : IntRange) → bound ≤ more → IsRangeWithin bound range
    → IsRangeWithin more range
near_wider bound more range fewer near =
    let al = near.least_above in
    let bl = near.least_below in
    let ag = near.greatest_above in
    let bg = near.greatest_below in
    record {
      least_above = omega (arith, ints, fewer, al);
      least_below = omega (arith, ints, fewer, bl);
      greatest_above = omega (arith, ints, fewer, ag);
      greatest_below = omega (arith, ints, fewer, bg);
    }

-- a value more does not take a range further from 0 than the value is
pub near_widened : (value : ℤ) (old new : IntRange)
    → as_sum_range new ≡ widened value (as_sum_range old) → neg_ℤ (pos 255) ≤ℤ value
    → value ≤ℤ pos 255 → IsRangeWithin 255 old → IsRangeWithin 255 new
near_widened value old new is low high near =
    let least : new.least ≡ int_min value old.least = ap (λ (r : Range). r.least) is in
    let greatest : new.greatest ≡ int_max value old.greatest = ap (λ (r : Range). r.greatest) is in
    let la = near.least_above in
    let lb = near.least_below in
    let ga = near.greatest_above in
    let gb = near.greatest_below in
    record {
      least_above = omega (arith, ints, clamps, least, la);
      least_below = omega (arith, ints, clamps, least, lb);
      greatest_above = omega (arith, ints, clamps, greatest, ga);
      greatest_below = omega (arith, ints, clamps, greatest, gb);
    }
