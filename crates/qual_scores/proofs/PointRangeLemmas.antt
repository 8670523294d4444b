-- Ranges and their halves: where the middle lies, and how many numbers are left.
use Rattle.std.proofs.Common.{◌≡◌, ℕ, ◌<◌, ℤ, pos, negsuc, ◌+ℤ◌, ◌-ℤ◌, ◌≤ℤ◌, ◌<ℤ◌, arith, w32, to_z}
use Rattle.std.proofs.Common.{of_z, sym, ap, ◌∙◌, true, false}
use lib.Signed.{lt_z}
use Rattle.std.proofs.lemmas.Int.{ints, to_z-of_z}
use Rattle.qual_scores.specs.declared.point_range.PointRange.{PointRange}
use Rattle.qual_scores.specs.Bisections.{IsMiddleOf}
use Rattle.league_core.proofs.plain.Numbers.{lt_z-true, lt_z-false}

-- points are read back as they are written
pub kept : (points : ℤ) → negsuc 98 ≤ℤ points → points ≤ℤ pos 1802
    → to_z w32 (of_z w32 points) ≡ points
kept points least most = to_z-of_z w32 points (omega (arith, ints))

-- what a test of two points says, which are read back
pub read_less : (a b : ℤ) → to_z w32 (of_z w32 a) ≡ a → to_z w32 (of_z w32 b) ≡ b
    → lt_z (to_z w32 (of_z w32 a)) (to_z w32 (of_z w32 b)) ≡ true → a <ℤ b
read_less a b one other h =
    lt_z-true a b (sym (ap (λ z. lt_z z b) one)
    ∙ sym (ap (lt_z (to_z w32 (of_z w32 a))) other) ∙ h)

pub read_not_less : (a b : ℤ) → to_z w32 (of_z w32 a) ≡ a → to_z w32 (of_z w32 b) ≡ b
    → lt_z (to_z w32 (of_z w32 a)) (to_z w32 (of_z w32 b)) ≡ false → b ≤ℤ a
read_not_less a b one other h =
    lt_z-false a b (sym (ap (λ z. lt_z z b) one)
    ∙ sym (ap (lt_z (to_z w32 (of_z w32 a))) other) ∙ h)

-- a number that is not negative
abbrev pub natural_of : ℤ → ℕ
natural_of (pos n) = n
natural_of (negsuc n) = 0

-- how many numbers are left besides one
abbrev pub numbers_in : PointRange → ℕ
numbers_in range = natural_of (range.high -ℤ range.low)

natural_less : (a b : ℤ) → pos 0 ≤ℤ a → a <ℤ b → natural_of a < natural_of b
natural_less (pos a) (pos b) from less = omega (arith, ints)
natural_less (pos a) (negsuc b) from less = absurd (omega (arith, ints))
natural_less (negsuc a) b from less = absurd (omega (arith, ints))

-- the middle lies in its range, below the upper end
pub record IsWithin (range : PointRange) (middle : ℤ) : Type 0 where
  pub least : range.low ≤ℤ middle
  pub most : middle <ℤ range.high

pub middle_within : (range : PointRange) (middle : ℤ) → range.low <ℤ range.high
    → IsMiddleOf range middle → IsWithin range middle
middle_within range middle several is =
    let above = is.not_above in
    let rounded = is.rounded_down in
    record { least = omega (arith, ints); most = omega (arith, ints) }

-- each half has fewer numbers
pub lower_is_less : (range : PointRange) (middle high : ℤ) → range.low <ℤ range.high
    → IsMiddleOf range middle → high ≡ middle
    → numbers_in (record { low = range.low; high = high }) < numbers_in range
lower_is_less range middle high several is same =
    let within = middle_within range middle several is in
    natural_less (high -ℤ range.low) (range.high -ℤ range.low) (omega (arith, ints))
    (omega (arith, ints))

pub upper_is_less : (range : PointRange) (middle low : ℤ) → range.low <ℤ range.high
    → IsMiddleOf range middle → low ≡ middle +ℤ pos 1
    → numbers_in (record { low = low; high = range.high }) < numbers_in range
upper_is_less range middle low several is same =
    let within = middle_within range middle several is in
    natural_less (range.high -ℤ low) (range.high -ℤ range.low) (omega (arith, ints))
    (omega (arith, ints))
