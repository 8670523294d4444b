-- Exact ranges: the ends of a value over the scores that pass a test bound it, and it reaches them.
use Rattle.std.specs.Prelude.{◌≡◌, ◌↔◌, ◌≤ℤ◌, ℕ, ℤ, pos, neg_ℤ, Bool, true, IsTrue, List}
use Rattle.league_core.specs.declared.season.Score.{Score}
use Rattle.league_core.specs.search.Options.{has_score, has_option}
use Rattle.league_core.specs.search.PointRanges.{Range, range_of}

-- at each score that passes the value lies between these ends, and at one each end is reached
pub record IsExtent (allowed : Score → Bool) (value : Score → ℤ) (range : Range) : Type 0 where
  pub within : (score : Score) → allowed score ≡ true
      → (range.least ≤ℤ value score) × (value score ≤ℤ range.greatest)
  pub least : (score : Score) × (allowed score ≡ true) × (value score ≡ range.least)
  pub greatest : (score : Score) × (allowed score ≡ true) × (value score ≡ range.greatest)

-- a number is this far from zero at most
abbrev pub IsNearZero : ℕ → ℤ → Type 0
IsNearZero bound number = (neg_ℤ (pos bound) ≤ℤ number) × (number ≤ℤ pos bound)

-- the range over some options is the exact one, and no other is
abbrev pub RangesAreExact : Type 0
RangesAreExact =
    (value : Score → ℤ) (options : List Score) (range : Range) → IsTrue (has_option options)
    → IsExtent (has_score options) value range ↔ (range ≡ range_of value options)
