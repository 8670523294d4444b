-- Sums as the code keeps them, and tables of them by the clubs' numbers.
use Rattle.std.specs.Prelude.{ℕ, pos, neg_ℤ, ◌≤ℤ◌, List, map, slice_index_or}
use Rattle.league_core.specs.search.PointRanges.{Range}
use Rattle.check_bounds.specs.declared.int_range.IntRange.{IntRange}

-- the range that a range is
abbrev pub as_sum_range : IntRange → Range
as_sum_range range = record { least = range.least; greatest = range.greatest }

-- both ends are no further from 0 than this
pub record IsRangeWithin (bound : ℕ) (range : IntRange) : Type 0 where
  pub least_above : neg_ℤ (pos bound) ≤ℤ range.least
  pub least_below : range.least ≤ℤ pos bound
  pub greatest_above : neg_ℤ (pos bound) ≤ℤ range.greatest
  pub greatest_below : range.greatest ≤ℤ pos bound

-- a sum without a match
abbrev pub no_range : IntRange
no_range = record { least = pos 0; greatest = pos 0 }

-- what a table has at a club's number
abbrev pub range_at : List IntRange → ℕ → IntRange
range_at table club = slice_index_or table club no_range

-- the ranges of a club, one of each table
abbrev pub ranges_at : List (List IntRange) → ℕ → List Range
ranges_at tables club = map (λ table. as_sum_range (range_at table club)) tables
