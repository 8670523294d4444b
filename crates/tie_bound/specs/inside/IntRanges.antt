-- Ranges of sums as the code keeps them, and the margins by which a side can win.
use Rattle.std.specs.Prelude.{◌≡◌, ℕ, pos, neg_ℤ, ◌-ℤ◌, ◌≤ℤ◌, nat_lt, if◌then◌else◌}
use Rattle.league_core.specs.search.PointRanges.{Range}
use Rattle.tie_bound.specs.declared.int_range.IntRange.{IntRange}
use Rattle.tie_bound.specs.declared.int_range.GoalRange.{GoalRange}

-- a range as a range
abbrev pub as_range : IntRange → Range
as_range range = record { least = range.least; greatest = range.greatest }

-- both ends are this far from zero at most
pub record IsRangeNear (bound : ℕ) (range : Range) : Type 0 where
  pub least_above : neg_ℤ (pos bound) ≤ℤ range.least
  pub least_below : range.least ≤ℤ pos bound
  pub greatest_above : neg_ℤ (pos bound) ≤ℤ range.greatest
  pub greatest_below : range.greatest ≤ℤ pos bound

-- by how much a winner with these goals can beat a loser with those: by one goal at least
pub record IsMargin (winner loser : GoalRange) (range : Range) : Type 0 where
  pub closest : range.least ≡ (if nat_lt loser.most winner.least then pos winner.least -ℤ pos
      loser.most else pos 1)
  pub widest : range.greatest ≡ (pos winner.most -ℤ pos loser.least)
