-- Rows of totals as ends: in each column the least and the greatest that matches can come to for a
-- club, and that each of them is reached by some score.
use Rattle.std.specs.Prelude.{◌≡◌, ℕ, ◌+◌, ℤ, pos, Bool, true, false, not, ◌&&◌}
use Rattle.std.specs.Prelude.{if◌then◌else◌, List, Option, Some, None}
use Rattle.std.specs.Int.{int_min, int_max}
use Rattle.league_core.specs.declared.sheet.Fixture.{Fixture}
use Rattle.league_core.specs.declared.season.Score.{Score}
use Rattle.league_core.specs.game.Sums.{worth_to}
use Rattle.league_core.specs.inside.Extents.{IsExtent}
use Rattle.league_core.specs.search.PointRanges.{Range, added, range_of, range_from}
use Rattle.score_box.specs.declared.cell.Cell.{Cell}
use Rattle.score_box.specs.declared.cell.goals.ScoreRange.{ScoreRange}
use Rattle.score_box.specs.declared.totals.Totals.{Totals}
use Rattle.score_box.specs.inside.Cells.{allows, IsCellOf}
use Rattle.score_box.specs.inside.Totals.{Column, total_in, worth_in, AreTotalsNear}
use Rattle.tie_bound.specs.declared.int_range.GoalRange.{GoalRange}
use Rattle.tie_bound.specs.inside.Sides.{to_side, AreGoalsOf}
use Rattle.key_bounds.specs.declared.goal_ends.GoalEnds.{GoalEnds}
use Rattle.key_bounds.specs.declared.row_ends.RowEnds.{RowEnds}

-- the range of a column
abbrev pub ends_in : RowEnds → Column → Range
ends_in ends column =
    record { least = total_in ends.least column; greatest = total_in ends.greatest column }

-- both rows are at most this far from zero
abbrev pub AreEndsNear : ℕ → RowEnds → Type 0
AreEndsNear bound ends = AreTotalsNear bound ends.least × AreTotalsNear bound ends.greatest

-- the range that two ranges have together
abbrev pub hull : Range → Range → Range
hull range other = record {
  least = int_min range.least other.least;
  greatest = int_max range.greatest other.greatest;
}

-- the row of a match with these points, this difference, so many goals scored and wins
abbrev pub totals_row : ℤ → ℤ → ℕ → ℤ → Bool → Totals
totals_row points difference scored won away = record {
  points = points;
  difference = difference;
  goals = pos scored;
  away_goals = if away then pos scored else pos 0;
  wins = won;
  away_wins = if away then won else pos 0;
}

-- the goals of a side as a range
abbrev pub as_goals : GoalEnds → GoalRange
as_goals goals = record { least = goals.least; most = goals.most }

-- the goals of the away side, or of the home side
abbrev pub goals_of : Bool → ScoreRange → GoalRange
goals_of true goals = record { least = goals.away_least; most = goals.away_most }
goals_of false goals = record { least = goals.home_least; most = goals.home_most }

-- the goals of a side and of the other over all scores of a cell
pub record AreGoals (cell : Cell) (away : Bool) (own other : GoalEnds) : Type 0 where
  pub own_goals : AreGoalsOf cell away (as_goals own)
  pub other_goals : AreGoalsOf cell (not away) (as_goals other)

-- what the scores that pass a test are worth to a side lies between the ends, column by column, and
-- each end is reached
pub record AreEndsOf (allowed : Score → Bool) (away : Bool) (ends : RowEnds) : Type 0 where
  pub each : (column : Column)
      → IsExtent allowed (to_side (worth_in column) away) (ends_in ends column)
  pub near : AreEndsNear 255 ends

-- there are ends if a score passes
abbrev pub AreEndsIfAny : (Score → Bool) → Bool → Option RowEnds → Type 0
AreEndsIfAny allowed away None = (score : Score) → allowed score ≡ false
AreEndsIfAny allowed away (Some ends) = AreEndsOf allowed away ends

-- the score is one of the cell's and passes
abbrev pub passing : Cell → (Score → Bool) → Score → Bool
passing cell test score = allows cell score && test score

-- what the options of a cell are worth to a side
pub record LeavesEnds (cell : Cell) (away : Bool) (ends : RowEnds) : Type 0 where
  pub each : (options : List Score) → IsCellOf cell options → (column : Column)
      → ends_in ends column ≡ range_of (to_side (worth_in column) away) options
  pub near : AreEndsNear 255 ends

-- in each column both ends grow by what a match can come to
pub record EndsGrowBy (value : Column → Range) (old new : RowEnds) : Type 0 where
  pub sums : (column : Column) → ends_in new column ≡ added (ends_in old column) (value column)
  pub near : (bound : ℕ) → AreEndsNear bound old → AreEndsNear (bound + 255) new

-- what all matches can come to for a club
pub record AreClubEnds (fixtures : List Fixture) (options : List (List Score)) (club : ℕ)
    (ends : RowEnds) : Type 0 where
  pub each : (column : Column) → ends_in ends column
      ≡ range_from (worth_to (worth_in column) club) fixtures options
  pub near : AreEndsNear 153000 ends
