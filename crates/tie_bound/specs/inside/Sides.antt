-- A match seen from one of its sides: the goals that it may score, and what these are worth to it.
use Rattle.std.specs.Prelude.{◌≡◌, ℕ, ℤ, ◌≤◌, ◌<◌, Bool, true, false, not, List}
use Rattle.league_core.specs.declared.season.Score.{Score}
use Rattle.league_core.specs.game.Sums.{Worth}
use Rattle.league_core.specs.search.PointRanges.{range_of}
use Rattle.tie_criteria.specs.declared.measure.Measure.{Measure}
use Rattle.tie_criteria.specs.inside.Measures.{worth_of}
use Rattle.score_box.specs.declared.cell.Cell.{Cell}
use Rattle.score_box.specs.inside.Cells.{allows, IsCellOf}
use Rattle.tie_bound.specs.declared.int_range.GoalRange.{GoalRange}
use Rattle.tie_bound.specs.declared.sums.Sums.{Sums}
use Rattle.tie_bound.specs.inside.Sums.{range_by, AreNear}

-- the goals of a side
abbrev pub goals_by : Bool → Score → ℕ
goals_by true score = score.away
goals_by false score = score.home

-- what a score is worth to a side
abbrev pub to_side : Worth → Bool → Score → ℤ
to_side worth away score = worth (goals_by away score) (goals_by (not away) score) away

-- the goals of a side over the scores of a cell: all lie between these ends, and each end is
-- reached
pub record AreGoalsOf (cell : Cell) (away : Bool) (goals : GoalRange) : Type 0 where
  pub within : (score : Score) → allows cell score ≡ true → (goals.least ≤ goals_by away score)
      × (goals_by away score ≤ goals.most)
  pub least : (score : Score) × (allows cell score ≡ true) × (goals_by away score ≡ goals.least)
  pub most : (score : Score) × (allows cell score ≡ true) × (goals_by away score ≡ goals.most)

-- the side wins at all scores of the cell
abbrev pub Wins : Cell → Bool → Type 0
Wins cell away = (score : Score) → allows cell score ≡ true
    → goals_by (not away) score < goals_by away score

-- it draws at all of them
abbrev pub Draws : Cell → Bool → Type 0
Draws cell away = (score : Score) → allows cell score ≡ true
    → goals_by away score ≡ goals_by (not away) score

-- it loses at all of them
abbrev pub Loses : Cell → Bool → Type 0
Loses cell away = (score : Score) → allows cell score ≡ true
    → goals_by away score < goals_by (not away) score

-- the sums that the options of a cell leave to a side
pub record AreSumsOf (cell : Cell) (away : Bool) (sums : Sums) : Type 0 where
  pub each : (options : List Score) → IsCellOf cell options → (measure : Measure)
      → range_by sums measure ≡ range_of (to_side (worth_of measure) away) options
  pub near : AreNear 255 sums
