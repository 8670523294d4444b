-- Tests of goals, and what it means that a cell has no two scores for them to part.
use Rattle.std.specs.Prelude.{◌≡◌, ℕ, ◌≤◌, true}
use Rattle.league_core.specs.declared.season.Score.{Score}
use Rattle.league_core.specs.declared.zone.Test.{Test}
use Rattle.league_core.specs.declared.zone.Test.TheVariants.{Home, Draw, HomeMost, AwayMost, Rival}
use Rattle.league_core.specs.search.Zones.{passes}
use Rattle.score_box.specs.declared.cell.Cell.{Cell}
use Rattle.score_box.specs.declared.cell.goals.ScoreRange.{ScoreRange}
use Rattle.score_box.specs.inside.Cells.{allows}
use Rattle.branch_rules.specs.inside.Choices.{IsDivided}

-- a test of the goals of this fixture
abbrev pub IsGoalTestOf : ℕ → Test → Type 0
IsGoalTestOf number (Home fixture) = ⊥
IsGoalTestOf number (Draw fixture) = ⊥
IsGoalTestOf number (HomeMost fixture most) = fixture ≡ number
IsGoalTestOf number (AwayMost fixture most) = fixture ≡ number
IsGoalTestOf number (Rival club) = ⊥

-- the test is of the fixture's goals, and parts the scores of the cell
pub record DividesByGoals (cell : Cell) (fixture : ℕ) (test : Test) : Type 0 where
  pub of_fixture : IsGoalTestOf fixture test
  pub parts : IsDivided (allows cell) (passes test)

-- any two scores of the cell are the same
abbrev pub HasOneAtMost : Cell → Type 0
HasOneAtMost cell =
    (score other : Score) → allows cell score ≡ true → allows cell other ≡ true → score ≡ other

-- the least goals of each side are its most
pub record AreSame (goals : ScoreRange) : Type 0 where
  pub home : goals.home_most ≤ goals.home_least
  pub away : goals.away_most ≤ goals.away_least
