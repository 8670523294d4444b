-- Cells: the scores that are still open for one fixture, kept as a set of outcomes and a range of
-- goals for each side, and seen as the set of those scores.
use Rattle.std.specs.Prelude.{◌≡◌, ℕ, ◌≤◌, Bool, true, false, not, ◌&&◌, nat_le, if◌then◌else◌}
use Rattle.std.specs.Prelude.{IsTrue, Option, MatchOption, is_some}
use Rattle.std.specs.Prelude.{List}
use Rattle.league_core.specs.declared.season.Score.{Score}
use Rattle.league_core.specs.search.Options.{is_home_win, is_draw, is_away_win, same_outcome}
use Rattle.league_core.specs.search.Options.{has_score}
use Rattle.score_box.specs.declared.cell.Cell.{Cell}
use Rattle.score_box.specs.declared.cell.goals.ScoreRange.{ScoreRange}

-- so many goals are in a range
abbrev pub is_within : ℕ → ℕ → ℕ → Bool
is_within least most goals = nat_le least goals && nat_le goals most

-- the outcome of the score is one that the cell keeps
abbrev pub keeps_outcome : Cell → Score → Bool
keeps_outcome cell score =
    if is_home_win score then cell.home_win else if is_draw score then cell.draw else cell.away_win

-- the score is one of the cell's
abbrev pub allows : Cell → Score → Bool
allows cell score =
    is_within cell.home_least cell.home_most score.home
    && is_within cell.away_least cell.away_most score.away
    && keeps_outcome cell score

-- no score is left
abbrev pub IsEmptyCell : Cell → Type 0
IsEmptyCell cell = (score : Score) → allows cell score ≡ false

-- the cell's scores are the options of a fixture
abbrev pub IsCellOf : Cell → List Score → Type 0
IsCellOf cell options = (score : Score) → allows cell score ≡ has_score options score

-- a score of the cell that passes a test, as that of an outcome
pub record IsAllowed (cell : Cell) (test : Score → Bool) (score : Score) : Type 0 where
  pub allowed : allows cell score ≡ true
  pub passed : test score ≡ true

-- none of the cell's scores passes
abbrev pub AllowsNone : Cell → (Score → Bool) → Type 0
AllowsNone cell test = (score : Score) → ¬ IsAllowed cell test score

-- the score's goals lie between these ends
pub record IsBetween (goals : ScoreRange) (score : Score) : Type 0 where
  pub home_least : goals.home_least ≤ score.home
  pub home_most : score.home ≤ goals.home_most
  pub away_least : goals.away_least ≤ score.away
  pub away_most : score.away ≤ goals.away_most

-- the goals of the cell's scores that pass: all lie between these ends, and each end is reached
pub record IsScoreRangeOf (cell : Cell) (test : Score → Bool) (goals : ScoreRange) : Type 0 where
  pub within : (score : Score) → IsAllowed cell test score → IsBetween goals score
  pub home_least : (score : Score) × IsAllowed cell test score × (score.home ≡ goals.home_least)
  pub home_most : (score : Score) × IsAllowed cell test score × (score.home ≡ goals.home_most)
  pub away_least : (score : Score) × IsAllowed cell test score × (score.away ≡ goals.away_least)
  pub away_most : (score : Score) × IsAllowed cell test score × (score.away ≡ goals.away_most)

-- whether the cell has a score that passes: if it has, such scores have these goals
pub record HasPassing (cell : Cell) (test : Score → Bool) (has : Bool) : Type 0 where
  pub goals : Option ScoreRange
  pub says : MatchOption goals (AllowsNone cell test) (IsScoreRangeOf cell test)
  pub is : has ≡ is_some goals

-- the cell keeps an outcome exactly when it has a score of it
pub record IsExactCell (cell : Cell) : Type 0 where
  pub home_win : HasPassing cell is_home_win cell.home_win
  pub draw : HasPassing cell is_draw cell.draw
  pub away_win : HasPassing cell is_away_win cell.away_win

-- the cell with those of its outcomes alone for which this is true
abbrev pub with_outcomes : Bool → Bool → Bool → Cell → Cell
with_outcomes home_win draw away_win cell = record cell {
  home_win = home_win && cell.home_win;
  draw = draw && cell.draw;
  away_win = away_win && cell.away_win;
}

-- all four ends are at the goals of this score
pub record IsAt (score : Score) (goals : ScoreRange) : Type 0 where
  pub home_least : goals.home_least ≡ score.home
  pub home_most : goals.home_most ≡ score.home
  pub away_least : goals.away_least ≡ score.away
  pub away_most : goals.away_most ≡ score.away

-- one score alone is left
abbrev pub HasOneScore : Cell → Type 0
HasOneScore cell =
    (score : Score) × IsTrue (allows cell score)
    × ((other : Score) → IsTrue (allows cell other) → score ≡ other)

-- no two of the three are true
abbrev pub at_most_one : Bool → Bool → Bool → Bool
at_most_one first second third =
    not (first && second) && not (first && third) && not (second && third)

-- all scores of the cell have one outcome
abbrev pub HasOneOutcome : Cell → Type 0
HasOneOutcome cell =
    (score other : Score) → allows cell score ≡ true → allows cell other ≡ true
    → same_outcome score other ≡ true
