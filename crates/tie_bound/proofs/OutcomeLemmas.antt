-- Cells whose scores have one outcome: which goals it leaves to each side.
use Rattle.std.proofs.Common.{◌≡◌, Bool, true, false}
use Rattle.std.proofs.Common.{sym, ◌∙◌, arith}
use Rattle.std.proofs.lemmas.Bool.{false_from_ne_true}
use Rattle.league_core.specs.declared.season.Score.{Score}
use Rattle.league_core.specs.search.Options.{is_home_win, is_draw, is_away_win}
use Rattle.league_core.proofs.OutcomeLemmas.{outcome_cases}
use Rattle.score_box.specs.declared.cell.Cell.{Cell}
use Rattle.score_box.specs.declared.cell.goals.ScoreRange.{ScoreRange}
use Rattle.score_box.specs.inside.Cells.{allows, AllowsNone, IsScoreRangeOf, IsEmptyCell}
use Rattle.tie_bound.specs.declared.int_range.GoalRange.{GoalRange}
use Rattle.tie_bound.specs.inside.Sides.{AreGoalsOf}

-- the goals of the outcome are those of all scores
pub home_goals_are : (cell : Cell) (test : Score → Bool) (range : ScoreRange) (own : GoalRange)
    → ((score : Score) → allows cell score ≡ true → test score ≡ true)
    → IsScoreRangeOf cell test range
    → own.least ≡ range.home_least → own.most ≡ range.home_most → AreGoalsOf cell false own
home_goals_are cell test range own all is least most = record {
  within = λ score allowed.
      let between = is.within score (record { allowed = allowed; passed = all score allowed }) in
      (omega arith, omega arith);
  least = (is.home_least.0, is.home_least.1.allowed, is.home_least.2 ∙ sym least);
  most = (is.home_most.0, is.home_most.1.allowed, is.home_most.2 ∙ sym most);
}

pub away_goals_are : (cell : Cell) (test : Score → Bool) (range : ScoreRange) (own : GoalRange)
    → ((score : Score) → allows cell score ≡ true → test score ≡ true)
    → IsScoreRangeOf cell test range
    → own.least ≡ range.away_least → own.most ≡ range.away_most → AreGoalsOf cell true own
away_goals_are cell test range own all is least most = record {
  within = λ score allowed.
      let between = is.within score (record { allowed = allowed; passed = all score allowed }) in
      (omega arith, omega arith);
  least = (is.away_least.0, is.away_least.1.allowed, is.away_least.2 ∙ sym least);
  most = (is.away_most.0, is.away_most.1.allowed, is.away_most.2 ∙ sym most);
}

-- a cell without a home win, a draw and an away win has no score
pub none_of_three : (cell : Cell) → AllowsNone cell is_home_win → AllowsNone cell is_draw
    → AllowsNone cell is_away_win → IsEmptyCell cell
none_of_three cell home draw away score =
    false_from_ne_true (allows cell score) (λ allowed.
    outcome_cases {P = ⊥} score
    (λ passed. home score (record { allowed = allowed; passed = passed }))
    (λ passed. draw score (record { allowed = allowed; passed = passed }))
    (λ passed. away score (record { allowed = allowed; passed = passed })))
