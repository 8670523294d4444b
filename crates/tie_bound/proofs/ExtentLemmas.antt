-- Exact ranges over the scores of a cell: the goals of a side, and how far from zero they are.
use Rattle.std.proofs.Common.{◌≡◌, ℕ, ◌≤◌, ℤ, pos, Bool, true, List, [], ◌∷◌}
use Rattle.std.proofs.Common.{refl, sym, ap, ◌∙◌, arith}
use Rattle.std.proofs.lemmas.Int.{ints}
use Rattle.std.proofs.lemmas.Bool.{false≢true}
use Rattle.league_core.specs.declared.season.Score.{Score}
use Rattle.league_core.specs.search.PointRanges.{Range}
use Rattle.league_core.specs.inside.Extents.{IsExtent, IsNearZero}
use Rattle.league_core.proofs.ExtentLemmas.{extent_near}
use Rattle.league_core.proofs.OptionLemmas.{has_score-first}
use Rattle.league_core.proofs.WorthLemmas.{points_near, difference_near, goals_near}
use Rattle.league_core.proofs.WorthLemmas.{away_goals_near, wins_near, away_wins_near}
use Rattle.tie_criteria.specs.declared.measure.Measure.{Measure}
use Rattle.tie_criteria.specs.declared.measure.Measure.TheVariants.{Points, Difference, Goals}
use Rattle.tie_criteria.specs.declared.measure.Measure.TheVariants.{AwayGoals, Wins, AwayWins}
use Rattle.tie_criteria.specs.inside.Measures.{worth_of}
use Rattle.score_box.specs.declared.cell.Cell.{Cell}
use Rattle.score_box.specs.inside.Cells.{allows, IsCellOf, IsEmptyCell}
use Rattle.tie_bound.specs.declared.int_range.GoalRange.{GoalRange}
use Rattle.tie_bound.specs.inside.IntRanges.{IsRangeNear}
use Rattle.tie_bound.specs.inside.Sides.{goals_by, AreGoalsOf}

-- the goals of a side
pub goals_extent : (cell : Cell) (away : Bool) (goals : GoalRange) → AreGoalsOf cell away goals
    → IsExtent (allows cell) (λ score. pos (goals_by away score))
    (record { least = pos goals.least; greatest = pos goals.most })
goals_extent cell away goals are = record {
  within = λ score is.
      let between = are.within score is in (omega (arith, ints), omega (arith, ints));
  least = (are.least.0, are.least.1, ap pos are.least.2);
  greatest = (are.most.0, are.most.1, ap pos are.most.2);
}

-- if all values are near zero, so are the ends
pub near_extent : (cell : Cell) (value : Score → ℤ) (range : Range)
    → IsExtent (allows cell) value range
    → ((score : Score) → allows cell score ≡ true → IsNearZero 255 (value score))
    → IsRangeNear 255 range
near_extent cell value range extent near =
    let ends = extent_near 255 (allows cell) value range extent near in
    record {
      least_above = ends.0.0;
      least_below = ends.0.1;
      greatest_above = ends.1.0;
      greatest_below = ends.1.1;
    }

-- no match is worth more than 255 to a side that scores no more goals
pub worth_near : (measure : Measure) (scored conceded : ℕ) (away : Bool) → scored ≤ 255
    → conceded ≤ 255 → IsNearZero 255 (worth_of measure scored conceded away)
worth_near Points scored conceded away s c = points_near 255 scored conceded away (omega arith)
worth_near Difference scored conceded away s c = difference_near 255 scored conceded away s c
worth_near Goals scored conceded away s c = goals_near 255 scored conceded away s
worth_near AwayGoals scored conceded away s c = away_goals_near 255 scored conceded away s
worth_near Wins scored conceded away s c = wins_near 255 scored conceded away (omega arith)
worth_near AwayWins scored conceded away s c =
    away_wins_near 255 scored conceded away (omega arith)

-- a cell without a score has no options
pub no_options : (cell : Cell) (options : List Score) → IsCellOf cell options → IsEmptyCell cell
    → options ≡ []
no_options cell [] is empty = refl
no_options cell (score ∷ options) is empty =
    absurd (false≢true (sym (empty score) ∙ is score ∙ has_score-first score options))
