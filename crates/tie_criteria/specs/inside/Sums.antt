-- A club's sums by the six measures, and how far from zero a sum may be.
use Rattle.std.specs.Prelude.{ℕ, ℤ, pos, neg_ℤ, ◌≤ℤ◌}
use Rattle.tie_criteria.specs.declared.measure.Measure.{Measure}
use Rattle.tie_criteria.specs.declared.measure.Measure.TheVariants.{Points, Difference, Goals}
use Rattle.tie_criteria.specs.declared.measure.Measure.TheVariants.{AwayGoals, Wins, AwayWins}
use Rattle.tie_criteria.specs.declared.sums.Sums.{Sums}

-- the sum by the measure
abbrev pub sum_by : Sums → Measure → ℤ
sum_by sums Points = sums.points
sum_by sums Difference = sums.difference
sum_by sums Goals = sums.goals
sum_by sums AwayGoals = sums.away_goals
sum_by sums Wins = sums.wins
sum_by sums AwayWins = sums.away_wins

-- the sum is at most this far from zero
pub record IsNear (bound : ℕ) (sum : ℤ) : Type 0 where
  pub least : neg_ℤ (pos bound) ≤ℤ sum
  pub most : sum ≤ℤ pos bound
