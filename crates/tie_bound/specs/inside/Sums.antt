-- The ranges of a club's sums, by measure, and tables of them by the clubs' numbers.
use Rattle.std.specs.Prelude.{◌≡◌, ℕ, ◌+◌, pos, List, slice_index_or}
use Rattle.league_core.specs.search.PointRanges.{Range, added}
use Rattle.tie_criteria.specs.declared.measure.Measure.{Measure}
use Rattle.tie_criteria.specs.declared.measure.Measure.TheVariants.{Points, Difference, Goals}
use Rattle.tie_criteria.specs.declared.measure.Measure.TheVariants.{AwayGoals, Wins, AwayWins}
use Rattle.tie_bound.specs.declared.int_range.IntRange.{IntRange}
use Rattle.tie_bound.specs.declared.sums.Sums.{Sums}
use Rattle.tie_bound.specs.inside.IntRanges.{as_range, IsRangeNear}

-- the range of the sum by a measure
abbrev pub range_by : Sums → Measure → Range
range_by sums Points = as_range sums.points
range_by sums Difference = as_range sums.difference
range_by sums Goals = as_range sums.goals
range_by sums AwayGoals = as_range sums.away_goals
range_by sums Wins = as_range sums.wins
range_by sums AwayWins = as_range sums.away_wins

-- the range of a sum that has nothing in it
abbrev pub nothing : IntRange
nothing = record { least = pos 0; greatest = pos 0 }

-- the sums of a club without a match
abbrev pub no_sums : Sums
no_sums = record {
  points = nothing;
  difference = nothing;
  goals = nothing;
  away_goals = nothing;
  wins = nothing;
  away_wins = nothing;
}

-- the sums at a club's number
abbrev pub sums_at : List Sums → ℕ → Sums
sums_at table club = slice_index_or table club no_sums

-- all of a club's sums are near zero
abbrev pub AreNear : ℕ → Sums → Type 0
AreNear bound sums = (measure : Measure) → IsRangeNear bound (range_by sums measure)

-- each sum grows by what a match adds to it
pub record RangesGrowBy (value : Measure → Range) (old new : Sums) : Type 0 where
  pub sums : (measure : Measure) → range_by new measure ≡ added (range_by old measure)
      (value measure)
  pub near : (bound : ℕ) → AreNear bound old → AreNear (bound + 255) new
