-- Tables of the clubs' sums over the matches that are played: each sum has one value.
use Rattle.std.specs.Prelude.{◌≡◌, ℕ, List, Option}
use Rattle.league_core.specs.declared.sheet.Fixture.{Fixture}
use Rattle.league_core.specs.declared.season.Score.{Score}
use Rattle.league_core.specs.game.Sums.{sum_over}
use Rattle.league_core.specs.search.PointRanges.{one_value}
use Rattle.tie_criteria.specs.declared.measure.Measure.{Measure}
use Rattle.tie_criteria.specs.declared.measure.Measure.TheVariants.{Points, Difference, Goals}
use Rattle.tie_criteria.specs.declared.measure.Measure.TheVariants.{AwayGoals, Wins, AwayWins}
use Rattle.tie_criteria.specs.inside.Measures.{worth_of}
use Rattle.score_box.specs.inside.Totals.{Column, points_column, difference_column, goals_column}
use Rattle.score_box.specs.inside.Totals.{away_goals_column, wins_column, away_wins_column}
use Rattle.tie_bound.specs.declared.sums.Sums.{Sums}
use Rattle.tie_bound.specs.inside.Sums.{range_by, sums_at, AreNear}
use Rattle.tie_bound.specs.inside.Tables.{Value}

-- the column of a measure in a row of totals
abbrev pub column_of : Measure → Column
column_of Points = points_column
column_of Difference = difference_column
column_of Goals = goals_column
column_of AwayGoals = away_goals_column
column_of Wins = wins_column
column_of AwayWins = away_wins_column

-- these sums are what the club's played matches add up to
pub record IsRow (value : Value) (fixtures : List Fixture) (scores : List (Option Score))
    (club : ℕ) (sums : Sums) : Type 0 where
  pub each : (measure : Measure) → range_by sums measure
      ≡ one_value (sum_over (value (worth_of measure) club) fixtures scores)
  pub near : AreNear 5000000 sums

-- the table has such sums for each club
abbrev pub AreRows : Value → List Fixture → List (Option Score) → List Sums → Type 0
AreRows value fixtures scores table =
    (club : ℕ) → IsRow value fixtures scores club (sums_at table club)
