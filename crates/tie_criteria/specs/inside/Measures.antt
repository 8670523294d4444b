-- The measures of a club's matches: which worth each adds up, and over which matches.
use Rattle.std.specs.Prelude.{ℕ, ℤ}
use Rattle.league_core.specs.declared.sheet.Fixture.{Fixture}
use Rattle.league_core.specs.declared.season.Score.{Score}
use Rattle.league_core.specs.game.Sums.{Worth, match_points, goal_difference, goals, away_goals}
use Rattle.league_core.specs.game.Sums.{wins, away_wins, worth_to, worth_among}
use Rattle.league_core.specs.game.ClubSets.{clubs_in}
use Rattle.tie_criteria.specs.declared.measure.Measure.{Measure}
use Rattle.tie_criteria.specs.declared.measure.Measure.TheVariants.{Points, Difference, Goals}
use Rattle.tie_criteria.specs.declared.measure.Measure.TheVariants.{AwayGoals, Wins, AwayWins}
use Rattle.tie_criteria.specs.declared.measure.Matches.{Matches}
use Rattle.tie_criteria.specs.declared.measure.Matches.TheVariants.{All, Among}

-- what a match is worth by the measure
abbrev pub worth_of : Measure → Worth
worth_of Points = match_points
worth_of Difference = goal_difference
worth_of Goals = goals
worth_of AwayGoals = away_goals
worth_of Wins = wins
worth_of AwayWins = away_wins

-- what a match is worth to a club if only these matches count
abbrev pub value_in : Matches → Worth → ℕ → Fixture → Score → ℤ
value_in All worth club = worth_to worth club
value_in (Among group) worth club = worth_among (clubs_in group) worth club
