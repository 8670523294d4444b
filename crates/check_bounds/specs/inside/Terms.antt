-- What is looked at in a score: what it is worth to one side by one of the six measures, or the
-- match points that it gives to the sides that count.
use Rattle.std.specs.Prelude.{ℤ, Bool, true, false}
use Rattle.league_core.specs.declared.season.Score.{Score}
use Rattle.league_core.specs.game.Sums.{Worth, match_points, goal_difference, goals, away_goals}
use Rattle.league_core.specs.game.Sums.{wins, away_wins}
use Rattle.league_core.specs.search.PointRanges.{points_of_sides}
use Rattle.check_bounds.specs.declared.term.Measure.{Measure}
use Rattle.check_bounds.specs.declared.term.Measure.TheVariants as kind
use Rattle.check_bounds.specs.declared.term.Term.{Term}
use Rattle.check_bounds.specs.declared.term.Term.TheVariants as look

-- the worth that a kind names
abbrev pub worth_by : Measure → Worth
worth_by kind.Points = match_points
worth_by kind.Difference = goal_difference
worth_by kind.Goals = goals
worth_by kind.AwayGoals = away_goals
worth_by kind.Wins = wins
worth_by kind.AwayWins = away_wins

-- what a score is worth to the away side, or to the home side
abbrev pub side_worth : Measure → Bool → Score → ℤ
side_worth kind true score = worth_by kind score.away score.home true
side_worth kind false score = worth_by kind score.home score.away false

-- the number that a look sees in a score
abbrev pub term_value : Term → Score → ℤ
term_value (look.Side kind away) score = side_worth kind away score
term_value (look.Both home away) score = points_of_sides home away score
