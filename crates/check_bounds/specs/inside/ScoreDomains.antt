-- Domains: the scores with which a fixture may still end, as the outcomes that are left and a range
-- of goals for each side.
use Rattle.std.specs.Prelude.{◌≡◌, ℕ, Bool, ◌&&◌, ◌||◌, nat_le, List}
use Rattle.league_core.specs.declared.season.Score.{Score}
use Rattle.league_core.specs.search.Options.{is_home_win, is_draw, is_away_win, has_score}
use Rattle.check_bounds.specs.declared.score_domain.GoalRange.{GoalRange}
use Rattle.check_bounds.specs.declared.score_domain.ScoreDomain.{ScoreDomain}

-- so many goals are in the range
abbrev pub is_goals_of : GoalRange → ℕ → Bool
is_goals_of goals number = nat_le goals.least number && nat_le number goals.most

-- the score's outcome is left
abbrev pub leaves_outcome : ScoreDomain → Score → Bool
leaves_outcome scope score =
    (scope.home_win && is_home_win score) || (scope.draw && is_draw score)
    || (scope.away_win && is_away_win score)

-- the score is one of those that are left
abbrev pub is_left : ScoreDomain → Score → Bool
is_left scope score =
    is_goals_of scope.home score.home && is_goals_of scope.away score.away
    && leaves_outcome scope score

-- the domain has these options, and no other score
abbrev pub IsScoreDomainOf : ScoreDomain → List Score → Type 0
IsScoreDomainOf scope options = (score : Score) → is_left scope score ≡ has_score options score
