-- What is left of a match: a set of outcomes, and a range of goals for each side; and the score
-- that is worst for a side.
use Rattle.std.specs.Prelude.{◌≡◌, ◌+◌, ◌<◌, ◌≤◌, ◌⊎◌, Bool, true, false, ◌&&◌, nat_le}
use Rattle.std.specs.Prelude.{if◌then◌else◌, List, Option, MatchOption}
use Rattle.league_core.specs.declared.season.Score.{Score}
use Rattle.league_core.specs.search.Options.{is_home_win, is_draw, has_score}
use Rattle.near_bound.specs.declared.match_left.MatchLeft.{MatchLeft}

-- the goals of both sides are in their ranges
abbrev pub are_goals_left : MatchLeft → Score → Bool
are_goals_left left score =
    (nat_le left.home_least score.home && nat_le score.home left.home_most)
    && (nat_le left.away_least score.away && nat_le score.away left.away_most)

-- the score's outcome is left
abbrev pub is_outcome_left : MatchLeft → Score → Bool
is_outcome_left left score =
    if is_home_win score then left.home_win else if is_draw score then left.draw else left.away_win

-- the score is left
abbrev pub is_score_left : MatchLeft → Score → Bool
is_score_left left score = are_goals_left left score && is_outcome_left left score

-- the scores that are left are these options
abbrev pub IsLeftOf : MatchLeft → List Score → Type 0
IsLeftOf left options = (score : Score) → is_score_left left score ≡ has_score options score

-- the score with its sides exchanged
abbrev pub turned : Score → Score
turned score = record { home = score.away; away = score.home }

-- by the home side's goals: with `many` the score has as many as the other or more, without it as
-- many or fewer
abbrev pub has_goals_as : Bool → Score → Score → Type 0
has_goals_as true score other = other.home ≤ score.home
has_goals_as false score other = score.home ≤ other.home

-- for the home side the score is as bad as the other: it has a lesser goal difference, or the same
-- one and the goals that are asked for
abbrev pub IsAsBad : Bool → Score → Score → Type 0
IsAsBad many score other =
    (score.home + other.away < other.home + score.away)
    ⊎ ((score.home + other.away ≡ other.home + score.away) × has_goals_as many score other)

-- none of the scores that are left passes
abbrev pub LeavesNone : MatchLeft → (Score → Bool) → Type 0
LeavesNone left passes =
    (score : Score) → is_score_left left score ≡ true → passes score ≡ true → ⊥

-- whether one of them does
abbrev pub HasAny : MatchLeft → (Score → Bool) → Bool → Type 0
HasAny left passes true =
    (score : Score) × (is_score_left left score ≡ true) × (passes score ≡ true)
HasAny left passes false = LeavesNone left passes

-- of the scores that are left and pass this is the worst for the home side
pub record IsWorstOf (left : MatchLeft) (many : Bool) (passes : Score → Bool) (worst : Score)
    : Type 0 where
  pub is_left : is_score_left left worst ≡ true
  pub is_one : passes worst ≡ true
  pub least : (score : Score) → is_score_left left score ≡ true → passes score ≡ true
      → IsAsBad many worst score

-- the worst score that passes, if one does
abbrev pub IsWorstIfAny : MatchLeft → Bool → (Score → Bool) → Option Score → Type 0
IsWorstIfAny left many passes found =
    MatchOption found (LeavesNone left passes) (IsWorstOf left many passes)

-- the worst score for one of the two sides, the away side if `away` is true
pub record IsWorstFor (left : MatchLeft) (away many : Bool) (worst : Score) : Type 0 where
  pub is_left : is_score_left left worst ≡ true
  pub least : (score : Score) → is_score_left left score ≡ true
      → IsAsBad many (if away then turned worst else worst) (if away then turned score else score)

-- no score is left
abbrev pub IsNothing : MatchLeft → Type 0
IsNothing left = (score : Score) → is_score_left left score ≡ false

-- no two scores are left
abbrev pub LeavesOneAtMost : MatchLeft → Type 0
LeavesOneAtMost left =
    (score other : Score) → is_score_left left score ≡ true → is_score_left left other ≡ true
    → score ≡ other
