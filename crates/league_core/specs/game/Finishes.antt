-- A finish: one way in which the season may end. What is played stays; what is not may still end
-- with up to the goal limit on each side.
use Rattle.std.specs.Prelude.{◌≡◌, ℕ, Bool, true, false, ◌&&◌, ◌==◌, nat_le, IsTrue, List, [], ◌∷◌}
use Rattle.std.specs.Prelude.{Option, Some, None, is_some}
use Rattle.std.specs.List.{list_all}
use Rattle.league_core.specs.declared.sheet.Sheet.{Sheet}
use Rattle.league_core.specs.declared.season.Score.{Score}
use Rattle.league_core.specs.game.Results.{Results}

-- the two scores are the same, side by side
abbrev pub same_score : Score → Score → Bool
same_score score other = (score.home == other.home) && (score.away == other.away)

-- a fixture that was played ends with its score; another with at most so many goals a side
abbrev pub may_end : ℕ → Option Score → Option Score → Bool
may_end limit played None = false
may_end limit (Some played) (Some ended) = same_score played ended
may_end limit None (Some ended) = nat_le ended.home limit && nat_le ended.away limit

-- each fixture ends as it may, and no other fixture ends
abbrev pub may_all_end : ℕ → List (Option Score) → List (Option Score) → Bool
may_all_end limit [] [] = true
may_all_end limit [] (ended ∷ finish) = false
may_all_end limit (played ∷ season) [] = false
may_all_end limit (played ∷ season) (ended ∷ finish) =
    may_end limit played ended && may_all_end limit season finish

-- the finish has the season's deductions, and each of its fixtures ends as it may
pub record IsFinishOf (sheet : Sheet) (season finish : Results) : Type 0 where
  pub deductions : finish.deductions ≡ season.deductions
  pub scores : IsTrue (may_all_end sheet.goal_limit season.scores finish.scores)

-- every fixture has a score
abbrev pub is_played : Results → Bool
is_played season = list_all is_some season.scores
