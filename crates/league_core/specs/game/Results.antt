-- What has been played: the data of a season, or of one of its finishes, whichever events led to
-- it.
use Rattle.std.specs.Prelude.{ℕ, List, Bool, true, ◌&&◌, nat_le, Option, Some, None}
use Rattle.std.specs.List.{list_all}
use Rattle.league_core.specs.declared.season.Score.{Score}
use Rattle.league_core.specs.game.Limits.{most_goals, most_deduction}

-- for each fixture its score, or none if it is not played; for each club the points taken off
pub record Results : Type 0 where
  pub scores : List (Option Score)
  pub deductions : List ℕ

-- a side of a played match has 0 to 99 goals
abbrev pub is_score : Score → Bool
is_score score = nat_le score.home most_goals && nat_le score.away most_goals

-- no score, or one that a match may have
abbrev pub is_score_or_none : Option Score → Bool
is_score_or_none None = true
is_score_or_none (Some score) = is_score score

-- each score is one that a match may have, and no club has more than 99 points taken off
abbrev pub are_results : Results → Bool
are_results results =
    list_all is_score_or_none results.scores
    && list_all (λ points. nat_le points most_deduction) results.deductions
