-- What is left of a club's key, with the extremes of the fixtures in place of their options.
use Rattle.std.specs.Prelude.{◌≡◌, ℕ, List, [], ◌∷◌, map}
use Rattle.league_core.specs.declared.sheet.Sheet.{Sheet}
use Rattle.league_core.specs.declared.season.Score.{Score}
use Rattle.league_core.specs.game.Results.{Results}
use Rattle.league_core.specs.game.Sums.{goal_difference, goals, away_goals, wins, away_wins}
use Rattle.league_core.specs.search.PointRanges.{Range, one_value, points_range}
use Rattle.league_core.specs.search.SureOrder.{range_over}
use Rattle.league_core.specs.search.Keys.{rank_part}
use Rattle.club_keys.specs.declared.key_ends.KeyEnds.{KeyEnds}
use Rattle.club_keys.specs.inside.KeyEnds.{key_parts}

-- the parts of a club's key: what the extremes of each fixture leave of each sum
abbrev pub key_ranges_over : Sheet → Results → List (List Score) → ℕ → List Range
key_ranges_over sheet season corners club =
    points_range sheet season corners (club ∷ [])
    ∷ range_over goal_difference sheet corners club
    ∷ range_over goals sheet corners club
    ∷ range_over away_goals sheet corners club
    ∷ range_over wins sheet corners club
    ∷ range_over away_wins sheet corners club
    ∷ one_value (rank_part sheet club)
    ∷ []

-- each part of the one key is the least of its range, and of the other the greatest
pub record AreEndsOver (sheet : Sheet) (season : Results) (corners : List (List Score)) (club : ℕ)
    (ends : KeyEnds) : Type 0 where
  pub low : key_parts ends.low
      ≡ map (λ range. range.least) (key_ranges_over sheet season corners club)
  pub high : key_parts ends.high
      ≡ map (λ range. range.greatest) (key_ranges_over sheet season corners club)
