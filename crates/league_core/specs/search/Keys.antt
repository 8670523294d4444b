-- The key of a club: by what it is compared with clubs of other groups, with which it has no match
-- and no table in common. Its parts are the sums over all matches in the order in which they decide
-- a group; the fixed rank is this project's own step. In a zone each part has a least and a
-- greatest value.
use Rattle.std.specs.Prelude.{◌≤ℤ◌, ℕ, ℤ, pos, ◌-ℤ◌, Bool, List, [], ◌∷◌, map}
use Rattle.std.specs.Ordering.{is_le}
use Rattle.league_core.specs.declared.sheet.Sheet.{Sheet}
use Rattle.league_core.specs.declared.zone.Literal.{Literal}
use Rattle.league_core.specs.game.Results.{Results}
use Rattle.league_core.specs.game.Sums.{sum_of, points_of, goal_difference, goals, away_goals, wins}
use Rattle.league_core.specs.game.Sums.{away_wins}
use Rattle.league_core.specs.game.HeadToHead.{by_first_difference}
use Rattle.league_core.specs.game.Ahead.{rank_of}
use Rattle.league_core.specs.search.Options.{options_in}
use Rattle.league_core.specs.search.PointRanges.{Range, one_value, points_range}
use Rattle.league_core.specs.search.SureOrder.{range_over}

-- the last part: a thousand less the fixed rank, so that the lower rank has the greater number
abbrev pub rank_part : Sheet → ℕ → ℤ
rank_part sheet club = pos 1000 -ℤ pos (rank_of sheet club)

-- points, less what is taken off; then goal difference, goals, away goals, wins and away wins over
-- all matches; then the part of the fixed rank
abbrev pub key_of : Sheet → Results → ℕ → List ℤ
key_of sheet finish club =
    points_of sheet finish club
    ∷ sum_of goal_difference sheet finish club
    ∷ sum_of goals sheet finish club
    ∷ sum_of away_goals sheet finish club
    ∷ sum_of wins sheet finish club
    ∷ sum_of away_wins sheet finish club
    ∷ rank_part sheet club
    ∷ []

-- the key is as great as the least one, or greater: it has the greater number in the first part in
-- which they differ
abbrev pub is_key_from : List ℤ → List ℤ → Bool
is_key_from least key = is_le (by_first_difference key least)

-- the parts of a club's key in a zone: what the options of each fixture leave of each sum
abbrev pub key_ranges : Sheet → Results → List Literal → ℕ → List Range
key_ranges sheet season zone club =
    let options = options_in sheet season zone in
    points_range sheet season options (club ∷ [])
    ∷ range_over goal_difference sheet options club
    ∷ range_over goals sheet options club
    ∷ range_over away_goals sheet options club
    ∷ range_over wins sheet options club
    ∷ range_over away_wins sheet options club
    ∷ one_value (rank_part sheet club)
    ∷ []

-- in each part the least contributions of the options, added over the fixtures; meant for a zone
-- that has a finish. Marks do not count here, and no one finish need have all these parts
unfoldable pub low_key : Sheet → Results → List Literal → ℕ → List ℤ
low_key sheet season zone club = map (λ range. range.least) (key_ranges sheet season zone club)

-- in each part the greatest contributions, in the same way
unfoldable pub high_key : Sheet → Results → List Literal → ℕ → List ℤ
high_key sheet season zone club =
    map (λ range. range.greatest) (key_ranges sheet season zone club)

-- each part of the one key is at most that part of the other, and there are as many
abbrev pub AreAtMost : List ℤ → List ℤ → Type 0
AreAtMost [] [] = Unit {0}
AreAtMost [] (other ∷ others) = ⊥
AreAtMost (part ∷ parts) [] = ⊥
AreAtMost (part ∷ parts) (other ∷ others) = (part ≤ℤ other) × AreAtMost parts others
