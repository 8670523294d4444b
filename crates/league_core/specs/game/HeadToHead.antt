-- The head-to-head record of a club in a group of clubs, after the UEFA group criteria of 2021/22:
-- match points, then goal difference, then goals, from the matches among the clubs of the group
-- alone. Deductions do not count here.
use Rattle.std.specs.Prelude.{ℕ, ℤ, List, [], ◌∷◌, filter, Bool}
use Rattle.std.specs.declared.cmp.Ordering.{Ordering}
use Rattle.std.specs.Ordering.{int_cmp, is_eq}
use Rattle.std.specs.Cmp.Lexicographic.{slice_cmp}
use Rattle.league_core.specs.declared.sheet.Sheet.{Sheet}
use Rattle.league_core.specs.game.Results.{Results}
use Rattle.league_core.specs.game.Sums.{sum_among, match_points, goal_difference, goals}

-- the greater number comes first
abbrev pub greater_first : ℤ → ℤ → Ordering
greater_first number other = int_cmp other number

-- of two lists the one that is greater at the first difference comes first
abbrev pub by_first_difference : List ℤ → List ℤ → Ordering
by_first_difference = slice_cmp greater_first

-- match points, goal difference and goals in the matches of the group
abbrev pub head_to_head_of : Sheet → Results → List ℕ → ℕ → List ℤ
head_to_head_of sheet season group club =
    sum_among group match_points sheet season club
    ∷ sum_among group goal_difference sheet season club
    ∷ sum_among group goals sheet season club
    ∷ []

-- Less if the one club's record in the group is the greater
abbrev pub by_head_to_head : Sheet → Results → List ℕ → ℕ → ℕ → Ordering
by_head_to_head sheet season group club other =
    by_first_difference (head_to_head_of sheet season group club)
    (head_to_head_of sheet season group other)

-- both clubs have one record in the group
abbrev pub are_level_in : Sheet → Results → List ℕ → ℕ → ℕ → Bool
are_level_in sheet season group club other = is_eq (by_head_to_head sheet season group other club)

-- the clubs of the group that have the club's record there
abbrev pub level_with : Sheet → Results → List ℕ → ℕ → List ℕ
level_with sheet season group club = filter (are_level_in sheet season group club) group
