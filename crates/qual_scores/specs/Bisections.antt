-- How the two numbers are looked for: by halving a range, a window question for each middle. If a
-- budget is spent the range that is reached is all that is known, so which ranges can be reached is
-- fixed here, by the numbers alone and not by how the search went.
use Rattle.std.specs.Prelude.{◌≡◌, ◌⊎◌, ℕ, ℤ, pos, ◌+ℤ◌, ◌≤ℤ◌, ◌<ℤ◌, [], ◌∷◌}
use Rattle.std.specs.Int.{int_max}
use Rattle.league_core.specs.declared.sheet.Sheet.{Sheet}
use Rattle.league_core.specs.declared.question.Claim.{Claim}
use Rattle.league_core.specs.declared.question.Claim.TheVariants.{Inside, Outside}
use Rattle.league_core.specs.declared.question.Question.{Question}
use Rattle.league_core.specs.game.Limits.{least_points, most_points}
use Rattle.league_core.specs.game.Results.{Results}
use Rattle.league_core.specs.search.PointRanges.{least_points_of, most_points_of}
use Rattle.qual_scores.specs.declared.point_range.PointRange.{PointRange}
use Rattle.qual_scores.specs.Scores.{CanBeInsideWith, IsInsideFrom, question_between}

-- what is true of the points that a number is the least of: for `Inside` the possible score, for
-- `Outside` the guaranteed one
abbrev pub HoldsOfPoints : Sheet → Results → ℕ → ℕ → Claim → ℤ → Type 0
HoldsOfPoints sheet season club line Inside points =
    CanBeInsideWith sheet season club line points
HoldsOfPoints sheet season club line Outside points =
    IsInsideFrom sheet season club line points

-- the window question of a number at some points: whether the club can be inside with at most so
-- many, or outside with at least so many
abbrev pub window_question : ℕ → ℕ → Claim → ℤ → Question
window_question club line Inside points =
    question_between club line Inside least_points points
window_question club line Outside points =
    question_between club line Outside points most_points

-- the first range of the possible score: from the least to the most points that the club can reach.
-- That of the guaranteed score: from 0 to one point more than it can reach, and to 0 at least
abbrev pub first_range : Sheet → Results → ℕ → Claim → PointRange
first_range sheet season club Inside = record {
  low = least_points_of sheet season [] (club ∷ []);
  high = most_points_of sheet season [] (club ∷ []);
}
first_range sheet season club Outside = record {
  low = pos 0;
  high = int_max (pos 0) (most_points_of sheet season [] (club ∷ []) +ℤ pos 1);
}

-- half the sum of both ends, rounded down
pub record IsMiddleOf (range : PointRange) (middle : ℤ) : Type 0 where
  pub not_above : (middle +ℤ middle) ≤ℤ (range.low +ℤ range.high)
  pub rounded_down : (range.low +ℤ range.high) ≤ℤ (middle +ℤ middle +ℤ pos 1)

-- it is true of some points that are not above the bound: the least of which it is true is not
-- above the bound either
abbrev pub IsNotAbove : (ℤ → Type 0) → ℤ → Type 0
IsNotAbove Holds bound = (points : ℤ) × Holds points × (points ≤ℤ bound)

-- the ranges on the way to the least number of which something is true. A range with more than one
-- number is halved: if the least number is not above the middle the upper end moves there,
-- otherwise, and if there is no such number, the lower end moves after the middle
pub data IsOnTheWay (Holds : ℤ → Type 0) (first : PointRange) : PointRange → Type 0 where
  at_first : IsOnTheWay Holds first first
  to_lower_half : (range : PointRange) (middle : ℤ) → IsOnTheWay Holds first range
      → range.low <ℤ range.high → IsMiddleOf range middle → IsNotAbove Holds middle
      → IsOnTheWay Holds first (record { low = range.low; high = middle })
  to_upper_half : (range : PointRange) (middle : ℤ) → IsOnTheWay Holds first range
      → range.low <ℤ range.high → IsMiddleOf range middle → ¬ IsNotAbove Holds middle
      → IsOnTheWay Holds first (record { low = middle +ℤ pos 1; high = range.high })

-- the window question at the middle of a range with more than one number, on the way
pub record IsAskedHalfway (Holds : ℤ → Type 0) (first range : PointRange) (points : ℤ)
    : Type 0 where
  pub on_the_way : IsOnTheWay Holds first range
  pub several : range.low <ℤ range.high
  pub middle : IsMiddleOf range points

-- the window question at the upper end of the first range, which comes first
pub record IsAskedFirst (first range : PointRange) (points : ℤ) : Type 0 where
  pub is_first : range ≡ first
  pub at_high : points ≡ range.high

-- if the window question at these points is spent, this is the range that is left. The first
-- question is asked of the possible score alone: nobody has more points than the most that can be
-- reached, so the upper end of the other number's first range needs none
abbrev pub ShowsRange : Sheet → Results → ℕ → ℕ → Claim → PointRange → ℤ → Type 0
ShowsRange sheet season club line Inside range points =
    IsAskedHalfway (HoldsOfPoints sheet season club line Inside)
    (first_range sheet season club Inside) range points
    ⊎ IsAskedFirst (first_range sheet season club Inside) range points
ShowsRange sheet season club line Outside range points =
    IsAskedHalfway (HoldsOfPoints sheet season club line Outside)
    (first_range sheet season club Outside) range points
