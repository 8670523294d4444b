-- The two numbers of a club and a line, as they are asked of a league that is played, here over the
-- full criteria. The possible qualification score is the least number of points with which the club
-- can still be inside the line; the guaranteed one is the least number of points, from 0 on, with
-- which it is inside whatever else happens.
use Rattle.std.specs.Prelude.{ℕ, ℤ, pos, ◌≤ℤ◌}
use Rattle.league_core.specs.declared.sheet.Sheet.{Sheet}
use Rattle.league_core.specs.declared.question.Claim.{Claim}
use Rattle.league_core.specs.declared.question.Claim.TheVariants.{Inside, Outside}
use Rattle.league_core.specs.declared.question.Question.{Question}
use Rattle.league_core.specs.game.Limits.{most_points}
use Rattle.league_core.specs.game.Results.{Results}
use Rattle.league_core.specs.game.Verdicts.{HasExample, HasNoExample}

-- whether the club can end on the claim's side of the line with points between these two
abbrev pub question_between : ℕ → ℕ → Claim → ℤ → ℤ → Question
question_between club line claim low high =
    record { club = club; line = line; claim = claim; low = low; high = high }

-- some finish and some lots take the club inside the line with exactly so many points
abbrev pub CanBeInsideWith : Sheet → Results → ℕ → ℕ → ℤ → Type 0
CanBeInsideWith sheet season club line points =
    HasExample sheet season (question_between club line Inside points points)

-- the points are at least 0, and no finish in which the club has at least so many leaves it outside
-- the line, whatever the lots
abbrev pub IsInsideFrom : Sheet → Results → ℕ → ℕ → ℤ → Type 0
IsInsideFrom sheet season club line points =
    (pos 0 ≤ℤ points)
    × HasNoExample sheet season (question_between club line Outside points most_points)

-- the least number of which something is true
pub record IsLeastOf (Holds : ℤ → Type 0) (number : ℤ) : Type 0 where
  pub holds : Holds number
  pub least : (other : ℤ) → Holds other → number ≤ℤ other

-- the possible qualification score; negative if so many points are taken off
abbrev pub IsPossibleScore : Sheet → Results → ℕ → ℕ → ℤ → Type 0
IsPossibleScore sheet season club line points =
    IsLeastOf (CanBeInsideWith sheet season club line) points

-- there is none: the club cannot be inside the line with any points
abbrev pub HasNoPossibleScore : Sheet → Results → ℕ → ℕ → Type 0
HasNoPossibleScore sheet season club line =
    (points : ℤ) → ¬ CanBeInsideWith sheet season club line points

-- the guaranteed qualification score. There always is one; above the most points that the club can
-- reach it says that no score is enough
abbrev pub IsGuaranteedScore : Sheet → Results → ℕ → ℕ → ℤ → Type 0
IsGuaranteedScore sheet season club line points =
    IsLeastOf (IsInsideFrom sheet season club line) points
