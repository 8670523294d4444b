-- A question: whether a club can end inside a line, or outside it, with its points in a window; and
-- the examples that answer it.
use Rattle.std.specs.Prelude.{ℕ, ℤ, ◌<◌, ◌≤◌, Bool, not, ◌&&◌, int_le, IsTrue, List, length}
use Rattle.league_core.specs.declared.sheet.Sheet.{Sheet}
use Rattle.league_core.specs.declared.question.Claim.{Claim}
use Rattle.league_core.specs.declared.question.Claim.TheVariants.{Inside, Outside}
use Rattle.league_core.specs.declared.question.Question.{Question}
use Rattle.league_core.specs.game.Limits.{least_points, most_points}
use Rattle.league_core.specs.game.Results.{Results}
use Rattle.league_core.specs.game.Sums.{points_of}
use Rattle.league_core.specs.game.Ranking.{is_inside, are_lots}
use Rattle.league_core.specs.game.Finishes.{IsFinishOf}

-- a place inside the line is on the side of `Inside`, another on the side of `Outside`
abbrev pub is_on_side : Bool → Claim → Bool
is_on_side inside Inside = inside
is_on_side inside Outside = not inside

-- the club's points are in the question's window
abbrev pub is_in_window : Question → ℤ → Bool
is_in_window question points = int_le question.low points && int_le points question.high

-- the question holds at this finish with these lots
abbrev pub holds_at : Sheet → Question → Results → List ℕ → Bool
holds_at sheet question finish lots =
    is_in_window question (points_of sheet finish question.club)
    && is_on_side (is_inside sheet finish lots question.club question.line) question.claim

-- a finish of the season, and lots of all clubs, at which the question holds
pub record IsExample (sheet : Sheet) (season : Results) (question : Question) (finish : Results)
    (lots : List ℕ) : Type 0 where
  pub is_finish : IsFinishOf sheet season finish
  pub is_drawn : IsTrue (are_lots (length sheet.clubs) lots)
  pub holds : IsTrue (holds_at sheet question finish lots)

-- a question about one of the sheet's clubs, and about a line that leaves clubs on both its sides
pub record IsQuestionOf (sheet : Sheet) (question : Question) : Type 0 where
  pub club : question.club < length sheet.clubs
  pub least_line : 1 ≤ question.line
  pub most_line : question.line < length sheet.clubs

-- the question about a club and a line with the full window: no points fall out of it, for a sheet
-- within the limits and deductions of at most 99
abbrev pub full_question : ℕ → ℕ → Claim → Question
full_question club line claim =
    record { club = club; line = line; claim = claim; low = least_points; high = most_points }
