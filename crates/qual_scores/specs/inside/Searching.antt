-- A search for one of the two numbers while it runs: what is known of the range that is left.
use Rattle.std.specs.Prelude.{◌≡◌, ℕ, ℤ, pos, ◌+ℤ◌, ◌≤ℤ◌, Bool, true, false, IsTrue}
use Rattle.std.specs.List.{list_all}
use Rattle.league_core.specs.declared.sheet.Sheet.{Sheet}
use Rattle.league_core.specs.declared.question.Claim.{Claim}
use Rattle.league_core.specs.declared.question.Claim.TheVariants.{Inside, Outside}
use Rattle.league_core.specs.declared.question.Question.{Question}
use Rattle.league_core.specs.game.Limits.{least_points, most_points}
use Rattle.league_core.specs.game.Results.{Results}
use Rattle.cert_text.specs.Ranges.{is_in_range}
use Rattle.qual_scores.specs.declared.point_range.PointRange.{PointRange}
use Rattle.qual_scores.specs.declared.window.ScoreQuery.{ScoreQuery}
use Rattle.qual_scores.specs.declared.window.WindowAnswer.{WindowAnswer}
use Rattle.qual_scores.specs.declared.window.WindowAnswer.TheVariants.{NotAbove, Above, Spent}
use Rattle.qual_scores.specs.Bisections.{HoldsOfPoints, IsNotAbove, IsOnTheWay, first_range}
use Rattle.qual_scores.specs.Bisections.{window_question}
use Rattle.qual_scores.specs.Bounds.{ShowsWindowSpent}

-- what is true of the points that the number sought is the least of
abbrev pub HoldsOf : Sheet → Results → ScoreQuery → ℤ → Type 0
HoldsOf sheet season sought points =
    HoldsOfPoints sheet season sought.club sought.line sought.claim points

-- the window question of the number sought at some points
abbrev pub question_sought : ScoreQuery → ℤ → Question
question_sought sought points =
    window_question sought.club sought.line sought.claim points

-- the least points that a window question may be asked at
abbrev pub least_asked : Claim → ℤ
least_asked Inside = least_points
least_asked Outside = pos 0

-- a window question may be asked at these points
pub record MayBeAsked (claim : Claim) (points : ℤ) : Type 0 where
  pub least : least_asked claim ≤ℤ points
  pub most : points ≤ℤ most_points

-- what a window question says of the number, by whether it has an example: a club that can be
-- inside with at most so many points has no greater possible score, and one that can be outside
-- with at least so many has a greater guaranteed one
abbrev pub window_answer : Claim → Bool → WindowAnswer
window_answer Inside true = NotAbove
window_answer Inside false = Above
window_answer Outside true = Above
window_answer Outside false = NotAbove

-- what was said of the number sought at some points is true of it
abbrev pub IsWindowAnswer : Sheet → Results → ScoreQuery → ℤ → WindowAnswer → Type 0
IsWindowAnswer sheet season sought points NotAbove = IsNotAbove (HoldsOf sheet season sought) points
IsWindowAnswer sheet season sought points Above = ¬ IsNotAbove (HoldsOf sheet season sought) points
IsWindowAnswer sheet season sought points (Spent lines) =
    ShowsWindowSpent sheet season (question_sought sought points) lines.items
    × IsTrue (list_all is_in_range lines.items)

-- the points that a club can reach, which no window leaves out
pub record IsFirstReach (sheet : Sheet) (season : Results) (club : ℕ) (range : PointRange)
    : Type 0 where
  pub is : range ≡ first_range sheet season club Inside
  pub least : least_points ≤ℤ range.low
  pub in_order : range.low ≤ℤ range.high
  pub most : range.high ≤ℤ most_points

-- a range on the way: the number is not above it, and not below it if there is one
pub record IsNarrowed (sheet : Sheet) (season : Results) (sought : ScoreQuery) (range : PointRange)
    : Type 0 where
  pub on_the_way : IsOnTheWay (HoldsOf sheet season sought)
      (first_range sheet season sought.club sought.claim) range
  pub not_above : IsNotAbove (HoldsOf sheet season sought) range.high
  pub none_below : (points : ℤ) → HoldsOf sheet season sought points → range.low ≤ℤ points
  pub in_order : range.low ≤ℤ range.high
  pub least : least_asked sought.claim ≤ℤ range.low
  pub most : range.high ≤ℤ (most_points +ℤ pos 1)
