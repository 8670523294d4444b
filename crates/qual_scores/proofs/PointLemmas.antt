-- Examples of questions with a window: the club's points lie in it, and between the least and the
-- most that the club can reach; and when a window is moved over them, the example stays one.
use Rattle.std.proofs.Common.{◌≡◌, ℕ, ℤ, pos, negsuc, ◌≤ℤ◌, true, List, [], ◌∷◌, refl, sym, subst}
use Rattle.std.proofs.Common.{arith, int_le, nat_le}
use Rattle.std.specs.List.{list_all}
use Rattle.std.proofs.lemmas.Bool.{and_parts, and_from}
use Rattle.std.proofs.lemmas.Int.{ints}
use Rattle.league_core.specs.declared.sheet.Sheet.{Sheet}
use Rattle.league_core.specs.declared.question.Claim.{Claim}
use Rattle.league_core.specs.declared.question.Question.{Question}
use Rattle.league_core.specs.game.Results.{Results, are_results}
use Rattle.league_core.specs.game.Seasons.{IsLeague}
use Rattle.league_core.specs.game.Sums.{points_of}
use Rattle.league_core.specs.game.Ranking.{is_inside}
use Rattle.league_core.specs.game.Questions.{is_on_side, is_in_window, IsExample}
use Rattle.league_core.specs.search.PointRanges.{least_points_of, most_points_of}
use Rattle.league_core.specs.search.Zones.{IsMember}
use Rattle.league_core.proofs.PointsLemmas.{points_in_full_window, results-deductions}
use Rattle.reason_laws.proofs.MemberLemmas.{member_in_box, points_in_box}
use Rattle.reason_laws.proofs.ReasonLemmas.{holds_parts}
use Rattle.qual_scores.specs.Scores.{question_between}
use Rattle.league_core.proofs.plain.Numbers.{int_le-to, int_le-from}

-- the club's points at an example lie in its window
pub record AreBetween (low points high : ℤ) : Type 0 where
  pub least : low ≤ℤ points
  pub most : points ≤ℤ high

pub points_in_window : (sheet : Sheet) (season : Results) (question : Question) (finish : Results)
    (lots : List ℕ) → IsExample sheet season question finish lots
    → AreBetween question.low (points_of sheet finish question.club) question.high
points_in_window sheet season question finish lots example =
    let parts = holds_parts sheet question finish lots example.holds in
    record { least = parts.0; most = parts.1 }

-- an example is one with any window that its points lie in
pub example_moved : (sheet : Sheet) (season : Results) (club line : ℕ) (claim : Claim)
    (low high new_low new_high : ℤ) (finish : Results) (lots : List ℕ)
    → IsExample sheet season (question_between club line claim low high) finish lots
    → AreBetween new_low (points_of sheet finish club) new_high
    → IsExample sheet season (question_between club line claim new_low new_high) finish lots
example_moved sheet season club line claim low high new_low new_high finish lots example within =
    let old = question_between club line claim low high in
    let new = question_between club line claim new_low new_high in
    let points = points_of sheet finish club in
    let parts = holds_parts sheet old finish lots example.holds in
    record {
      is_finish = example.is_finish;
      is_drawn = example.is_drawn;
      holds = and_from (is_in_window new points)
          (is_on_side (is_inside sheet finish lots club line) claim)
          (and_from (int_le new_low points) (int_le points new_high)
          (int_le-from new_low points within.least) (int_le-from points new_high within.most))
          parts.2;
    }

-- the club's points at any example lie between the least and the most that it can reach
pub points_in_reach : (sheet : Sheet) (season : Results) (question : Question) (finish : Results)
    (lots : List ℕ) → IsExample sheet season question finish lots
    → AreBetween (least_points_of sheet season [] (question.club ∷ []))
    (points_of sheet finish question.club)
    (most_points_of sheet season [] (question.club ∷ []))
points_in_reach sheet season question finish lots example =
    let member : IsMember sheet season question.club [] finish lots = record {
      is_finish = example.is_finish;
      is_drawn = example.is_drawn;
      literals = refl;
    } in
    let box = member_in_box sheet season question.club [] finish lots member in
    let both = points_in_box sheet season [] finish (question.club ∷ []) box in
    record { least = omega (arith, ints, both.0); most = omega (arith, ints, both.1) }

-- and in the full window
pub points_are_full : (sheet : Sheet) (season : Results) (question : Question) (finish : Results)
    (lots : List ℕ) → IsLeague sheet season → are_results season ≡ true
    → IsExample sheet season question finish lots
    → AreBetween (negsuc 98) (points_of sheet finish question.club) (pos 1800)
points_are_full sheet season question finish lots league results example =
    let off = subst (λ (ds : List ℕ). list_all (λ points. nat_le points 99) ds ≡ true)
    (sym example.is_finish.deductions) (results-deductions season results) in
    let full = points_in_full_window sheet finish question.club question.line question.claim
    league.limits off in
    let parts = and_parts (int_le (negsuc 98) (points_of sheet finish question.club))
    (int_le (points_of sheet finish question.club) (pos 1800)) full in
    record {
      least = int_le-to (negsuc 98) (points_of sheet finish question.club) parts.0;
      most = int_le-to (points_of sheet finish question.club) (pos 1800) parts.1;
    }
