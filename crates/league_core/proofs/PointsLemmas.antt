-- How many points a club can have: three for each match at most, less its deduction.
use Rattle.std.proofs.Common.{◌≡◌, ℕ, zero, suc, ◌*◌, ◌≤◌, ℤ, pos, negsuc, ◌-ℤ◌, ◌≤ℤ◌, Bool, true}
use Rattle.std.proofs.Common.{false, ◌==◌, cond, nat_le, nat_lt, int_le, slice_index, List, [], ◌∷◌}
use Rattle.std.proofs.Common.{length, Option, Some, None, arith}
use Rattle.std.specs.List.{list_all}
use Rattle.std.proofs.lemmas.Bool.{and_parts, and_from, leb-true}
use Rattle.std.proofs.lemmas.Int.{ints}
use Rattle.league_core.specs.declared.sheet.Sheet.{Sheet}
use Rattle.league_core.specs.declared.sheet.Fixture.{Fixture}
use Rattle.league_core.specs.declared.season.Score.{Score}
use Rattle.league_core.specs.declared.question.Claim.{Claim}
use Rattle.league_core.specs.game.Results.{Results, is_score_or_none, are_results}
use Rattle.league_core.specs.game.Sheets.{IsWithinLimits}
use Rattle.league_core.specs.game.Sums.{match_points, worth_to, sum_over, sum_of, points_of}
use Rattle.league_core.specs.game.Questions.{is_in_window, full_question}

-- from none to three points
pub record IsWorth (points : ℤ) : Type 0 where
  pub least : pos 0 ≤ℤ points
  pub most : points ≤ℤ pos 3

one_of_three : (won level : Bool) → IsWorth (cond won (pos 3) (cond level (pos 1) (pos 0)))
one_of_three true level = record { least = omega (arith, ints); most = omega (arith, ints) }
one_of_three false true = record { least = omega (arith, ints); most = omega (arith, ints) }
one_of_three false false = record { least = omega (arith, ints); most = omega (arith, ints) }

one_side : (home away : Bool) (at_home on_tour : ℤ) → IsWorth at_home → IsWorth on_tour
    → IsWorth (cond home at_home (cond away on_tour (pos 0)))
one_side true away at_home on_tour h k = h
one_side false true at_home on_tour h k = k
one_side false false at_home on_tour h k = record
    { least = omega (arith, ints); most = omega (arith, ints) }

-- a match gives a club from none to three points
pub match_worth : (club : ℕ) (match : Fixture) (score : Score)
    → IsWorth (worth_to match_points club match score)
match_worth club match score =
    one_side (match.home == club) (match.away == club)
    (match_points score.home score.away false) (match_points score.away score.home true)
    (one_of_three (nat_lt score.away score.home) (score.home == score.away))
    (one_of_three (nat_lt score.home score.away) (score.away == score.home))

-- so many matches give none to three points each
pub record IsWorthOf (matches : ℕ) (points : ℤ) : Type 0 where
  pub least : pos 0 ≤ℤ points
  pub most : points ≤ℤ pos (3 * matches)

sum_worth : (value : Fixture → Score → ℤ)
    → ((match : Fixture) (score : Score) → IsWorth (value match score))
    → (matches : List Fixture) (scores : List (Option Score))
    → IsWorthOf (length matches) (sum_over value matches scores)
sum_worth value each [] scores = record { least = omega (arith, ints); most = omega (arith, ints) }
sum_worth value each (match ∷ matches) [] = record
    { least = omega (arith, ints); most = omega (arith, ints) }
sum_worth value each (match ∷ matches) (None ∷ scores) =
    let rest = sum_worth value each matches scores in
    record { least = omega (arith, ints); most = omega (arith, ints) }
sum_worth value each (match ∷ matches) (Some score ∷ scores) =
    let here = each match score in
    let rest = sum_worth value each matches scores in
    record { least = omega (arith, ints); most = omega (arith, ints) }

-- no deduction is above the greatest one that may be
pub deduction-le : (deductions : List ℕ) (club : ℕ)
    → list_all (λ points. nat_le points 99) deductions ≡ true → slice_index deductions club ≤ 99
deduction-le [] club h = omega arith
deduction-le (points ∷ deductions) zero h =
    leb-true points 99
    (and_parts (nat_le points 99) (list_all (λ points. nat_le points 99) deductions) h).0
deduction-le (points ∷ deductions) (suc club) h =
    deduction-le deductions club
    (and_parts (nat_le points 99) (list_all (λ points. nat_le points 99) deductions) h).1

in_full_window : (won : ℤ) (fixtures taken club line : ℕ) (claim : Claim) → IsWorthOf fixtures won
    → fixtures ≤ 600 → taken ≤ 99 → is_in_window (full_question club line claim) (won -ℤ pos taken)
    ≡ true
in_full_window won fixtures taken club line claim h few small =
    and_from (int_le (negsuc 98) (won -ℤ pos taken)) (int_le (won -ℤ pos taken) (pos 1800))
    (let low : negsuc 98 ≤ℤ (won -ℤ pos taken) = omega (arith, ints) in grind (arith, ints))
    (let high : (won -ℤ pos taken) ≤ℤ pos 1800 = omega (arith, ints) in grind (arith, ints))

-- the points of a sheet within limits are in the full window
pub points_in_full_window : (sheet : Sheet) (season : Results) (club line : ℕ) (claim : Claim)
    → IsWithinLimits sheet → list_all (λ points. nat_le points 99) season.deductions ≡ true
    → is_in_window (full_question club line claim) (points_of sheet season club) ≡ true
points_in_full_window sheet season club line claim limits deductions =
    in_full_window (sum_of match_points sheet season club) (length sheet.fixtures)
    (slice_index season.deductions club) club line claim
    (sum_worth (worth_to match_points club) (match_worth club) sheet.fixtures season.scores)
    limits.most_fixtures (deduction-le season.deductions club deductions)

-- results have deductions that may be
pub results-deductions : (season : Results) → are_results season ≡ true
    → list_all (λ points. nat_le points 99) season.deductions ≡ true
results-deductions season h =
    (and_parts (list_all is_score_or_none season.scores)
    (list_all (λ points. nat_le points 99) season.deductions) h).1
