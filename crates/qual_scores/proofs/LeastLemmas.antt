-- The least points that a club can reach are at least -99: match points are never negative, and no
-- more than 99 points are taken off.
use Rattle.std.proofs.Common.{◌≡◌, ℕ, ℤ, pos, negsuc, ◌≤ℤ◌, true, List, [], ◌∷◌, arith}
use Rattle.std.proofs.lemmas.Int.{ints}
use Rattle.league_core.specs.declared.sheet.Sheet.{Sheet}
use Rattle.league_core.specs.declared.sheet.Fixture.{Fixture}
use Rattle.league_core.specs.declared.season.Score.{Score}
use Rattle.league_core.specs.game.Results.{Results, are_results}
use Rattle.league_core.specs.search.Options.{options_in}
use Rattle.league_core.specs.search.PointRanges.{range_of, range_from, points_together}
use Rattle.league_core.specs.search.PointRanges.{least_points_of}
use Rattle.league_core.proofs.PointsLemmas.{match_worth, results-deductions, deduction-le}
use Rattle.league_core.proofs.plain.Numbers.{int_min-not_negative}

-- if no option gives less than nothing, neither does the least
range_not_negative : (value : Score → ℤ) → ((score : Score) → pos 0 ≤ℤ value score)
    → (options : List Score) → pos 0 ≤ℤ (range_of value options).least
range_not_negative value each [] = omega (arith, ints)
range_not_negative value each (score ∷ []) = each score
range_not_negative value each (score ∷ other ∷ options) =
    int_min-not_negative (value score) ((range_of value (other ∷ options)).least) (each score)
    (range_not_negative value each (other ∷ options))

-- nor does their sum
sum_not_negative : (value : Fixture → Score → ℤ)
    → ((match : Fixture) (score : Score) → pos 0 ≤ℤ value match score)
    → (matches : List Fixture) (options : List (List Score))
    → pos 0 ≤ℤ (range_from value matches options).least
sum_not_negative value each [] options = omega (arith, ints)
sum_not_negative value each (match ∷ matches) [] = omega (arith, ints)
sum_not_negative value each (match ∷ matches) (options ∷ more) =
    let here = range_not_negative (value match) (each match) options in
    let rest = sum_not_negative value each matches more in
    omega (arith, ints)

pub least_reach : (sheet : Sheet) (season : Results) (club : ℕ) → are_results season ≡ true
    → negsuc 98 ≤ℤ least_points_of sheet season [] (club ∷ [])
unfolding least_points_of
least_reach sheet season club results =
    let won = sum_not_negative (points_together (club ∷ []))
    (λ match score. not_negative match score) sheet.fixtures (options_in sheet season []) in
    let off = deduction-le season.deductions club (results-deductions season results) in
    omega (arith, ints)
  where
    not_negative : (match : Fixture) (score : Score)
        → pos 0 ≤ℤ points_together (club ∷ []) match score
    not_negative match score =
        let worth = (match_worth club match score).least in
        omega (arith, ints)
