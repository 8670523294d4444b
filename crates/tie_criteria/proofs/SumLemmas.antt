-- Sums over the matches of a season: what is left of one after a match more, and after all; and how
-- near zero they stay.
use Rattle.std.proofs.Common.{◌≡◌, ℕ, ◌+◌, ◌<◌, ◌≤◌, ℤ, pos, ◌+ℤ◌, List, Option, length, get_or}
use Rattle.std.proofs.Common.{drop, sym, ap, ◌∙◌}
use Rattle.std.proofs.lemmas.List.{drop_more, drop_all, get_or-map}
use Rattle.league_core.specs.declared.sheet.Sheet.{Sheet}
use Rattle.league_core.specs.declared.sheet.Club.{Club}
use Rattle.league_core.specs.declared.sheet.Fixture.{Fixture}
use Rattle.league_core.specs.declared.season.Score.{Score}
use Rattle.league_core.specs.game.Sums.{if_played, sum_over}
use Rattle.league_core.specs.game.Ahead.{rank_of}
use Rattle.std.proofs.Common.{subst, FitsSigned, to_z, of_z, w32, arith}
use Rattle.std.proofs.lemmas.Int.{ints, to_z-of_z}
use Rattle.tie_criteria.specs.declared.measure.Measure.{Measure}
use Rattle.tie_criteria.specs.declared.measure.Measure.TheVariants.{Points, Difference, Goals}
use Rattle.tie_criteria.specs.declared.measure.Measure.TheVariants.{AwayGoals, Wins, AwayWins}
use Rattle.tie_criteria.specs.inside.Sums.{IsNear}

-- the sum from a match on is what this match is worth, and the sum from the next one on
pub sum_over-drop : (value : Fixture → Score → ℤ) (matches : List Fixture)
    (scores : List (Option Score)) (i : ℕ) (match : Fixture) (score : Option Score)
    → i < length matches → i < length scores
    → sum_over value (drop i matches) (drop i scores) ≡
    (if_played value (get_or matches i match) (get_or scores i score) +ℤ sum_over value
    (drop (i + 1) matches) (drop (i + 1) scores))
sum_over-drop value matches scores i match score in_matches in_scores =
    let from_match = drop_more matches i match in_matches in
    let from_score = drop_more scores i score in_scores in
    (λ j. sum_over value (from_match j) (from_score j))

-- after the last match nothing is left
pub sum_over-drop_all : (value : Fixture → Score → ℤ) (matches : List Fixture)
    (scores : List (Option Score)) (i : ℕ) → length matches ≤ i
    → sum_over value (drop i matches) (drop i scores) ≡ pos 0
sum_over-drop_all value matches scores i past =
    ap (λ ms. sum_over value ms (drop i scores)) (drop_all i matches past)

-- a club's rank, read from the sheet's clubs
pub rank_of-read : (sheet : Sheet) (clubs : List Club) (club : ℕ) (d : Club) → clubs ≡ sheet.clubs
    → club < length sheet.clubs → (get_or clubs club d).rank ≡ rank_of sheet club
rank_of-read sheet clubs club d same within =
    ap (λ cs. (get_or cs club d).rank) same
    ∙ sym (get_or-map (λ (c : Club). c.rank) sheet.clubs club d 0 within)

-- a sum that is near enough to zero is kept as it is
near_fits : (bound : ℕ) (sum : ℤ) → bound ≤ 2000000 → IsNear bound sum → FitsSigned w32 sum
near_fits bound sum low near = omega (arith, ints)

pub near_is : (bound : ℕ) (sum : ℤ) → bound ≤ 2000000 → IsNear bound sum
    → to_z w32 (of_z w32 sum) ≡ sum
near_is bound sum low near = to_z-of_z w32 sum (near_fits bound sum low near)

-- so it stays as near
pub near_kept : (sum : ℤ) → IsNear 1000000 sum → IsNear 1000000 (to_z w32 (of_z w32 sum))
near_kept sum near =
    subst (IsNear 1000000) (sym (near_is 1000000 sum (omega arith) near)) near

-- what is near is nearer than a greater bound
pub near_wider : (low high : ℕ) (sum : ℤ) → low ≤ high → IsNear low sum → IsNear high sum
near_wider low high sum fewer near = record {
  least = omega (arith, ints);
  most = omega (arith, ints);
}

-- a sum that grew by so much, from one that was near zero
pub grown_sum : (old result worth : ℤ) → IsNear 1000000 old
    → result ≡ (to_z w32 (of_z w32 old) +ℤ worth)
    → ((bound : ℕ) → IsNear bound (to_z w32 (of_z w32 old)) → IsNear (bound + 255) result)
    → to_z w32 (of_z w32 result) ≡ (old +ℤ worth)
grown_sum old result worth near is grows =
    near_is 1000255 result (omega arith) (grows 1000000 (near_kept old near)) ∙ is
    ∙ ap (λ (x : ℤ). x +ℤ worth) (near_is 1000000 old (omega arith) near)

pub grown_near : (old result : ℤ) → IsNear 1000000 old
    → ((bound : ℕ) → IsNear bound (to_z w32 (of_z w32 old)) → IsNear (bound + 255) result)
    → (bound : ℕ) → IsNear bound old → IsNear (bound + 255) (to_z w32 (of_z w32 result))
grown_near old result near grows bound within =
    subst (IsNear (bound + 255))
    (sym (near_is 1000255 result (omega arith) (grows 1000000 (near_kept old near))))
    (grows bound (subst (IsNear bound) (sym (near_is 1000000 old (omega arith) near)) within))

-- a fact of each of the six measures is one of every measure
pub each_measure : (P : Measure → Type 0) → P Points → P Difference → P Goals → P AwayGoals
    → P Wins → P AwayWins → (measure : Measure) → P measure
each_measure P points difference scored away won away_won Points = points
each_measure P points difference scored away won away_won Difference = difference
each_measure P points difference scored away won away_won Goals = scored
each_measure P points difference scored away won away_won AwayGoals = away
each_measure P points difference scored away won away_won Wins = won
each_measure P points difference scored away won away_won AwayWins = away_won
