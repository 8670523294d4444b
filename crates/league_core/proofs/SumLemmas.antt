-- Sums over matches, and totals over clubs: of nothing, of two values, of values that agree; and
-- that it does not matter which of the two is taken first.
use Rattle.std.proofs.Common.{◌≡◌, ℕ, ℤ, pos, ◌+ℤ◌, Bool, true, not, ◌==◌, cond, List}
use Rattle.std.proofs.Common.{[], ◌∷◌, filter, Option, Some, None, refl, sym, ap, ◌∙◌, subst, inl}
use Rattle.std.proofs.Common.{inr, arith}
use Rattle.std.specs.List.{list_all}
use Rattle.std.proofs.lemmas.Int.{ints}
use Rattle.std.proofs.lemmas.Bool.{and_parts, cases_eq, eq-eqb, ne_eqb}
use Rattle.league_core.specs.declared.sheet.Fixture.{Fixture}
use Rattle.league_core.specs.declared.season.Score.{Score}
use Rattle.league_core.specs.game.Sums.{sum_over}
use Rattle.league_core.specs.search.PointRanges.{total_of}

-- matches that are worth nothing
pub sum_over-zero : (matches : List Fixture) (scores : List (Option Score))
    → sum_over (λ match score. pos 0) matches scores ≡ pos 0
sum_over-zero [] scores = refl
sum_over-zero (match ∷ matches) [] = refl
sum_over-zero (match ∷ matches) (None ∷ scores) =
    omega (arith, ints, sum_over-zero matches scores)
sum_over-zero (match ∷ matches) (Some score ∷ scores) =
    omega (arith, ints, sum_over-zero matches scores)

-- two values of each match
pub sum_over-sum : (value other : Fixture → Score → ℤ) (matches : List Fixture)
    (scores : List (Option Score))
    → sum_over (λ match score. value match score +ℤ other match score) matches scores
    ≡ sum_over value matches scores +ℤ sum_over other matches scores
sum_over-sum value other [] scores = refl
sum_over-sum value other (match ∷ matches) [] = refl
sum_over-sum value other (match ∷ matches) (None ∷ scores) =
    omega (arith, ints, sum_over-sum value other matches scores)
sum_over-sum value other (match ∷ matches) (Some score ∷ scores) =
    omega (arith, ints, sum_over-sum value other matches scores)

-- two values that agree on the matches that pass a test
pub sum_over-agree : (known : Fixture → Bool) (value other : Fixture → Score → ℤ)
    → ((match : Fixture) (score : Score) → known match ≡ true
    → value match score ≡ other match score)
    → (matches : List Fixture) (scores : List (Option Score)) → list_all known matches ≡ true
    → sum_over value matches scores ≡ sum_over other matches scores
sum_over-agree known value other same [] scores all = refl
sum_over-agree known value other same (match ∷ matches) [] all = refl
sum_over-agree known value other same (match ∷ matches) (None ∷ scores) all =
    ap (λ n. pos 0 +ℤ n) (sum_over-agree known value other same matches scores
    (and_parts (known match) (list_all known matches) all).1)
sum_over-agree known value other same (match ∷ matches) (Some score ∷ scores) all =
    let parts = and_parts (known match) (list_all known matches) all in
    ap (λ n. n +ℤ sum_over value matches scores) (same match score parts.0)
    ∙ ap (λ n. other match score +ℤ n)
    (sum_over-agree known value other same matches scores parts.1)

-- the sums of clubs together are the sum of what they have together
pub total_of-sum_over : (value : ℕ → Fixture → Score → ℤ) (clubs : List ℕ)
    (matches : List Fixture) (scores : List (Option Score))
    → total_of (λ club. sum_over (value club) matches scores) clubs
    ≡ sum_over (λ match score. total_of (λ club. value club match score) clubs) matches scores
total_of-sum_over value [] matches scores = sym (sum_over-zero matches scores)
total_of-sum_over value (club ∷ clubs) matches scores =
    ap (λ n. sum_over (value club) matches scores +ℤ n)
    (total_of-sum_over value clubs matches scores)
    ∙ sym (sum_over-sum (value club)
    (λ match score. total_of (λ other. value other match score) clubs) matches scores)

-- clubs that have nothing
pub total_of-zero : (clubs : List ℕ) → total_of (λ club. pos 0) clubs ≡ pos 0
total_of-zero [] = refl
total_of-zero (club ∷ clubs) = omega (arith, ints, total_of-zero clubs)

-- a club that has nothing may be left out
pub total_of-others : (value : ℕ → ℤ) (club : ℕ) → value club ≡ pos 0 → (clubs : List ℕ)
    → total_of value (filter (λ other. not (other == club)) clubs) ≡ total_of value clubs
total_of-others value club nothing [] = refl
total_of-others value club nothing (first ∷ clubs) =
    let kept = filter (λ (other : ℕ). not (other == club)) clubs in
    let rest = total_of-others value club nothing clubs in
    elim (cases_eq first club) [
      | inl same ↦
          subst
          (λ (b : Bool). total_of value (cond (not b) (first ∷ kept) kept)
          ≡ value first +ℤ total_of value clubs) (sym (eq-eqb first club same))
          (let none : value first ≡ pos 0 = ap value same ∙ nothing in omega (arith, ints))
      | inr other ↦
          subst
          (λ (b : Bool). total_of value (cond (not b) (first ∷ kept) kept)
          ≡ value first +ℤ total_of value clubs) (sym (ne_eqb first club other))
          (ap (λ n. value first +ℤ n) rest)
    ]
