-- What leads to no more by points, difference and goals does so in each order of the criteria.
use Rattle.std.proofs.Common.{◌≡◌, ℤ, ◌<ℤ◌, ◌≤ℤ◌, ◌⊎◌}
use Rattle.std.proofs.Common.{List, [], ◌∷◌}
use Rattle.std.proofs.Common.{inl, inr, arith}
use Rattle.std.proofs.lemmas.Int.{ints, by_lt_z}
use Rattle.league_core.specs.declared.season.Score.{Score}
use Rattle.near_laws.proofs.InTurnLemmas.{IsFrom}
use Rattle.near_bound.proofs.WorstLemmas.{Leads}

split_le : (x y : ℤ) → x ≤ℤ y → (x <ℤ y) ⊎ (x ≡ y)
split_le x y le = by_lt_z x y (λ less. inl less) (λ from. inr (omega (arith, ints)))

pub record_from : (points difference scored : Score → ℤ) (rest : Score → List ℤ)
    (worst score : Score) → Leads points difference scored rest worst score
    → IsFrom (points worst ∷ difference worst ∷ scored worst ∷ [])
    (points score ∷ difference score ∷ scored score ∷ [])
record_from points difference scored rest worst score (inl less) =
    elim (split_le (points worst) (points score) less.1) as (λ _.
    IsFrom (points worst ∷ difference worst ∷ scored worst ∷ [])
    (points score ∷ difference score ∷ scored score ∷ [])) [
      | inl below ↦ inl below
      | inr same ↦ inr (same, inl less.0)
    ]
record_from points difference scored rest worst score (inr same) =
    elim same.2 as (λ _.
    IsFrom (points worst ∷ difference worst ∷ scored worst ∷ [])
    (points score ∷ difference score ∷ scored score ∷ [])) [
      | inl below ↦ inr (same.0, inr (same.1, inl below))
      | inr level ↦ inr (same.0, inr (same.1, inr (level.0, tt)))
    ]

pub first_from : (points difference scored : Score → ℤ) (rest : Score → List ℤ)
    (worst score : Score) → Leads points difference scored rest worst score
    → IsFrom (difference worst ∷ scored worst ∷ []) (difference score ∷ scored score ∷ [])
first_from points difference scored rest worst score (inl less) = inl less.0
first_from points difference scored rest worst score (inr same) =
    elim same.2 as (λ _.
    IsFrom (difference worst ∷ scored worst ∷ []) (difference score ∷ scored score ∷ [])) [
      | inl below ↦ inr (same.1, inl below)
      | inr level ↦ inr (same.1, inr (level.0, tt))
    ]

pub overall_from : (points difference scored : Score → ℤ) (rest : Score → List ℤ)
    (worst score : Score) → Leads points difference scored rest worst score
    → IsFrom (difference worst ∷ scored worst ∷ rest worst)
    (difference score ∷ scored score ∷ rest score)
overall_from points difference scored rest worst score (inl less) = inl less.0
overall_from points difference scored rest worst score (inr same) =
    elim same.2 as (λ _.
    IsFrom (difference worst ∷ scored worst ∷ rest worst)
    (difference score ∷ scored score ∷ rest score)) [
      | inl below ↦ inr (same.1, inl below)
      | inr level ↦ inr (same.1, inr level)
    ]
