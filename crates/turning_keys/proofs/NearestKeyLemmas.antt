-- Of finitely many things that each have a key and may pass, the nearest key of those that pass.
use Rattle.std.proofs.Common.{◌≡◌, ◌⊎◌, ℤ, true, false, List, [], ◌∷◌, All, refl}
use Rattle.std.proofs.Common.{ap, inl, inr, Ordering, Less, Equal, Greater}
use Rattle.std.specs.Ordering.{ordering_reverse, is_le}
use Rattle.std.proofs.lemmas.Bool.{true≢false}
use Rattle.std.proofs.lemmas.List.Elements.{All-nil, All-cons}
use Rattle.league_core.specs.declared.question.Claim.{Claim}
use Rattle.league_core.specs.declared.question.Claim.TheVariants.{Inside, Outside}
use Rattle.league_core.specs.game.HeadToHead.{by_first_difference}
use Rattle.league_core.specs.search.Keys.{is_key_from}
use Rattle.league_core.proofs.StandingLemmas.{by_first_difference_total}
use Rattle.club_keys.proofs.KeyOrderLemmas.{from_itself, from_lesser}
use Rattle.cup_sheet.specs.KeyBounds.{IsBeyond}

-- of two comparisons of which the one is the other turned round, the one or the other is no greater
one_way : (o back : Ordering) → back ≡ ordering_reverse o → is_le o ≡ false → is_le back ≡ true
one_way Less back turned not_le = absurd (true≢false not_le)
one_way Equal back turned not_le = absurd (true≢false not_le)
one_way Greater back turned not_le = ap is_le turned

-- of two keys the one or the other is as great
from_other : (key other : List ℤ) → is_key_from key other ≡ false → is_key_from other key ≡ true
from_other key other not_from =
    one_way (by_first_difference other key) (by_first_difference key other)
    (by_first_difference_total.antisymm key other) not_from

-- each key is beyond itself
pub beyond_itself : (claim : Claim) (key : List ℤ) → IsBeyond claim key key
beyond_itself Outside key = from_itself key
beyond_itself Inside key = from_itself key

-- what is beyond a key is beyond all that this one is beyond
pub beyond_along : (claim : Claim) (bound middle key : List ℤ) → IsBeyond claim bound middle
    → IsBeyond claim middle key → IsBeyond claim bound key
beyond_along Outside bound middle key low high = from_lesser bound middle key low high
beyond_along Inside bound middle key low high = from_lesser key middle bound high low

-- of two keys the one is beyond the other, or the other beyond the one
one_is_beyond : (claim : Claim) (key other : List ℤ)
    → IsBeyond claim key other ⊎ IsBeyond claim other key
one_is_beyond Outside key other =
    elim (is_key_from key other) as (λ b. is_key_from key other ≡ b
    → IsBeyond Outside key other ⊎ IsBeyond Outside other key) [
      | true ↦ λ from. inl from
      | false ↦ λ not_from. inr (from_other key other not_from)
    ] refl
one_is_beyond Inside key other =
    elim (is_key_from other key) as (λ b. is_key_from other key ≡ b
    → IsBeyond Inside key other ⊎ IsBeyond Inside other key) [
      | true ↦ λ from. inl from
      | false ↦ λ not_from. inr (from_other other key not_from)
    ] refl

module _ {A : Type 0} (P : A → Type 0) (key : A → List ℤ) (claim : Claim) where
  -- one of the list passes, and the keys of all that pass are beyond its key
  abbrev pub HasNearestKey : List A → Type 0
  HasNearestKey xs =
      (x : A) × P x × All (λ y. P y → IsBeyond claim (key x) (key y)) xs

  -- one more that passes: its key, or that of the nearest of the others
  with_one_more : (x : A) (xs : List A) → P x → HasNearestKey xs → HasNearestKey (x ∷ xs)
  with_one_more x xs here best =
      elim (one_is_beyond claim (key best.0) (key x)) as (λ _. HasNearestKey (x ∷ xs)) [
        | inl beyond ↦ (
          best.0,
          best.1,
          All-cons (λ y. P y → IsBeyond claim (key best.0) (key y)) x xs (λ _. beyond) best.2,
        )
        | inr beyond ↦ (
          x,
          here,
          All-cons (λ y. P y → IsBeyond claim (key x) (key y)) x xs
              (λ _. beyond_itself claim (key x))
              (λ k d h passes. beyond_along claim (key x) (key best.0) _ beyond
              (best.2 k d h passes)),
        )
      ]

  first_alone : (x : A) (xs : List A) → P x → All (λ y. P y → ⊥) xs → HasNearestKey (x ∷ xs)
  first_alone x xs here none = (
    x,
    here,
    All-cons (λ y. P y → IsBeyond claim (key x) (key y)) x xs
        (λ _. beyond_itself claim (key x)) (λ k d h passes. absurd (none k d h passes)),
  )

  one_that_fails : (x : A) (xs : List A) → (P x → ⊥) → HasNearestKey xs → HasNearestKey (x ∷ xs)
  one_that_fails x xs fails best = (
    best.0,
    best.1,
    All-cons (λ y. P y → IsBeyond claim (key best.0) (key y)) x xs
        (λ passes. absurd (fails passes)) best.2,
  )

  -- some key is the nearest, or none passes
  pub nearest_or_none : ((x : A) → P x ⊎ (P x → ⊥)) → (xs : List A)
      → HasNearestKey xs ⊎ All (λ x. P x → ⊥) xs
  nearest_or_none decide [] = inr (All-nil (λ x. P x → ⊥))
  nearest_or_none decide (x ∷ xs) =
      elim (decide x) as (λ _. HasNearestKey (x ∷ xs) ⊎ All (λ y. P y → ⊥) (x ∷ xs)) [
        | inl here ↦ elim (nearest_or_none decide xs)
            as (λ _. HasNearestKey (x ∷ xs) ⊎ All (λ y. P y → ⊥) (x ∷ xs)) [
              | inl best ↦ inl (with_one_more x xs here best)
              | inr none ↦ inl (first_alone x xs here none)
            ]
        | inr fails ↦ elim (nearest_or_none decide xs)
            as (λ _. HasNearestKey (x ∷ xs) ⊎ All (λ y. P y → ⊥) (x ∷ xs)) [
              | inl best ↦ inl (one_that_fails x xs fails best)
              | inr none ↦ inr (All-cons (λ y. P y → ⊥) x xs fails none)
            ]
      ]
