-- General facts on the first place of a list that passes a test.
use Rattle.std.proofs.Common.{Bool, List, None, Some, [], ap, arith, cond, drop, false, get_or, inl}
use Rattle.std.proofs.Common.{inr, length, nat_lt, not, refl, suc, sym, true, unwrap_or, zero, ℕ}
use Rattle.std.proofs.Common.{◌+◌, ◌-◌, ◌<◌, ◌∙◌, ◌∷◌, ◌≡◌, ◌≤◌, ◌⊎◌}
use Rattle.std.specs.List.{list_any, position_or_len, slice_get}
use Rattle.std.specs.Option.{option_map}
use Rattle.std.specs.Prelude.{position}
use Rattle.std.proofs.lemmas.Bool.{both_ways, cases_lt, cond-false, cond-true, le-ltb, lt-ltb}
use Rattle.std.proofs.lemmas.List.{get_or-drop, length-drop}
use Rattle.std.proofs.lemmas.List.Folds.{list_any_at, list_any_none}
use Rattle.std.proofs.lemmas.List.Quantifiers.{position-Some}
use Rattle.std.proofs.lemmas.List.Sums.{fails_before_first, passes_at_first, position_or_len_is}
use Rattle.std.proofs.lemmas.List.Sums.{prefix_len-le-length}
use Rattle.std.proofs.lemmas.Option.{get_or_from_slice_get, none-some, same_Some, slice_get-get_or}

-- if a place is found it is the first, and if none is the length stands for it
pub unwrap_or-position : (p : ℕ → Bool) (xs : List ℕ)
    → unwrap_or (position p xs) (length xs) ≡ position_or_len p xs
unwrap_or-position p xs = by_place (cases_lt (position_or_len p xs) (length xs)) where
  by_place : (position_or_len p xs < length xs) ⊎ (length xs ≤ position_or_len p xs)
      → unwrap_or (position p xs) (length xs) ≡ position_or_len p xs
  by_place (inl found) =
      ap (λ b. unwrap_or (cond b (Some (position_or_len p xs)) None) (length xs))
      (lt-ltb (position_or_len p xs) (length xs) found)
  by_place (inr none) =
      ap (λ b. unwrap_or (cond b (Some (position_or_len p xs)) None) (length xs))
      (le-ltb (position_or_len p xs) (length xs) none)
      ∙ omega (arith, prefix_len-le-length (λ x. not (p x)) xs)

-- where a list has a place that passes, the element there passes
pub passes_there : {X : Type 0} (p : X → Bool) (xs : List X) (place : ℕ) (x : X)
    → position p xs ≡ Some place → slice_get xs place ≡ Some x → p x ≡ true
passes_there p xs place x at found =
    let facts = position-Some p xs place x at in
    let is = same_Some _ _ (sym (slice_get-get_or xs place x facts.0) ∙ found) in
    rw is at facts.1

-- no place of a list passes
pub none_passes : {X : Type 0} (p : X → Bool) (xs : List X) → position p xs ≡ None
    → list_any p xs ≡ false
none_passes p xs none = list_any_none p xs (λ k d within. fails_before_first p xs k d
    (elim (cases_lt (position_or_len p xs) (length xs)) as (λ _. k < position_or_len p xs) [
      | inl inside ↦ absurd (none-some (position_or_len p xs)
          (sym none ∙ cond-true (nat_lt (position_or_len p xs) (length xs))
          (Some (position_or_len p xs)) None
          (lt-ltb (position_or_len p xs) (length xs) inside)))
      | inr past ↦ omega arith
    ]))

-- where a list has an element that passes, and where it has none
pub position-found : {X : Type 0} (q : X → Bool) (xs : List X) → position_or_len q xs < length xs
    → position q xs ≡ Some (position_or_len q xs)
position-found q xs inside =
    cond-true (nat_lt (position_or_len q xs) (length xs)) (Some (position_or_len q xs)) None
    (lt-ltb (position_or_len q xs) (length xs) inside)

pub position-missing : {X : Type 0} (q : X → Bool) (xs : List X) → length xs ≤ position_or_len q xs
    → position q xs ≡ None
position-missing q xs past =
    cond-false (nat_lt (position_or_len q xs) (length xs)) (Some (position_or_len q xs)) None
    (le-ltb (position_or_len q xs) (length xs) past)

-- where no place before some place passes, the first that passes is looked for from there on
pub skipped_at : {X : Type 0} (q : X → Bool) (x : X) (xs : List X) (k : ℕ) → k ≤ length (x ∷ xs)
    → ((j : ℕ) → j < k → q (get_or (x ∷ xs) j x) ≡ false)
    → position_or_len q (x ∷ xs) ≡ k + position_or_len q (drop k (x ∷ xs))
skipped_at q x xs k inside none =
    let long = length-drop k (x ∷ xs) in
    let bound : position_or_len q (drop k (x ∷ xs)) ≤ length (drop k (x ∷ xs)) =
    prefix_len-le-length _ (drop k (x ∷ xs)) in
    position_or_len_is q (x ∷ xs) (k + position_or_len q (drop k (x ∷ xs))) x
    (omega (arith, inside, long, bound))
    (λ j before. elim (cases_lt j k) [
      | inl early ↦ none j early
      | inr late ↦ behind j late before
    ])
    (λ within. ap q (sym (get_or-drop k (x ∷ xs) (position_or_len q (drop k (x ∷ xs))) x))
    ∙ passes_at_first q (drop k (x ∷ xs)) x (omega (arith, long, within, inside)))
  where
    behind : (j : ℕ) → k ≤ j → j < k + position_or_len q (drop k (x ∷ xs))
        → q (get_or (x ∷ xs) j x) ≡ false
    behind j late before =
        let same : k + (j - k) ≡ j = omega (arith, late) in
        ap (λ i. q (get_or (x ∷ xs) i x)) (sym same)
        ∙ (ap q (sym (get_or-drop k (x ∷ xs) (j - k) x))
        ∙ fails_before_first q (drop k (x ∷ xs)) (j - k) x (omega (arith, late, before)))

pub skipped_from : {X : Type 0} (q : X → Bool) (xs : List X) (k : ℕ) → k ≤ length xs
    → ((j : ℕ) (x : X) → j < k → slice_get xs j ≡ Some x → q x ≡ false)
    → position q xs ≡ option_map (λ more. k + more) (position q (drop k xs))
skipped_from q [] zero inside none = refl
skipped_from q [] (suc k) inside none = absurd (omega (arith, inside))
skipped_from q (x ∷ xs) k inside none =
    by_case (cases_lt (position_or_len q (drop k (x ∷ xs))) (length (drop k (x ∷ xs))))
  where
    is : position_or_len q (x ∷ xs) ≡ k + position_or_len q (drop k (x ∷ xs))
    is = skipped_at q x xs k inside (λ j early. none j (get_or (x ∷ xs) j x) early
        (slice_get-get_or (x ∷ xs) j x (omega (arith, early, inside))))

    long : length (drop k (x ∷ xs)) ≡ length (x ∷ xs) - k
    long = length-drop k (x ∷ xs)

    by_case : (position_or_len q (drop k (x ∷ xs)) < length (drop k (x ∷ xs)))
        ⊎ (length (drop k (x ∷ xs)) ≤ position_or_len q (drop k (x ∷ xs)))
        → position q (x ∷ xs) ≡ option_map (λ more. k + more) (position q (drop k (x ∷ xs)))
    by_case (inl here) =
        position-found q (x ∷ xs) (omega (arith, is, long, inside, here))
        ∙ (ap Some is
        ∙ sym (ap (option_map (λ more. k + more)) (position-found q (drop k (x ∷ xs)) here)))
    by_case (inr past) =
        position-missing q (x ∷ xs) (omega (arith, is, long, inside, past))
        ∙ sym (ap (option_map (λ more. k + more)) (position-missing q (drop k (x ∷ xs)) past))

-- where the first place that passes is known, a narrower test passes from there on alone
pub narrower_from : {X : Type 0} (p q : X → Bool) (xs : List X) (k : ℕ)
    → ((y : X) → p y ≡ false → q y ≡ false) → position p xs ≡ Some k
    → position q xs ≡ option_map (λ more. k + more) (position q (drop k xs))
narrower_from p q [] k narrower at = absurd (none-some k at)
narrower_from p q (x ∷ xs) k narrower at =
    let facts = position-Some p (x ∷ xs) k x at in
    skipped_from q (x ∷ xs) k (omega (arith, facts.0)) (λ j y early found. narrower y
    (ap p (sym (get_or_from_slice_get (x ∷ xs) j y x found)) ∙ facts.2 j early))

-- where no place passes, none passes a narrower test
pub none_narrower : {X : Type 0} (p q : X → Bool) (xs : List X)
    → ((x : X) → p x ≡ false → q x ≡ false) → position p xs ≡ None → position q xs ≡ None
none_narrower p q [] narrower none = refl
none_narrower p q (x ∷ xs) narrower none =
    by_case (cases_lt (position_or_len q (x ∷ xs)) (length (x ∷ xs)))
  where
    fails : (k : ℕ) → k < length (x ∷ xs) → (b : Bool) → p (get_or (x ∷ xs) k x) ≡ b
        → p (get_or (x ∷ xs) k x) ≡ false
    fails k within false is = is
    fails k within true is =
        absurd (both_ways _ (none_passes p (x ∷ xs) none)
        (list_any_at p (x ∷ xs) k x within is))

    by_case : (position_or_len q (x ∷ xs) < length (x ∷ xs))
        ⊎ (length (x ∷ xs) ≤ position_or_len q (x ∷ xs)) → position q (x ∷ xs) ≡ None
    by_case (inl inside) = absurd (both_ways _
        (narrower (get_or (x ∷ xs) (position_or_len q (x ∷ xs)) x)
        (fails (position_or_len q (x ∷ xs)) inside _ refl))
        (passes_at_first q (x ∷ xs) x inside))
    by_case (inr past) = position-missing q (x ∷ xs) past
