-- General facts on what is kept of a list.
use Rattle.std.proofs.Common.{Bool, List, [], ap, arith, cond, false, filter, inl, inr, length, not}
use Rattle.std.proofs.Common.{refl, sym, true, ℕ, ◌&&◌, ◌==◌, ◌||◌, ◌∙◌, ◌∷◌, ◌≡◌}
use Rattle.std.specs.List.{list_all, list_any}
use Rattle.std.specs.Prelude.{IsTrue, ◌↔◌}
use Rattle.std.proofs.lemmas.Bool.{and_from, and_parts, cases_Bool, false≢true, ne_eqb}
use Rattle.std.proofs.lemmas.Bool.Decides.{same_from_decides}

-- and whether there is one
pub filter_none-any : (test : ℕ → Bool) (clubs : List ℕ) → filter test clubs ≡ []
    → list_any test clubs ≡ false
filter_none-any test [] none = refl
filter_none-any test (club ∷ clubs) none = by_test (test club) (filter_none-any test clubs) none
  where
    by_test : (b : Bool) → (filter test clubs ≡ [] → list_any test clubs ≡ false)
        → cond b (club ∷ filter test clubs) (filter test clubs) ≡ []
        → (b || list_any test clubs) ≡ false
    by_test true later none = absurd (cc)
    by_test false later none = later none

pub filter_some-any : (test : ℕ → Bool) (clubs : List ℕ) → (filter test clubs ≡ [] → ⊥)
    → list_any test clubs ≡ true
filter_some-any test [] some = absurd (some refl)
filter_some-any test (club ∷ clubs) some = by_test (test club) (filter_some-any test clubs) some
  where
    by_test : (b : Bool) → ((filter test clubs ≡ [] → ⊥) → list_any test clubs ≡ true)
        → (cond b (club ∷ filter test clubs) (filter test clubs) ≡ [] → ⊥)
        → (b || list_any test clubs) ≡ true
    by_test true later some = refl
    by_test false later some = later some

pub any-is : (empty : Bool) (test : ℕ → Bool) (clubs found : List ℕ) → found ≡ filter test clubs
    → (empty ≡ true → found ≡ []) → (found ≡ [] → empty ≡ true) → not empty ≡ list_any test clubs
any-is true test clubs found is gives from = sym (filter_none-any test clubs (sym is ∙ gives refl))
any-is false test clubs found is gives from =
    sym (filter_some-any test clubs (λ none. false≢true (from (is ∙ none))))

-- two tests that agree whenever a third one passes keep the same of a list that passes it
pub filter_where : (test other known : ℕ → Bool) (clubs : List ℕ)
    → ((club : ℕ) → known club ≡ true → test club ≡ other club) → list_all known clubs ≡ true
    → filter test clubs ≡ filter other clubs
filter_where test other known [] agree all = refl
filter_where test other known (club ∷ clubs) agree all =
    let parts = and_parts (known club) (list_all known clubs) all in
    ap (λ b. cond b (club ∷ filter test clubs) (filter test clubs)) (agree club parts.0)
    ∙ ap (λ rest. cond (other club) (club ∷ rest) rest)
    (filter_where test other known clubs agree parts.1)

-- what all that are kept pass
pub list_all-filter : (test keep : ℕ → Bool) (xs : List ℕ)
    → list_all (λ x. not (keep x) || test x) xs ≡ true → list_all test (filter keep xs) ≡ true
list_all-filter test keep [] all = refl
list_all-filter test keep (x ∷ xs) all =
    let parts = and_parts (not (keep x) || test x) (list_all (λ y. not (keep y) || test y) xs) all
    in
    let more = list_all-filter test keep xs parts.1 in
    elim (cases_Bool (keep x)) as (λ _. list_all test (filter keep (x ∷ xs)) ≡ true) [
      | inl kept ↦
          rw kept (and_from (test x) (list_all test (filter keep xs))
          (passed (keep x) (test x) kept parts.0) more)
      | inr dropped ↦ rw dropped more
    ]
  where
    passed : (a b : Bool) → a ≡ true → (not a || b) ≡ true → b ≡ true
    passed true b is either = either
    passed false b is either = absurd (false≢true is)

-- all pass exactly when none fails
pub none_fails : {X : Type 0} (test : X → Bool) (xs : List X)
    → (length (filter (λ x. not (test x)) xs) == 0) ≡ list_all test xs
none_fails test [] = refl
none_fails test (x ∷ xs) = by_test (test x) (none_fails test xs)
  where
    by_test : (b : Bool)
        → (length (filter (λ y. not (test y)) xs) == 0) ≡ list_all test xs
        → (length (cond (not b) (x ∷ filter (λ y. not (test y)) xs)
        (filter (λ y. not (test y)) xs)) == 0) ≡ (b && list_all test xs)
    by_test true later = later
    by_test false later = ne_eqb (length (x ∷ filter (λ y. not (test y)) xs)) 0
        (λ e. omega arith)

-- all pass a test exactly when none of them fails it
pub all_pass-none_fails : (test : ℕ → Bool) (clubs failed : List ℕ) (is_empty : Bool)
    → failed ≡ filter (λ x. not (test x)) clubs → (IsTrue is_empty ↔ (failed ≡ []))
    → is_empty ≡ list_all test clubs
all_pass-none_fails test clubs failed is_empty are says =
    same_from_decides {P = failed ≡ []} is_empty (list_all test clubs) says
    (λ all. are ∙ none clubs all, λ empty. each clubs (sym are ∙ empty))
  where
    none : (clubs : List ℕ) → list_all test clubs ≡ true → filter (λ x. not (test x)) clubs ≡ []
    none [] all = refl
    none (club ∷ clubs) all =
        let parts = and_parts (test club) (list_all test clubs) all in
        ap (λ b. cond (not b) (club ∷ filter (λ x. not (test x)) clubs)
        (filter (λ x. not (test x)) clubs)) parts.0
        ∙ none clubs parts.1

    each : (clubs : List ℕ) → filter (λ x. not (test x)) clubs ≡ [] → list_all test clubs ≡ true
    each [] empty = refl
    each (club ∷ clubs) empty =
        elim (test club) as (λ b. cond (not b) (club ∷ filter (λ x. not (test x)) clubs)
        (filter (λ x. not (test x)) clubs) ≡ [] → (b && list_all test clubs) ≡ true) [
          | true ↦ λ e. each clubs e
          | false ↦ λ e. absurd (cc)
        ] empty

pub filter_cond : (p : ℕ → Bool) (b : Bool) (y : ℕ) (rest : List ℕ)
    → filter p (cond b (y ∷ rest) rest) ≡ cond (b && p y) (y ∷ filter p rest) (filter p rest)
filter_cond p true y rest = refl
filter_cond p false y rest = refl

-- to pass two tests, one after the other, is to pass both
pub filter-filter : (p q : ℕ → Bool) (xs : List ℕ)
    → filter p (filter q xs) ≡ filter (λ x. q x && p x) xs
filter-filter p q [] = refl
filter-filter p q (y ∷ ys) =
    filter_cond p (q y) y (filter q ys)
    ∙ ap (λ rest. cond (q y && p y) (y ∷ rest) rest) (filter-filter p q ys)

-- a filter that keeps each
pub filter-true : {X : Type 0} (xs : List X) → filter (λ x. true) xs ≡ xs
filter-true [] = refl
filter-true (x ∷ xs) = ap (λ more. x ∷ more) (filter-true xs)
