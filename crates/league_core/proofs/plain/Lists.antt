-- General facts on lists: what all, some or none of a list pass.
use Rattle.std.proofs.Common.{All, Bool, Contains, List, None, Some, [], ap, arith, cond, false}
use Rattle.std.proofs.Common.{get_or, inl, inr, length, map, nat_lt, not, position, refl, replicate}
use Rattle.std.proofs.Common.{set, suc, true, ℕ, ◌&&◌, ◌++◌, ◌+◌, ◌<◌, ◌||◌, ◌∙◌, ◌∷◌, ◌≡◌, ◌⊎◌}
use Rattle.std.specs.List.{list_all, list_any, prefix_len}
use Rattle.std.proofs.lemmas.Bool.{and_from, and_parts, cases_Bool, false≢true, or_cases}
use Rattle.std.proofs.lemmas.Bool.{true≢false}
use Rattle.std.proofs.lemmas.List.{length-map}
use Rattle.std.proofs.lemmas.List.Elements.{All-cons, All-nil, All-replicate, All-set}
use Rattle.std.proofs.lemmas.List.Elements.{Contains-append_right}
use Rattle.std.proofs.lemmas.List.Folds.{list_all-append}
use Rattle.std.proofs.lemmas.List.Sums.{AllPass-from_list_all, list_all-from_AllPass}

-- what all of a list pass, the one at a place passes
pub list_all-at : {X : Type 0} (test : X → Bool) (xs : List X) (i : ℕ) (d : X) → i < length xs
    → list_all test xs ≡ true → test (get_or xs i d) ≡ true
list_all-at test xs i d within all = AllPass-from_list_all test xs all i d within

-- and what each of them passes, all pass
pub all_from : {X : Type 0} (test : X → Bool) (xs : List X) (d : X)
    → ((k : ℕ) → k < length xs → test (get_or xs k d) ≡ true) → list_all test xs ≡ true
all_from test [] d each = refl
all_from test (x ∷ xs) d each =
    and_from (test x) (list_all test xs) (each 0 (omega arith))
    (all_from test xs d (λ k within. each (suc k) (omega arith)))

pub list_all-true : {X : Type 0} (xs : List X) → list_all (λ x. true) xs ≡ true
list_all-true [] = refl
list_all-true (x ∷ xs) = list_all-true xs

pub list_all-last : {A : Type 0} (test : A → Bool) (xs : List A) (x : A)
    → list_all test (xs ++ x ∷ []) ≡ true → test x ≡ true
list_all-last test [] x all = (and_parts (test x) true all).0
list_all-last test (y ∷ xs) x all =
    list_all-last test xs x (and_parts (test y) (list_all test (xs ++ x ∷ [])) all).1

-- one that fails is one that does not pass
pub any_fails : (test : ℕ → Bool) (clubs : List ℕ)
    → list_any (λ club. not (test club)) clubs ≡ not (list_all test clubs)
any_fails test [] = refl
any_fails test (club ∷ clubs) = by_test (test club) (any_fails test clubs)
  where
    by_test : (b : Bool) → list_any (λ other. not (test other)) clubs ≡ not (list_all test clubs)
        → (not b || list_any (λ other. not (test other)) clubs) ≡ not (b && list_all test clubs)
    by_test true later = later
    by_test false later = refl

-- a test that no club passes is passed by none of a list
pub list_any-never : (test : ℕ → Bool) (clubs : List ℕ) → ((club : ℕ) → test club ≡ true → ⊥)
    → list_any test clubs ≡ true → ⊥
list_any-never test [] fails any = false≢true any
list_any-never test (club ∷ clubs) fails any =
    elim (or_cases (test club) (list_any test clubs) any) as (λ _. ⊥) [
      | inl here ↦ fails club here
      | inr later ↦ list_any-never test clubs fails later
    ]

pub list_all-each : (test : ℕ → Bool) (clubs : List ℕ) → ((club : ℕ) → test club ≡ true)
    → list_all test clubs ≡ true
list_all-each test [] passes = refl
list_all-each test (club ∷ clubs) passes =
    and_from (test club) (list_all test clubs) (passes club) (list_all-each test clubs passes)

-- what all of a list pass, they pass if each that passes the one test passes the other
pub list_all-weaker : {X : Type 0} (p q : X → Bool) (xs : List X)
    → ((x : X) → p x ≡ true → q x ≡ true) → list_all p xs ≡ true → list_all q xs ≡ true
list_all-weaker p q [] weaker all = refl
list_all-weaker p q (x ∷ xs) weaker all =
    let parts = and_parts (p x) (list_all p xs) all in
    and_from (q x) (list_all q xs) (weaker x parts.0) (list_all-weaker p q xs weaker parts.1)

-- a list that passes, with one more that does
pub list_all-push : {A : Type 0} (p : A → Bool) (xs : List A) (y : A) → list_all p xs ≡ true
    → p y ≡ true → list_all p (xs ++ y ∷ []) ≡ true
list_all-push p xs y all one =
    list_all-append p xs (y ∷ []) ∙ and_from (list_all p xs) (p y && true) all
    (and_from (p y) true one refl)

-- a test of a list's images
pub list_any-map : {A B : Type 0} (f : A → B) (p : B → Bool) (xs : List A)
    → list_any p (map f xs) ≡ list_any (λ x. p (f x)) xs
list_any-map f p [] = refl
list_any-map f p (x ∷ xs) = rw (list_any-map f p xs) refl

-- how many images pass from the start on
pub prefix_len-map : {A B : Type 0} (f : A → B) (p : B → Bool) (xs : List A)
    → prefix_len p (map f xs) ≡ prefix_len (λ x. p (f x)) xs
prefix_len-map f p [] = refl
prefix_len-map f p (x ∷ xs) = ap (λ n. cond (p (f x)) (1 + n) 0) (prefix_len-map f p xs)

-- the first image that passes
pub position-map : {A B : Type 0} (f : A → B) (p : B → Bool) (xs : List A)
    → position p (map f xs) ≡ position (λ x. p (f x)) xs
position-map f p xs =
    ap (λ n. cond (nat_lt n (length (map f xs))) (Some n) None)
    (prefix_len-map f (λ x. not (p x)) xs)
    ∙ ap (λ n. cond (nat_lt (prefix_len (λ x. not (p (f x))) xs) n)
    (Some (prefix_len (λ x. not (p (f x))) xs)) None)
    (length-map xs f)

-- one of two texts, each without such a byte
pub list_any-cond : (p : ℕ → Bool) (test : Bool) (first second : List ℕ) → list_any p first ≡ false
    → list_any p second ≡ false → list_any p (cond test first second) ≡ false
list_any-cond p true first second none_first none_second = none_first
list_any-cond p false first second none_first none_second = none_second

-- some element fails if not all pass
pub list_all-fails : {X : Type 0} (test : X → Bool) (xs : List X) (d : X) → list_all test xs ≡ false
    → (k : ℕ) × (k < length xs) × (test (get_or xs k d) ≡ false)
list_all-fails test [] d fails = absurd (true≢false fails)
list_all-fails test (x ∷ xs) d fails =
    elim (cases_Bool (test x)) as
    (λ _. (k : ℕ) × (k < length (x ∷ xs)) × (test (get_or (x ∷ xs) k d) ≡ false)) [
      | inl passed ↦
          let rest = list_all-fails test xs d (others (test x) (list_all test xs) passed fails) in
          (suc rest.0, omega (arith, rest.1), rest.2)
      | inr failed ↦ (0, omega arith, failed)
    ]
  where
    others : (a b : Bool) → a ≡ true → (a && b) ≡ false → b ≡ false
    others true b is fails = fails
    others false b is fails = absurd (false≢true is)

-- an element of the list passes the test, or none does
pub some_or_none : {X : Type 0} (test : X → Bool) (xs : List X)
    → ((x : X) × Contains xs x × (test x ≡ true)) ⊎ All (λ x. test x ≡ false) xs
some_or_none test [] = inr (All-nil (λ x. test x ≡ false))
some_or_none {X} test (x ∷ xs) =
    elim (test x) as (λ b. test x ≡ b
    → ((y : X) × Contains (x ∷ xs) y × (test y ≡ true)) ⊎ All (λ y. test y ≡ false) (x ∷ xs)) [
      | true ↦ λ here. inl (x, (0, omega arith, refl), here)
      | false ↦ λ here. elim (some_or_none test xs) [
        | inl found ↦ inl (
          found.0,
          Contains-append_right (x ∷ []) xs found.0 found.1,
          found.2,
        )
        | inr none ↦ inr (All-cons (λ y. test y ≡ false) x xs here none)
      ]
    ] refl

-- one element that passes is written into a list of such
pub list_all-set : {X : Type 0} (p : X → Bool) (xs : List X) (i : ℕ) (x : X) → p x ≡ true
    → list_all p xs ≡ true → list_all p (set xs i x) ≡ true
list_all-set p xs i x passes all =
    list_all-from_AllPass p (set xs i x)
    (All-set (λ y. p y ≡ true) xs i x passes (AllPass-from_list_all p xs all))

-- copies of an element that passes
pub list_all-replicate : {X : Type 0} (p : X → Bool) (n : ℕ) (x : X) → p x ≡ true
    → list_all p (replicate n x) ≡ true
list_all-replicate p n x passes = list_all-from_AllPass p (replicate n x)
    (All-replicate (λ y. p y ≡ true) n x passes)
