-- General facts on how many of a list pass.
use Rattle.std.proofs.Common.{Bool, List, [], ap, arith, cond, count_by, count_ones, eqb, false}
use Rattle.std.proofs.Common.{filter, inl, inr, length, nat_lt, not, refl, subst, suc, sym, true}
use Rattle.std.proofs.Common.{zero, zero-add, ℕ, ◌%◌, ◌&&◌, ◌+◌, ◌/◌, ◌<◌, ◌==◌, ◌^◌, ◌||◌, ◌∙◌}
use Rattle.std.proofs.Common.{◌∷◌, ◌≡◌, ◌≢◌, ◌≤◌}
use Rattle.std.specs.Int.{bit_at}
use Rattle.std.specs.List.{list_all, list_any, range_with_len}
use Rattle.std.proofs.lemmas.Bool.{and_parts, cases_eq, false≢true, lt-ltb}
use Rattle.std.proofs.lemmas.Bool.Decides.{nat_tests}
use Rattle.std.proofs.lemmas.List.Elements.{filter_agree}
use Rattle.std.proofs.lemmas.List.Sums.{length-filter, sum_by-append, sum_by-cons}
use Rattle.std.proofs.lemmas.Nat.{ones_le_self, shr-shr, shr_below}
use Rattle.std.proofs.lemmas.Nat.Bits.{bit_at-lt}
use lib.Count.{ones_step}
use Rattle.league_core.proofs.plain.Filters.{none_fails}
use Rattle.league_core.proofs.plain.Parts.{length-cond}
use Rattle.league_core.proofs.plain.Runs.{range_with_len-suc}
use Rattle.league_core.proofs.plain.TruthValues.{one_if-le}

-- the bits from a place on, counted
pub length-run_bits : (bits width from count : ℕ) → from + count ≡ width → bits < 2 ^ width
    → length (filter (λ club. eqb (bit_at bits club) 1) (range_with_len from count)) ≡ count_ones
    (bits / 2 ^ from)
length-run_bits bits width from zero ends fits =
    let at_end : width ≡ 0 + from = omega arith in
    let below : bits < 2 ^ (0 + from) = subst (λ n. bits < 2 ^ n) at_end fits in
    let low : bits / 2 ^ from < 2 ^ 0 = shr_below bits 0 from below in
    let none : bits / 2 ^ from ≡ 0 = omega arith in
    let few = ones_le_self 0 in
    let nothing : 0 ≡ count_ones 0 = omega arith in
    nothing ∙ ap count_ones (sym none)
length-run_bits bits width from (suc count) ends fits =
    let rest = filter (λ club. eqb (bit_at bits club) 1) (range_with_len (from + 1) count) in
    let bit : cond (eqb (bit_at bits from) 1) 1 0 ≡ bits / 2 ^ from % 2 = one_or_none
    (bit_at bits from) (bit_at-lt bits from) in
    let later : length rest ≡ count_ones (bits / 2 ^ (from + 1)) = length-run_bits bits width
    (from + 1) count (omega arith) fits in
    let half : bits / 2 ^ (from + 1) ≡ bits / 2 ^ from / 2 = sym (shr-shr bits from 1) in
    length-cond (eqb (bit_at bits from) 1) from rest
    ∙ ap (λ n. n + length rest) bit
    ∙ ap (λ n. bits / 2 ^ from % 2 + n) (later ∙ ap count_ones half)
    ∙ sym (ones_step (bits / 2 ^ from))
  where
    one_or_none : (n : ℕ) → n < 2 → cond (eqb n 1) 1 0 ≡ n
    one_or_none n low = grind (arith, nat_tests)

-- a test that passes more of a list's clubs counts as many or more
pub count_by-le : (known less more : ℕ → Bool) (clubs : List ℕ) → list_all known clubs ≡ true
    → ((club : ℕ) → known club ≡ true → less club ≡ true → more club ≡ true) → count_by less clubs
    ≤ count_by more clubs
count_by-le known less more [] all h = omega arith
count_by-le known less more (club ∷ clubs) all h =
    let parts = and_parts (known club) (list_all known clubs) all in
    let rest = count_by-le known less more clubs parts.1 h in
    let here = one_if-le (less club) (more club) (h club parts.0) in
    let low = sum_by-cons (λ (x : ℕ). cond (less x) 1 0) club clubs in
    let high = sum_by-cons (λ (x : ℕ). cond (more x) 1 0) club clubs in
    omega arith

-- a count over one club more
pub count_by-range_suc : (p : ℕ → Bool) (clubs : ℕ)
    → count_by p (range_with_len 0 (clubs + 1)) ≡ count_by p (range_with_len 0 clubs) + cond
    (p clubs) 1 0
count_by-range_suc p clubs =
    ap (count_by p) (range_with_len-suc clubs)
    ∙ sum_by-append (λ x. cond (p x) 1 0) (range_with_len 0 clubs) (clubs ∷ [])
    ∙ ap (λ n. count_by p (range_with_len 0 clubs) + n) (zero-add (cond (p clubs) 1 0))

-- the same, if the number is a successor
pub count_suc : (p : ℕ → Bool) (clubs : ℕ)
    → count_by p (range_with_len 0 (suc clubs))
    ≡ count_by p (range_with_len 0 clubs) + cond (p clubs) 1 0
count_suc p clubs =
    let next : suc clubs ≡ clubs + 1 = omega arith in
    ap (λ n. count_by p (range_with_len 0 n)) next ∙ count_by-range_suc p clubs

-- the first of a list counts one, or none
pub count_by-cons : {X : Type 0} (test : X → Bool) (x : X) (xs : List X)
    → count_by test (x ∷ xs) ≡ cond {A = ℕ} (test x) 1 0 + count_by test xs
count_by-cons test x xs = sum_by-cons (λ y. cond {A = ℕ} (test y) 1 0) x xs

-- what a test takes out of those counted, and what it leaves
pub count_by-parts : {X : Type 0} (counted taken left test : X → Bool)
    → ((x : X) → taken x ≡ (counted x && test x))
    → ((x : X) → left x ≡ (counted x && not (test x))) → (xs : List X)
    → count_by taken xs + count_by left xs ≡ count_by counted xs
count_by-parts counted taken left test is_taken is_left [] = refl
count_by-parts {X = X} counted taken left test is_taken is_left (x ∷ xs) =
    let rest = count_by-parts counted taken left test is_taken is_left xs in
    let first = ap (λ b. cond {A = ℕ} b 1 0) (is_taken x) in
    let second = ap (λ b. cond {A = ℕ} b 1 0) (is_left x) in
    omega (
      arith,
      count_by-cons counted x xs,
      count_by-cons taken x xs,
      count_by-cons left x xs,
      first,
      second,
      one (counted x) (test x),
    )
  where
    one : (b t : Bool)
        → cond {A = ℕ} (b && t) 1 0 + cond {A = ℕ} (b && not t) 1 0 ≡ cond {A = ℕ} b 1 0
    one true true = refl
    one true false = refl
    one false t = refl

-- what a filter keeps, counted
pub count_by-filter : {X : Type 0} (keeps test : X → Bool) (xs : List X)
    → count_by test (filter keeps xs) ≡ count_by (λ x. keeps x && test x) xs
count_by-filter keeps test [] = refl
count_by-filter {X = X} keeps test (x ∷ xs) =
    here (keeps x)
    ∙ ap (λ n. cond {A = ℕ} (keeps x && test x) 1 0 + n) (count_by-filter keeps test xs)
    ∙ sym (count_by-cons (λ y. keeps y && test y) x xs)
  where
    here : (b : Bool)
        → count_by test (cond b (x ∷ filter keeps xs) (filter keeps xs)) ≡ cond {A = ℕ}
        (b && test x) 1 0 + count_by test (filter keeps xs)
    here true = count_by-cons test x (filter keeps xs)
    here false = omega arith

-- tests that agree count alike
pub count_by-agree : {X : Type 0} (test other : X → Bool) → ((x : X) → test x ≡ other x)
    → (xs : List X) → count_by test xs ≡ count_by other xs
count_by-agree test other agree xs =
    sym (length-filter test xs) ∙ ap length (filter_agree test other agree xs)
    ∙ length-filter other xs

pub all_counted : {X : Type 0} (test : X → Bool) (xs : List X)
    → (count_by (λ x. not (test x)) xs == 0) ≡ list_all test xs
all_counted test xs =
    ap (λ n. n == 0) (sym (length-filter (λ x. not (test x)) xs)) ∙ none_fails test xs

-- one rival passes exactly when the count is not 0
pub any_counted : (test : ℕ → Bool) (xs : List ℕ) → nat_lt 0 (count_by test xs) ≡ list_any test xs
any_counted test [] = refl
any_counted test (x ∷ xs) =
    counted (test x) (count_by test (x ∷ xs)) (count_by test xs) (list_any test xs)
    (sum_by-cons (λ (y : ℕ). cond (test y) 1 0) x xs) (any_counted test xs)
  where
    counted : (b : Bool) (all rest : ℕ) (later : Bool) → all ≡ cond b 1 0 + rest
        → nat_lt 0 rest ≡ later → nat_lt 0 all ≡ (b || later)
    counted true all rest later more is = lt-ltb 0 all (omega (arith, more))
    counted false all rest later more is =
        let none : all ≡ rest = omega (arith, more) in ap (nat_lt 0) none ∙ is

-- tests that agree on the clubs count the same
pub count_agrees : (p q : ℕ → Bool) (clubs : ℕ) → ((x : ℕ) → x < clubs → p x ≡ q x)
    → count_by p (range_with_len 0 clubs) ≡ count_by q (range_with_len 0 clubs)
count_agrees p q zero agree = refl
count_agrees p q (suc clubs) agree =
    let rest = count_agrees p q clubs (λ x below. agree x (omega arith)) in
    let here : cond {A = ℕ} (p clubs) 1 0 ≡ cond {A = ℕ} (q clubs) 1 0 =
    ap (λ b. cond {A = ℕ} b 1 0) (agree clubs (omega arith)) in
    omega (arith, count_suc p clubs, count_suc q clubs)

-- a test that passes one club more counts one more
pub count_one_more : (p q : ℕ → Bool) (clubs club : ℕ) → club < clubs
    → ((x : ℕ) → x < clubs → x ≢ club → p x ≡ q x) → p club ≡ false → q club ≡ true
    → count_by p (range_with_len 0 clubs) + 1 ≡ count_by q (range_with_len 0 clubs)
count_one_more p q zero club below agree out within = absurd (omega arith)
count_one_more p q (suc clubs) club below agree out within =
    elim (cases_eq club clubs) [
      | inl same ↦
          let rest = count_agrees p q clubs
          (λ x low. agree x (omega arith) (λ e. absurd (omega arith))) in
          let less : cond {A = ℕ} (p clubs) 1 0 ≡ 0 = ap (λ b. cond {A = ℕ} b 1 0)
          (ap p (sym same) ∙ out) in
          let more : cond {A = ℕ} (q clubs) 1 0 ≡ 1 = ap (λ b. cond {A = ℕ} b 1 0)
          (ap q (sym same) ∙ within) in
          omega (arith, count_suc p clubs, count_suc q clubs)
      | inr different ↦
          let rest = count_one_more p q clubs club (omega arith)
          (λ x low other. agree x (omega arith) other) out within in
          let here : cond {A = ℕ} (p clubs) 1 0 ≡ cond {A = ℕ} (q clubs) 1 0 =
          ap (λ b. cond {A = ℕ} b 1 0) (agree clubs (omega arith) (λ e. different (sym e))) in
          omega (arith, count_suc p clubs, count_suc q clubs)
    ]

-- a test that passes no more clubs counts no more
pub count_fewer : (p q : ℕ → Bool) (clubs : ℕ) → ((x : ℕ) → p x ≡ true → q x ≡ true)
    → count_by p (range_with_len 0 clubs) ≤ count_by q (range_with_len 0 clubs)
count_fewer p q zero within = omega arith
count_fewer p q (suc clubs) within =
    let rest = count_fewer p q clubs within in
    let here : cond {A = ℕ} (p clubs) 1 0 ≤ cond {A = ℕ} (q clubs) 1 0 =
    one (p clubs) (q clubs) (within clubs) in
    omega (arith, count_suc p clubs, count_suc q clubs, rest, here)
  where
    one : (b c : Bool) → (b ≡ true → c ≡ true) → cond {A = ℕ} b 1 0 ≤ cond {A = ℕ} c 1 0
    one false c sub = omega arith
    one true true sub = omega arith
    one true false sub = absurd (false≢true (sub refl))

-- and fewer, if it misses one of them
pub count_misses : (p q : ℕ → Bool) (clubs club : ℕ) → club < clubs
    → ((x : ℕ) → p x ≡ true → q x ≡ true) → p club ≡ false → q club ≡ true
    → count_by p (range_with_len 0 clubs) + 1 ≤ count_by q (range_with_len 0 clubs)
count_misses p q zero club below within out among = absurd (omega arith)
count_misses p q (suc clubs) club below within out among =
    elim (cases_eq club clubs) as (λ _. count_by p (range_with_len 0 (suc clubs)) + 1
    ≤ count_by q (range_with_len 0 (suc clubs))) [
      | inl same ↦
          let rest = count_fewer p q clubs within in
          let none : cond {A = ℕ} (p clubs) 1 0 ≡ 0 =
          ap (λ b. cond {A = ℕ} b 1 0) (ap p (sym same) ∙ out) in
          let one : cond {A = ℕ} (q clubs) 1 0 ≡ 1 =
          ap (λ b. cond {A = ℕ} b 1 0) (ap q (sym same) ∙ among) in
          omega (arith, count_suc p clubs, count_suc q clubs, rest, none, one)
      | inr other ↦
          let rest = count_misses p q clubs club (omega arith) within out among in
          let here : cond {A = ℕ} (p clubs) 1 0 ≤ cond {A = ℕ} (q clubs) 1 0 =
          no_more (p clubs) (q clubs) (within clubs) in
          omega (arith, count_suc p clubs, count_suc q clubs, rest, here)
    ]
  where
    no_more : (b c : Bool) → (b ≡ true → c ≡ true) → cond {A = ℕ} b 1 0 ≤ cond {A = ℕ} c 1 0
    no_more false c sub = omega arith
    no_more true true sub = omega arith
    no_more true false sub = absurd (false≢true (sub refl))
