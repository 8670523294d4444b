-- General facts on runs of numbers: what all of a run pass, and which of it are kept.
use Rattle.std.proofs.Common.{All, Bool, List, [], ap, arith, cond, drop, eqb, false, filter, inl}
use Rattle.std.proofs.Common.{inr, length, ltb, min, nat_lt, refl, subst, suc, sym, true, zero}
use Rattle.std.proofs.Common.{zero-add, ℕ, ◌++◌, ◌+◌, ◌-◌, ◌<◌, ◌==◌, ◌∙◌, ◌∷◌, ◌≡◌, ◌≢◌, ◌≤◌, ◌⊎◌}
use Rattle.std.specs.List.{list_all, range_with_len}
use Rattle.std.proofs.lemmas.Bool.{and_from, and_parts, cases_Bool, cases_eq, eq-eqb, eqb-false}
use Rattle.std.proofs.lemmas.Bool.{eqb-true, ltb-false, ltb-true, ne_eqb}
use Rattle.std.proofs.lemmas.List.{drop_more, map-id}
use Rattle.std.proofs.lemmas.List.Elements.{All-from_get_or}
use Rattle.std.proofs.lemmas.List.FromFn.{get_or-range_with_len, length-range_with_len}
use Rattle.std.proofs.lemmas.List.FromFn.{map-range_with_len_more}

-- the clubs from one on
pub drop-range : (clubs club : ℕ) → club < clubs
    → drop club (range_with_len 0 clubs) ≡ club ∷ drop (club + 1) (range_with_len 0 clubs)
drop-range clubs club within =
    drop_more (range_with_len 0 clubs) club 0 (omega (arith, length-range_with_len 0 clubs))
    ∙ ap (λ it. it ∷ drop (club + 1) (range_with_len 0 clubs))
    (get_or-range_with_len 0 clubs club 0 within ∙ zero-add club)

-- some number below the bound passes, or none does
pub some_below : (test : ℕ → Bool) (bound : ℕ)
    → ((k : ℕ) × (test k ≡ true)) ⊎ ((k : ℕ) → k < bound → test k ≡ false)
some_below test zero = inr (λ k below. absurd (omega arith))
some_below test (suc bound) =
    elim (cases_Bool (test bound)) [
      | inl passed ↦ inl (bound, passed)
      | inr failed ↦ elim (some_below test bound) [
        | inl found ↦ inl found
        | inr none ↦ inr (λ k below. last k failed none below)
      ]
    ]
  where
    last : (k : ℕ) → test bound ≡ false → ((j : ℕ) → j < bound → test j ≡ false) → k < suc bound
        → test k ≡ false
    last k failed none below =
        elim (cases_Bool (nat_lt k bound)) as (λ _. test k ≡ false) [
          | inl small ↦ none k (ltb-true k bound small)
          | inr large ↦
              let past = ltb-false k bound large in
              let same : bound ≡ k = omega arith in
              subst (λ (n : ℕ). test n ≡ false) same failed
        ]

pub numbers_below : (count : ℕ) → All (λ n. n < count) (range_with_len 0 count)
numbers_below count =
    All-from_get_or (λ n. n < count) (range_with_len 0 count) 0
    (λ i h. let below : i < count = omega (arith, length-range_with_len 0 count) in
    subst (λ n. n < count) (sym (get_or-range_with_len 0 count i 0 below)) (omega arith))

-- of a run of numbers, those below a limit are the first ones
pub filter-range_below : (limit from count : ℕ)
    → filter (λ x. ltb x limit) (range_with_len from count) ≡ range_with_len from
    (min count (limit - from))
filter-range_below limit from zero =
    let none : 0 ≡ min 0 (limit - from) = omega arith in
    ap (range_with_len from) none
filter-range_below limit from (suc count) =
    filter_front limit from count (ltb from limit) refl (filter-range_below limit (from + 1) count)
  where
    filter_front : (limit from count : ℕ) (b : Bool) → ltb from limit ≡ b
        → filter (λ x. ltb x limit) (range_with_len (from + 1) count) ≡ range_with_len (from + 1)
        (min count (limit - (from + 1)))
        → cond b (from ∷ filter (λ x. ltb x limit) (range_with_len (from + 1) count))
        (filter (λ x. ltb x limit) (range_with_len (from + 1) count)) ≡ range_with_len from
        (min (suc count) (limit - from))
    filter_front limit from count true below rest =
        let under : from < limit = ltb-true from limit below in
        let more : suc (min count (limit - (from + 1))) ≡ min (suc count)
        (limit - from) = omega arith in
        ap (λ xs. from ∷ xs) rest ∙ ap (range_with_len from) more
    filter_front limit from count false above rest =
        let over : limit ≤ from = ltb-false from limit above in
        let none : min count (limit - (from + 1)) ≡ 0 = omega arith in
        let still : 0 ≡ min (suc count) (limit - from) = omega arith in
        rest ∙ ap (range_with_len (from + 1)) none ∙ ap (range_with_len from) still

-- of a run of numbers, one that lies below it is none
pub filter-run_below : (club from count : ℕ) → club < from
    → filter (λ x. eqb club x) (range_with_len from count) ≡ []
filter-run_below club from zero below = refl
filter-run_below club from (suc count) below =
    let other : eqb club from ≡ false = ne_eqb club from (λ e. omega arith) in
    ap (λ b. cond b (from ∷ filter (λ x. eqb club x) (range_with_len (from + 1) count))
    (filter (λ x. eqb club x) (range_with_len (from + 1) count))) other
    ∙ filter-run_below club (from + 1) count (omega arith)

-- of a run of numbers, one that it has is the one that equals it
pub filter-run_one : (club from count : ℕ) → from ≤ club → club < from + count
    → filter (λ x. eqb club x) (range_with_len from count) ≡ club ∷ []
filter-run_one club from zero low high = absurd (omega arith)
filter-run_one club from (suc count) low high =
    by_place (cases_eq club from)
    (λ below. filter-run_one club (from + 1) count below (omega arith))
  where
    rest : List ℕ
    rest = filter (λ x. eqb club x) (range_with_len (from + 1) count)

    by_place : (club ≡ from) ⊎ (club ≢ from) → (from + 1 ≤ club → rest ≡ club ∷ [])
        → cond (eqb club from) (from ∷ rest) rest ≡ club ∷ []
    by_place (inl here) further =
        ap (λ b. cond b (from ∷ rest) rest) (eq-eqb club from here)
        ∙ ap (λ xs. from ∷ xs) (filter-run_below club (from + 1) count (omega arith))
        ∙ ap (λ x. x ∷ []) (sym here)
    by_place (inr later) further =
        ap (λ b. cond b (from ∷ rest) rest) (ne_eqb club from later)
        ∙ further (omega (arith, later))

-- from a later number on a club is not met
pub length-none_of : (from count club : ℕ) → club < from
    → length (filter (λ other. other == club) (range_with_len from count)) ≡ 0
length-none_of from zero club h = refl
length-none_of from (suc count) club h =
    subst (λ (b : Bool). length
    (cond b (from ∷ filter (λ other. other == club) (range_with_len (from + 1) count))
    (filter (λ other. other == club) (range_with_len (from + 1) count))) ≡ 0)
    (sym (ne_eqb from club (omega arith))) (length-none_of (from + 1) count club (omega arith))

-- of numbers in a row a club is one
pub length-one_of : (from count club : ℕ) → from ≤ club → club < from + count
    → length (filter (λ other. other == club) (range_with_len from count)) ≡ 1
length-one_of from zero club low high = absurd (omega arith)
length-one_of from (suc count) club low high =
    let rest = filter (λ other. other == club) (range_with_len (from + 1) count) in
    elim (cases_eq from club) [
      | inl same ↦
          subst (λ (b : Bool). length (cond b (from ∷ rest) rest) ≡ 1) (sym (eq-eqb from club same))
          (ap suc (length-none_of (from + 1) count club (omega arith)))
      | inr different ↦
          subst (λ (b : Bool). length (cond b (from ∷ rest) rest) ≡ 1)
          (sym (ne_eqb from club different))
          (length-one_of (from + 1) count club (omega arith) (omega arith))
    ]

-- a test that each club from one number on passes is passed by all of them
pub all_in_range : (test : ℕ → Bool) (from count : ℕ)
    → ((club : ℕ) → from ≤ club → club < from + count → test club ≡ true)
    → list_all test (range_with_len from count) ≡ true
all_in_range test from zero h = refl
all_in_range test from (suc count) h =
    and_from (test from) (list_all test (range_with_len (from + 1) count))
    (h from (omega arith) (omega arith))
    (all_in_range test (from + 1) count (λ club low high. h club (omega arith) (omega arith)))

-- and what all of them pass, each of them passes
pub each_in_range : (test : ℕ → Bool) (from count : ℕ)
    → list_all test (range_with_len from count) ≡ true → (club : ℕ) → from ≤ club → club
    < from + count → test club ≡ true
each_in_range test from zero h club low high = absurd (omega arith)
each_in_range test from (suc count) h club low high =
    let parts = and_parts (test from) (list_all test (range_with_len (from + 1) count)) h in
    elim (from == club) as (λ b. (from == club) ≡ b → test club ≡ true) [
      | true ↦ λ e. subst (λ (x : ℕ). test x ≡ true) (eqb-true from club e) parts.0
      | false ↦ λ e. each_in_range test (from + 1) count parts.1 club
          (let ne : from ≢ club = eqb-false from club e in omega arith) (omega arith)
    ] refl

-- one number more is the last of a run
pub range_with_len-suc : (clubs : ℕ)
    → range_with_len 0 (clubs + 1) ≡ range_with_len 0 clubs ++ clubs ∷ []
range_with_len-suc clubs =
    let more = map-range_with_len_more (λ (x : ℕ). x) 0 clubs clubs (omega arith) in
    rw (map-id, map-id) at more
