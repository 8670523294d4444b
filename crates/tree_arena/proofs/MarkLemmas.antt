-- Lists of the nodes that are marked: what a change of one mark does to them.
use Rattle.std.proofs.Common.{◌≡◌, ◌≢◌, ℕ, zero, suc, ◌+◌, ◌<◌, ◌≤◌, ◌==◌, cond}
use Rattle.std.proofs.Common.{List, [], ◌∷◌, ◌++◌, length, get_or, set, refl, sym, ap, ◌∙◌, subst}
use Rattle.std.proofs.Common.{reverse}
use Rattle.std.proofs.Common.{arith, length-append, inl, inr, get_or-set_same, get_or-set_other}
use Rattle.std.specs.List.{remove}
use Rattle.std.proofs.lemmas.Bool.{cases_Bool, eqb-true, eqb-false, eq-eqb}
use Rattle.std.proofs.lemmas.List.{get_or_past, set-get_or, reverse-append}
use Rattle.std.proofs.lemmas.List.Sums.{sum_by_push, sum_by-remove, sum_by-append, sum_by-cons}
use Rattle.std.specs.List.{sum_by}
use Rattle.tree_arena.specs.inside.Arena.{total, times_in, IsListed}

-- one if two numbers are the same, none otherwise
abbrev pub one_if : ℕ → ℕ → ℕ
one_if number other = cond (other == number) 1 0

pub total-append : (ms ns : List ℕ) → total (ms ++ ns) ≡ total ms + total ns
total-append [] ns = omega arith
total-append (m ∷ ms) ns = let rest = total-append ms ns in omega arith

pub total-set : (ms : List ℕ) (at n : ℕ) → at < length ms
    → total (set ms at n) + get_or ms at 0 ≡ total ms + n
total-set [] at n within = absurd (omega arith)
total-set (m ∷ ms) zero n within = omega arith
total-set (m ∷ ms) (suc at) n within =
    let rest = total-set ms at n (omega arith) in omega arith

-- if the list has the number with a mark, the number is that of a node
pub listed_within : (marked list : List ℕ) (at : ℕ) → IsListed marked list
    → 1 ≤ times_in at list → (at < length marked) × (1 ≤ get_or marked at 0)
listed_within marked list at listed some =
    let each = listed.each at in (by_size (omega arith), omega arith)
  where
    by_size : 1 ≤ get_or marked at 0 → at < length marked
    by_size marked_here = grind (arith, get_or_past)

-- a number that is not marked is in no list of the marked ones
pub times_in-unmarked : (marked list : List ℕ) (at : ℕ) → IsListed marked list
    → get_or marked at 0 ≡ 0 → times_in at list ≡ 0
times_in-unmarked marked list at listed none = listed.each at ∙ none

-- a number stands once in a list of itself, and another one not at all
pub one_if-same : (at : ℕ) → one_if at at ≡ 1
one_if-same at = ap (λ b. cond b 1 0) (eq-eqb at at refl)

pub one_if-other : (number at : ℕ) → at ≢ number → one_if number at ≡ 0
one_if-other number at apart = elim (cases_Bool (at == number)) as (λ _. one_if number at ≡ 0) [
  | inl same ↦ absurd (apart (eqb-true at number same))
  | inr different ↦ ap (λ b. cond b 1 0) different
]

pub times_in-push : (number at : ℕ) (list : List ℕ)
    → times_in number (list ++ at ∷ []) ≡ times_in number list + one_if number at
times_in-push number at list = sum_by_push (one_if number) list at

-- nothing changes when a mark is written again
pub listed_same : (marked list : List ℕ) (at n : ℕ) → get_or marked at 0 ≡ n
    → IsListed marked list → IsListed (set marked at n) list
listed_same marked list at n is listed =
    subst (λ (ms : List ℕ). IsListed ms list)
    (sym (set-get_or marked at 0) ∙ ap (set marked at) is) listed

-- a node that is marked comes on the list
pub listed_added : (marked list : List ℕ) (at : ℕ) → IsListed marked list → at < length marked
    → get_or marked at 0 ≡ 0 → IsListed (set marked at 1) (list ++ at ∷ [])
listed_added marked list at listed within none = record {
  each = λ number. times_in-push number at list ∙ by_number number;
  many = let sum = total-set marked at 1 within in
      let before = listed.many in
      omega (arith, length-append list (at ∷ []));
}
  where
    by_number : (number : ℕ)
        → times_in number list + one_if number at ≡ get_or (set marked at 1) number 0
    by_number number = elim (cases_Bool (number == at)) as (λ _.
        times_in number list + one_if number at ≡ get_or (set marked at 1) number 0) [
          | inl same ↦
              let is : number ≡ at = eqb-true number at same in
              subst (λ (k : ℕ). times_in k list + one_if k at ≡ get_or (set marked at 1) k 0) (sym
              is)
              (let once = one_if-same at in
              let absent = times_in-unmarked marked list at listed none in
              let now = get_or-set_same marked at 1 0 within in
              omega arith)
          | inr different ↦
              let apart : number ≢ at = eqb-false number at different in
              let none_here = one_if-other number at (λ is. apart (sym is)) in
              let each = listed.each number in
              let now = get_or-set_other marked at number 1 0 apart in
              omega arith
        ]

-- a node that is marked no more goes off the list
pub listed_taken : (marked list less : List ℕ) (at : ℕ) → IsListed marked list
    → at < length marked → get_or marked at 0 ≡ 1
    → ((number : ℕ) → times_in number less + one_if number at ≡ times_in number list)
    → length less + 1 ≡ length list → IsListed (set marked at 0) less
listed_taken marked list less at listed within one counts shorter = record {
  each = λ number. by_number number;
  many = let sum = total-set marked at 0 within in
      let before = listed.many in
      omega arith;
}
  where
    by_number : (number : ℕ) → times_in number less ≡ get_or (set marked at 0) number 0
    by_number number = elim (cases_Bool (number == at)) as (λ _.
        times_in number less ≡ get_or (set marked at 0) number 0) [
          | inl same ↦
              let is : number ≡ at = eqb-true number at same in
              subst (λ (k : ℕ). times_in k less ≡ get_or (set marked at 0) k 0) (sym is)
              (let once = one_if-same at in
              let count = counts at in
              let each = listed.each at in
              let now = get_or-set_same marked at 0 0 within in
              omega arith)
          | inr different ↦
              let apart : number ≢ at = eqb-false number at different in
              let none_here = one_if-other number at (λ is. apart (sym is)) in
              let count = counts number in
              let each = listed.each number in
              let now = get_or-set_other marked at number 0 0 apart in
              omega arith
        ]

-- the last one that was put on a list goes off it
pub taken_last : (less : List ℕ) (at number : ℕ)
    → times_in number less + one_if number at ≡ times_in number (less ++ at ∷ [])
taken_last less at number = sym (times_in-push number at less)

-- one that stands anywhere goes off it
pub taken_at : (list : List ℕ) (place at number : ℕ) → place < length list
    → at ≡ get_or list place at
    → times_in number (remove list place) + one_if number at ≡ times_in number list
taken_at list place at number within is =
    subst (λ (k : ℕ). times_in number (remove list place) + one_if number k
    ≡ times_in number list) (sym is) (sum_by-remove (one_if number) list place at within)

-- two nodes more, both without a mark, change nothing
pub listed_longer : (marked list : List ℕ) → IsListed marked list
    → IsListed (marked ++ 0 ∷ 0 ∷ []) list
listed_longer marked list listed = record {
  each = λ number. listed.each number ∙ sym (padded marked number);
  many = total-append marked (0 ∷ 0 ∷ []) ∙ omega arith ∙ listed.many;
}
  where
    padded : (ms : List ℕ) (number : ℕ) → get_or (ms ++ 0 ∷ 0 ∷ []) number 0 ≡ get_or ms number 0
    padded [] zero = refl
    padded [] (suc zero) = refl
    padded [] (suc (suc number)) = refl
    padded (m ∷ ms) zero = refl
    padded (m ∷ ms) (suc number) = padded ms number

-- two nodes more, both with a mark, come on the list, the second one first
pub listed_two : (marked list : List ℕ) (size : ℕ) → IsListed marked list → length marked ≡ size
    → IsListed (marked ++ 1 ∷ 1 ∷ []) ((list ++ suc size ∷ []) ++ size ∷ [])
listed_two marked list size listed long = record {
  each = λ number. times_in-push number size (list ++ suc size ∷ [])
      ∙ ap (λ n. n + one_if number size) (times_in-push number (suc size) list)
      ∙ ap (λ n. n + one_if number (suc size) + one_if number size) (listed.each number)
      ∙ subst (λ (n : ℕ). get_or marked number 0 + one_if number (suc n) + one_if number n
      ≡ get_or (marked ++ 1 ∷ 1 ∷ []) number 0) long (ended marked number);
  many = let before = listed.many in
      omega (
        arith,
        total-append marked (1 ∷ 1 ∷ []),
        length-append (list ++ suc size ∷ []) (size ∷ []),
        length-append list (suc size ∷ []),
      );
}
  where
    at_zero : (number : ℕ) → 0 + one_if number 1 + one_if number 0
        ≡ get_or (1 ∷ 1 ∷ []) number 0
    at_zero zero = refl
    at_zero (suc zero) = refl
    at_zero (suc (suc number)) =
        let first = one_if-other (suc (suc number)) 1 (λ is. omega arith) in
        let second = one_if-other (suc (suc number)) 0 (λ is. omega arith) in
        omega arith

    shifted : (number at : ℕ) → one_if (suc number) (suc at) ≡ one_if number at
    shifted number at = elim (cases_Bool (at == number)) as (λ _.
        one_if (suc number) (suc at) ≡ one_if number at) [
          | inl same ↦
              let is : at ≡ number = eqb-true at number same in
              subst (λ (k : ℕ). one_if (suc k) (suc at) ≡ one_if k at) is
              (one_if-same (suc at) ∙ sym (one_if-same at))
          | inr different ↦
              let apart : at ≢ number = eqb-false at number different in
              one_if-other (suc number) (suc at) (λ is. apart (omega arith))
              ∙ sym (one_if-other number at apart)
        ]

    none_at_zero : (at : ℕ) → one_if zero (suc at) ≡ 0
    none_at_zero at = one_if-other zero (suc at) (λ is. omega arith)

    ended : (ms : List ℕ) (number : ℕ)
        → get_or ms number 0 + one_if number (suc (length ms)) + one_if number (length ms)
        ≡ get_or (ms ++ 1 ∷ 1 ∷ []) number 0
    ended [] number = at_zero number
    ended (m ∷ ms) zero =
        let first = none_at_zero (suc (length ms)) in
        let second = none_at_zero (length ms) in
        omega arith
    ended (m ∷ ms) (suc number) =
        let first = shifted number (suc (length ms)) in
        let second = shifted number (length ms) in
        let rest = ended ms number in
        omega arith

-- lists with the same numbers list the same
pub listed_alike : (marked list other : List ℕ) → IsListed marked list
    → ((number : ℕ) → times_in number other ≡ times_in number list)
    → length other ≡ length list → IsListed marked other
listed_alike marked list other listed counts long = record {
  each = λ number. counts number ∙ listed.each number;
  many = listed.many ∙ sym long;
}

-- a sum over a list does not depend on its order
pub sum_by-reverse : (weight : ℕ → ℕ) (list : List ℕ)
    → sum_by weight (reverse list) ≡ sum_by weight list
sum_by-reverse weight [] = refl
sum_by-reverse weight (at ∷ list) =
    let rest = sum_by-reverse weight list in
    let last = sum_by_push weight (reverse list) at in
    let first = sum_by-append weight (at ∷ []) list in
    ap (sum_by weight) (reverse-append (at ∷ []) list) ∙ omega arith

-- nor does how often a number stands there
pub times_in-reverse : (number : ℕ) (list : List ℕ)
    → times_in number (reverse list) ≡ times_in number list
times_in-reverse number list = sum_by-reverse (one_if number) list

-- an entry of a list stands in it
pub times_in-at : (list : List ℕ) (place : ℕ) → place < length list
    → 1 ≤ times_in (get_or list place 0) list
times_in-at [] place within = absurd (omega arith)
times_in-at (x ∷ list) zero within =
    let sum = sum_by-cons (one_if x) x list in
    let one = one_if-same x in
    omega arith
times_in-at (x ∷ list) (suc place) within =
    let sum = sum_by-cons (one_if (get_or list place 0)) x list in
    let rest = times_in-at list place (omega arith) in
    omega arith

-- where a number stands that is in a list
pub record StandsAt (number : ℕ) (list : List ℕ) : Type 0 where
  pub place : ℕ
  pub in_list : place < length list
  pub is : get_or list place 0 ≡ number

pub stands_at : (number : ℕ) (list : List ℕ) → 1 ≤ times_in number list → StandsAt number list
stands_at number [] some = absurd (omega arith)
stands_at number (x ∷ list) some = elim (cases_Bool (x == number)) [
  | inl same ↦ record { place = 0; in_list = omega arith; is = eqb-true x number same }
  | inr different ↦
      let none : one_if number x ≡ 0 = ap (λ b. cond b 1 0) different in
      let sum = sum_by-cons (one_if number) x list in
      let rest = stands_at number list (omega arith) in
      let before = rest.in_list in
      record { place = suc rest.place; in_list = omega arith; is = rest.is }
]
