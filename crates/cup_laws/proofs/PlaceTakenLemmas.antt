-- Each place of a table is some club's: no two clubs have one place, and there are as many places
-- as clubs.
use Rattle.std.proofs.Common.{◌≡◌, ◌≢◌, ◌<◌, ◌≤◌, ℕ, zero, suc, ◌+◌, ◌-◌, Bool, true, false, ◌==◌}
use Rattle.std.proofs.Common.{cond, List, length, count_by, nat_le, refl, sym, ap, ◌∙◌, inl, inr}
use Rattle.std.proofs.Common.{arith}
use Rattle.std.specs.List.{list_any, range_with_len}
use Rattle.std.proofs.lemmas.Bool.{false≢true, or_cases, eqb-true, eq-eqb, cases_Bool, le-leb}
use Rattle.std.proofs.lemmas.Bool.{or_left, or_right}
use Rattle.std.proofs.lemmas.Bool.Decides.{nat_tests}
use Rattle.league_core.specs.declared.sheet.Sheet.{Sheet}
use Rattle.league_core.specs.game.Results.{Results}
use Rattle.league_core.specs.game.Ranking.{are_lots, place_of}
use Rattle.league_core.proofs.RankingLemmas.{ranks_before-one}
use Rattle.league_core.proofs.PlaceLemmas.{place_of-before, place_of-le}
use Rattle.league_core.proofs.plain.Counts.{count_by-cons}

-- what some number of a range passes
pub some_in_range : (p : ℕ → Bool) (from count : ℕ) → list_any p (range_with_len from count) ≡ true
    → (k : ℕ) × (from ≤ k) × (k < from + count) × (p k ≡ true)
some_in_range p from zero is = absurd (false≢true is)
some_in_range p from (suc count) is =
    elim (or_cases (p from) (list_any p (range_with_len (from + 1) count)) is) [
      | inl here ↦ (from, omega arith, omega arith, here)
      | inr later ↦ let found = some_in_range p (from + 1) count later in
          (found.0, omega (arith, found.1), omega (arith, found.2), found.3)
    ]

-- a number of a range that passes is found
pub any_in_range : (p : ℕ → Bool) (from count k : ℕ) → from ≤ k → k < from + count → p k ≡ true
    → list_any p (range_with_len from count) ≡ true
any_in_range p from zero k low high is = absurd (omega (arith, low, high))
any_in_range p from (suc count) k low high is =
    elim (cases_Bool (from == k)) as
    (λ _. list_any p (range_with_len from (suc count)) ≡ true) [
      | inl same ↦ or_left (p from) (list_any p (range_with_len (from + 1) count))
          (ap p (eqb-true from k same) ∙ is)
      | inr other ↦ or_right (p from) (list_any p (range_with_len (from + 1) count))
          (any_in_range p (from + 1) count k (after from k low other) (omega (arith, high)) is)
    ]
  where
    after : (from k : ℕ) → from ≤ k → (from == k) ≡ false → from + 1 ≤ k
    after from k low other = grind (arith, nat_tests, low, other)

-- a function that gives no number of a range the value of another
abbrev pub IsOneToOne : (ℕ → ℕ) → ℕ → ℕ → Type 0
IsOneToOne f from count =
    (k other : ℕ) → from ≤ k → k < from + count → from ≤ other → other < from + count
    → f k ≡ f other → k ≡ other

-- none of a range has the value
none_has : (f : ℕ → ℕ) (value from count : ℕ)
    → ((k : ℕ) → from ≤ k → k < from + count → f k ≢ value)
    → count_by (λ k. f k == value) (range_with_len from count) ≡ 0
none_has f value from zero none = refl
none_has f value from (suc count) none =
    let rest = none_has f value (from + 1) count
    (λ k low high. none k (omega (arith, low)) (omega (arith, high))) in
    let here = miss (f from) value (none from (omega arith) (omega arith)) in
    omega (
      arith,
      rest,
      count_by-cons (λ k. f k == value) from (range_with_len (from + 1) count),
      ap (λ b. cond {A = ℕ} b 1 0) here,
    )
  where
    miss : (a b : ℕ) → a ≢ b → (a == b) ≡ false
    miss a b differ = elim (cases_Bool (a == b)) as (λ _. (a == b) ≡ false) [
      | inl same ↦ absurd (differ (eqb-true a b same))
      | inr other ↦ other
    ]

-- at most one of a range has it
one_has : (f : ℕ → ℕ) (value from count : ℕ) → IsOneToOne f from count
    → count_by (λ k. f k == value) (range_with_len from count) ≤ 1
one_has f value from zero one = omega arith
one_has f value from (suc count) one =
    let counted = count_by-cons (λ k. f k == value) from (range_with_len (from + 1) count) in
    elim (cases_Bool (f from == value)) as
    (λ _. count_by (λ k. f k == value) (range_with_len from (suc count)) ≤ 1) [
      | inl here ↦ let rest = none_has f value (from + 1) count
          (λ k low high same. later k low
          (one from k (omega arith) (omega arith) (omega (arith, low)) (omega (arith, high))
          (eqb-true (f from) value here ∙ sym same))) in
          let first = ap (λ b. cond {A = ℕ} b 1 0) here in
          omega (arith, counted, rest, first)
      | inr other ↦ let rest = one_has f value (from + 1) count
          (λ k third low high low_third high_third. one k third (omega (arith, low))
          (omega (arith, high)) (omega (arith, low_third)) (omega (arith, high_third))) in
          let first = ap (λ b. cond {A = ℕ} b 1 0) other in
          omega (arith, counted, rest, first)
    ]
  where
    later : (k : ℕ) → from + 1 ≤ k → from ≡ k → ⊥
    later k low same = omega (arith, low, same)

-- how many numbers of a range have a value up to this one
abbrev pub count_up_to : (ℕ → ℕ) → ℕ → ℕ → ℕ
count_up_to f count most = count_by (λ k. nat_le (f k) most) (range_with_len 0 count)

-- one value more adds those that have it
up_to_next : (f : ℕ → ℕ) (most from count : ℕ)
    → count_by (λ k. nat_le (f k) (suc most)) (range_with_len from count)
    ≡ count_by (λ k. nat_le (f k) most) (range_with_len from count)
    + count_by (λ k. f k == suc most) (range_with_len from count)
up_to_next f most from zero = refl
up_to_next f most from (suc count) =
    let rest = range_with_len (from + 1) count in
    omega (
      arith,
      up_to_next f most (from + 1) count,
      count_by-cons (λ k. nat_le (f k) (suc most)) from rest,
      count_by-cons (λ k. nat_le (f k) most) from rest,
      count_by-cons (λ k. f k == suc most) from rest,
      step (f from),
    )
  where
    step : (value : ℕ) → cond {A = ℕ} (nat_le value (suc most)) 1 0
        ≡ cond {A = ℕ} (nat_le value most) 1 0 + cond {A = ℕ} (value == suc most) 1 0
    step value = grind (arith, nat_tests)

-- no value is below 1
none_below : (f : ℕ → ℕ) (from count : ℕ)
    → ((k : ℕ) → from ≤ k → k < from + count → 1 ≤ f k)
    → count_by (λ k. nat_le (f k) 0) (range_with_len from count) ≡ 0
none_below f from zero least = refl
none_below f from (suc count) least =
    let rest = none_below f (from + 1) count
    (λ k low high. least k (omega (arith, low)) (omega (arith, high))) in
    let here = above (f from) (least from (omega arith) (omega arith)) in
    omega (
      arith,
      rest,
      count_by-cons (λ k. nat_le (f k) 0) from (range_with_len (from + 1) count),
      ap (λ b. cond {A = ℕ} b 1 0) here,
    )
  where
    above : (value : ℕ) → 1 ≤ value → nat_le value 0 ≡ false
    above value least = grind (arith, nat_tests, least)

-- all values are up to the greatest
all_up_to : (f : ℕ → ℕ) (most from count : ℕ)
    → ((k : ℕ) → from ≤ k → k < from + count → f k ≤ most)
    → count_by (λ k. nat_le (f k) most) (range_with_len from count) ≡ count
all_up_to f most from zero within = refl
all_up_to f most from (suc count) within =
    let rest = all_up_to f most (from + 1) count
    (λ k low high. within k (omega (arith, low)) (omega (arith, high))) in
    let here = le-leb (f from) most (within from (omega arith) (omega arith)) in
    omega (
      arith,
      rest,
      count_by-cons (λ k. nat_le (f k) most) from (range_with_len (from + 1) count),
      ap (λ b. cond {A = ℕ} b 1 0) here,
    )

-- so many more values add so many numbers at most
few_up_to : (f : ℕ → ℕ) (count low more : ℕ) → IsOneToOne f 0 count
    → count_up_to f count (low + more) ≤ count_up_to f count low + more
few_up_to f count low zero one =
    let same : low + 0 ≡ low = omega arith in
    omega (arith, ap (count_up_to f count) same)
few_up_to f count low (suc more) one =
    let before = few_up_to f count low more one in
    let next = up_to_next f (low + more) 0 count in
    let here = one_has f (suc (low + more)) 0 count one in
    let same : low + suc more ≡ suc (low + more) = omega arith in
    omega (arith, before, next, here, ap (count_up_to f count) same)

-- a value of which no number has it leaves too few numbers
value_taken : (f : ℕ → ℕ) (count value : ℕ) → IsOneToOne f 0 count
    → ((k : ℕ) → k < count → 1 ≤ f k) → ((k : ℕ) → k < count → f k ≤ count)
    → 1 ≤ value → value ≤ count
    → (k : ℕ) × (k < count) × (f k ≡ value)
value_taken f count zero one least most low high = absurd (omega (arith, low))
value_taken f count (suc below) one least most low high =
    elim (cases_Bool (list_any (λ k. f k == suc below) (range_with_len 0 count))) as
    (λ _. (k : ℕ) × (k < count) × (f k ≡ suc below)) [
      | inl some ↦ let found = some_in_range (λ k. f k == suc below) 0 count some in
          (found.0, omega (arith, found.2), eqb-true (f found.0) (suc below) found.3)
      | inr none ↦ let nobody = none_has f (suc below) 0 count (missed none) in
          let next = up_to_next f below 0 count in
          let up_to = few_up_to f count 0 below one in
          let bottom = none_below f 0 count (λ k _ inside. least k (omega (arith, inside))) in
          let rest = few_up_to f count (suc below) (count - suc below) one in
          let all = all_up_to f count 0 count (λ k _ inside. most k (omega (arith, inside))) in
          let whole : suc below + (count - suc below) ≡ count = omega (arith, high) in
          let top : count_up_to f count (suc below + (count - suc below)) ≡ count =
          ap (count_up_to f count) whole ∙ all in
          let start : 0 + below ≡ below = omega arith in
          absurd (omega (
            arith,
            nobody,
            next,
            up_to,
            ap (count_up_to f count) start,
            bottom,
            rest,
            top,
            high,
          ))
    ]
  where
    missed : list_any (λ k. f k == suc below) (range_with_len 0 count) ≡ false
        → (k : ℕ) → 0 ≤ k → k < 0 + count → f k ≢ suc below
    missed none k start inside same =
        false≢true (sym none
        ∙ any_in_range (λ k. f k == suc below) 0 count k start inside
        (eq-eqb (f k) (suc below) same))

-- no two clubs have one place
pub same_place : (sheet : Sheet) (finish : Results) (lots : List ℕ) (club other : ℕ)
    → are_lots (length sheet.clubs) lots ≡ true → club < length sheet.clubs
    → other < length sheet.clubs
    → place_of sheet finish lots club ≡ place_of sheet finish lots other → club ≡ other
same_place sheet finish lots club other drawn inside other_inside same =
    elim (cases_Bool (club == other)) as (λ _. club ≡ other) [
      | inl is ↦ eqb-true club other is
      | inr differ ↦ elim (ranks_before-one sheet finish lots club other drawn inside other_inside
          (λ is. false≢true (sym differ ∙ eq-eqb club other is))) as (λ _. club ≡ other) [
            | inl before ↦ absurd (omega (
              arith,
              same,
              place_of-before sheet finish lots club other inside before,
            ))
            | inr before ↦ absurd (omega (
              arith,
              same,
              place_of-before sheet finish lots other club other_inside before,
            ))
          ]
    ]

-- each place from 1 to the number of clubs is some club's
pub place_taken : (sheet : Sheet) (finish : Results) (lots : List ℕ) (place : ℕ)
    → are_lots (length sheet.clubs) lots ≡ true → 1 ≤ place → place ≤ length sheet.clubs
    → (club : ℕ) × (club < length sheet.clubs) × (place_of sheet finish lots club ≡ place)
place_taken sheet finish lots place drawn low high =
    value_taken (place_of sheet finish lots) (length sheet.clubs) place
    (λ club other _ inside _ other_inside same. same_place sheet finish lots club other drawn
    (omega (arith, inside)) (omega (arith, other_inside)) same)
    (λ club inside. omega arith) (λ club inside. place_of-le sheet finish lots club inside) low high
