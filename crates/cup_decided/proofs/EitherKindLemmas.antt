-- Numbers that are each of one kind or of the other: so many of the one, or so many of the other,
-- in rising order. And lines for each of a list, one after the other.
use Rattle.std.proofs.Common.{◌≡◌, ◌≢◌, ◌⊎◌, ◌<◌, ◌≤◌, ℕ, zero, suc, ◌+◌, nat_lt, List, [], ◌∷◌}
use Rattle.std.proofs.Common.{◌++◌, length, refl, ap, subst, sym, inl, inr, arith}
use Rattle.std.specs.Prelude.{All}
use Rattle.std.specs.List.{range_with_len}
use Rattle.std.proofs.lemmas.Bool.{cases_Bool, cases_eq, ltb-true, ltb-false}
use Rattle.std.proofs.lemmas.List.Elements.{All-cons, All-nil, All-head, All-tail}
use Rattle.std.proofs.lemmas.List.FromFn.{get_or-range_with_len, length-range_with_len}
use Rattle.cup_sheet.specs.CupAnswers.{AreRising}
use Rattle.cup_text.specs.declared.cup_line.CupLine.{CupLine}
use Rattle.cup_text.specs.CupItems.{AreLinesOf}

-- ---- so many numbers

-- so many numbers of a kind, in rising order from one on
abbrev pub HasRising : (ℕ → Type 0) → ℕ → ℕ → Type 0
HasRising P least many =
    (numbers : List ℕ) × (length numbers ≡ many) × AreRising least numbers × All P numbers

none_rising : (P : ℕ → Type 0) (least : ℕ) → HasRising P least 0
none_rising P least = ([], refl, tt, All-nil P)

one_rising : (P : ℕ → Type 0) (least many : ℕ) → P least → HasRising P (least + 1) many
    → HasRising P least (suc many)
one_rising P least many here later = (
  least ∷ later.0,
  ap (λ n. suc n) later.1,
  (omega arith, later.2),
  All-cons P least later.0 here later.3,
)

rising_earlier : (least : ℕ) (numbers : List ℕ) → AreRising (least + 1) numbers
    → AreRising least numbers
rising_earlier least [] rising = tt
rising_earlier least (number ∷ numbers) rising = (omega (arith, rising.0), rising.1)

from_later : (P : ℕ → Type 0) (least many : ℕ) → HasRising P (least + 1) many
    → HasRising P least many
from_later P least many later =
    (later.0, later.1, rising_earlier least later.0 later.2, later.3)

module _ (P Q : ℕ → Type 0) where
  abbrev HasEither : ℕ → ℕ → ℕ → Type 0
  HasEither least few many = HasRising P least few ⊎ HasRising Q least many

  either_later : (least few many : ℕ) → HasEither (least + 1) few many
      → HasEither least few many
  either_later least few many (inl some) = inl (from_later P least few some)
  either_later least few many (inr others) = inr (from_later Q least many others)

  one_of_kind : (least few many : ℕ) → P least → HasEither (least + 1) few (suc many)
      → HasEither least (suc few) (suc many)
  one_of_kind least few many here (inl some) = inl (one_rising P least few here some)
  one_of_kind least few many here (inr others) = inr (from_later Q least (suc many) others)

  one_of_others : (least few many : ℕ) → Q least → HasEither (least + 1) (suc few) many
      → HasEither least (suc few) (suc many)
  one_of_others least few many here (inl some) = inl (from_later P least (suc few) some)
  one_of_others least few many here (inr others) = inr (one_rising Q least many here others)

  -- if each is of the one kind or of the other
  either_kind : (count few many least : ℕ) → few + many ≤ count + 1
      → ((number : ℕ) → least ≤ number → number < least + count → P number ⊎ Q number)
      → HasEither least few many
  either_kind count zero many least enough decide = inl (none_rising P least)
  either_kind count (suc few) zero least enough decide = inr (none_rising Q least)
  either_kind zero (suc few) (suc many) least enough decide = absurd (omega (arith, enough))
  either_kind (suc count) (suc few) (suc many) least enough decide =
      let later : (number : ℕ) → least + 1 ≤ number → number < least + 1 + count
      → P number ⊎ Q number =
      λ number low high. decide number (omega (arith, low)) (omega (arith, high)) in
      elim (decide least (omega arith) (omega arith))
      as (λ _. HasEither least (suc few) (suc many)) [
        | inl here ↦ one_of_kind least few many here
            (either_kind count few (suc many) (least + 1) (omega (arith, enough)) later)
        | inr here ↦ one_of_others least few many here
            (either_kind count (suc few) many (least + 1) (omega (arith, enough)) later)
      ]

  -- if each but one is
  pub either_but_one : (count few many least one : ℕ) → few + many ≤ count
      → ((number : ℕ) → least ≤ number → number < least + count → number ≢ one
      → P number ⊎ Q number)
      → HasEither least few many
  either_but_one count zero many least one enough decide = inl (none_rising P least)
  either_but_one count (suc few) zero least one enough decide = inr (none_rising Q least)
  either_but_one zero (suc few) (suc many) least one enough decide =
      absurd (omega (arith, enough))
  either_but_one (suc count) (suc few) (suc many) least one enough decide =
      let later : (number : ℕ) → least + 1 ≤ number → number < least + 1 + count
      → number ≢ one → P number ⊎ Q number =
      λ number low high. decide number (omega (arith, low)) (omega (arith, high)) in
      elim (cases_eq least one) as (λ _. HasEither least (suc few) (suc many)) [
        | inl same ↦ either_later least (suc few) (suc many)
            (either_kind count (suc few) (suc many) (least + 1) (omega (arith, enough))
            (λ number low high. later number low high
            (λ is. absurd (omega (arith, low, is, same)))))
        | inr other ↦ elim (decide least (omega arith) (omega arith) other)
            as (λ _. HasEither least (suc few) (suc many)) [
              | inl here ↦ one_of_kind least few many here
                  (either_but_one count few (suc many) (least + 1) one (omega (arith, enough))
                  later)
              | inr here ↦ one_of_others least few many here
                  (either_but_one count (suc few) many (least + 1) one (omega (arith, enough))
                  later)
            ]
      ]

  -- of so many numbers one is of the one kind, or all are of the other
  abbrev pub HasOneOrAll : ℕ → Type 0
  HasOneOrAll count =
      ((number : ℕ) × (number < count) × P number) ⊎ ((number : ℕ) → number < count → Q number)

  all_with_last : (count : ℕ) → ((number : ℕ) → number < count → Q number) → Q count
      → (number : ℕ) → number < suc count → Q number
  all_with_last count each last number below =
      elim (cases_Bool (nat_lt number count)) as (λ _. Q number) [
        | inl before ↦ each number (ltb-true number count before)
        | inr not_before ↦
            let same : number ≡ count = omega (arith, below, ltb-false number count not_before) in
            subst Q (sym same) last
      ]

  pub one_or_all : (count : ℕ) → ((number : ℕ) → number < count → P number ⊎ Q number)
      → HasOneOrAll count
  one_or_all zero decide = inr (λ number below. absurd (omega (arith, below)))
  one_or_all (suc count) decide =
      elim (one_or_all count (λ number below. decide number (omega (arith, below))))
      as (λ _. HasOneOrAll (suc count)) [
        | inl found ↦ inl (found.0, omega (arith, found.1), found.2)
        | inr each ↦ elim (decide count (omega arith)) as (λ _. HasOneOrAll (suc count)) [
          | inl here ↦ inl (count, omega arith, here)
          | inr last ↦ inr (all_with_last count each last)
        ]
      ]

-- what holds of each number below one holds of all in the list of them
pub all_of_range : (P : ℕ → Type 0) (count : ℕ) → ((number : ℕ) → number < count → P number)
    → All P (range_with_len 0 count)
all_of_range P count each i d below =
    let within : i < count = omega (arith, below, length-range_with_len 0 count) in
    subst P (sym (get_or-range_with_len 0 count i d within)) (each (0 + i) (omega (arith, within)))

-- ---- lines

-- lines for each make lines of all
pub lines_of_all : {A : Type 0} (IsPart : A → List CupLine → Type 0) (xs : List A)
    → All (λ x. (lines : List CupLine) × IsPart x lines) xs
    → (lines : List CupLine) × AreLinesOf IsPart xs lines
lines_of_all IsPart [] all = ([], refl)
lines_of_all IsPart (x ∷ xs) all =
    let first = All-head (λ it. (lines : List CupLine) × IsPart it lines) x xs all in
    let rest = lines_of_all IsPart xs
    (All-tail (λ it. (lines : List CupLine) × IsPart it lines) x xs all) in
    (first.0 ++ rest.0, (first.0, rest.0, first.1, rest.1, refl))

-- and back
pub all_have_lines : {A : Type 0} (IsPart : A → List CupLine → Type 0) (xs : List A)
    (lines : List CupLine) → AreLinesOf IsPart xs lines
    → All (λ x. (part : List CupLine) × IsPart x part) xs
all_have_lines IsPart [] lines are = All-nil (λ x. (part : List CupLine) × IsPart x part)
all_have_lines IsPart (x ∷ xs) lines are =
    All-cons (λ it. (part : List CupLine) × IsPart it part) x xs (are.0, are.2)
    (all_have_lines IsPart xs are.1 are.3)
