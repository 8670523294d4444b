-- Ranges that are compared: what two of them say of any two numbers in them, and what lists of them
-- say of lists of numbers.
use Rattle.std.proofs.Common.{◌≡◌, ℤ, ◌≤ℤ◌, Bool, true, false, ◌&&◌, ◌||◌, cond, List, [], ◌∷◌}
use Rattle.std.proofs.Common.{length, Ordering, Less, Equal, Greater, is_eq, refl, sym, ap, subst}
use Rattle.std.proofs.Common.{inl, inr, arith}
use Rattle.std.specs.Prelude.{int_lt}
use Rattle.std.specs.Ordering.{ordering_then}
use Rattle.std.proofs.lemmas.Int.{ints}
use Rattle.std.proofs.lemmas.Bool.{false≢true, and_parts, or_cases}
use Rattle.std.proofs.lemmas.Bool.Decides.{Decides-int_eq}
use Rattle.league_core.specs.declared.sure.Sure.{Sure}
use Rattle.league_core.specs.declared.sure.Sure.TheVariants.{Above, Below, Level, Unknown}
use Rattle.league_core.specs.game.HeadToHead.{greater_first, by_first_difference}
use Rattle.league_core.specs.search.PointRanges.{Range}
use Rattle.league_core.specs.search.SureOrder.{has_one_value, sure_by_range, sure_then}
use Rattle.league_core.specs.search.SureOrder.{sure_by_ranges, is_apart}
use Rattle.league_core.proofs.OrderingLemmas.{greater_first-same}
use Rattle.league_core.proofs.plain.Orderings.{then-equal, int_cmp-less, int_cmp-greater}
use Rattle.league_core.proofs.plain.Numbers.{int_lt-true, int_lt-false}

-- how the rival surely stands against the club is how the two compare; if that is unknown nothing
-- is said
abbrev pub Agrees : Sure → Ordering → Type 0
Agrees Above order = order ≡ Less
Agrees Below order = order ≡ Greater
Agrees Level order = order ≡ Equal
Agrees Unknown order = Unit {0}

-- one comparison after another
pub then_agrees : (sure next : Sure) (order further : Ordering) → Agrees sure order
    → (order ≡ Equal → Agrees next further)
    → Agrees (sure_then sure next) (ordering_then order further)
then_agrees Above next order further is more = ap (λ o. ordering_then o further) is
then_agrees Below next order further is more = ap (λ o. ordering_then o further) is
then_agrees Level next order further is more =
    subst (Agrees next) (sym (ap (λ o. ordering_then o further) is)) (more is)
then_agrees Unknown next order further is more = tt

-- the number is in the range
abbrev pub IsInRange : Range → ℤ → Type 0
IsInRange range number = (range.least ≤ℤ number) × (number ≤ℤ range.greatest)

-- each number is in the range at its place, and there are as many
abbrev pub AreInRanges : List Range → List ℤ → Type 0
AreInRanges [] [] = Unit {0}
AreInRanges [] (number ∷ numbers) = ⊥
AreInRanges (range ∷ ranges) [] = ⊥
AreInRanges (range ∷ ranges) (number ∷ numbers) = IsInRange range number
    × AreInRanges ranges numbers

pub one_value_is : (range : Range) → has_one_value range ≡ true → range.least ≡ range.greatest
one_value_is range one = (Decides-int_eq range.least range.greatest).0 one

-- what two ranges say of two numbers in them is how these compare
pub range_agrees : (rival club : Range) (x y : ℤ) → IsInRange rival x → IsInRange club y
    → Agrees (sure_by_range rival club) (greater_first x y)
range_agrees rival club x y in_rival in_club =
    by_tests (int_lt club.greatest rival.least) (int_lt rival.greatest club.least)
    (has_one_value rival && has_one_value club) refl refl refl
  where
    by_tests : (above below level : Bool) → int_lt club.greatest rival.least ≡ above
        → int_lt rival.greatest club.least ≡ below
        → (has_one_value rival && has_one_value club) ≡ level
        → Agrees (cond above Above (cond below Below (cond level Level Unknown)))
        (greater_first x y)
    by_tests true below level a b c =
        let more = int_lt-true club.greatest rival.least a in
        int_cmp-less y x (omega (arith, ints))
    by_tests false true level a b c =
        let fewer = int_lt-true rival.greatest club.least b in
        int_cmp-greater y x (omega (arith, ints))
    by_tests false false true a b c =
        let both = and_parts (has_one_value rival) (has_one_value club) c in
        let mine = one_value_is rival both.0 in
        let theirs = one_value_is club both.1 in
        let at_least = int_lt-false club.greatest rival.least a in
        let at_most = int_lt-false rival.greatest club.least b in
        greater_first-same x y (omega (arith, ints))
    by_tests false false false a b c = tt

-- list by list
pub ranges_agree : (rivals clubs : List Range) (xs ys : List ℤ) → length rivals ≡ length clubs
    → AreInRanges rivals xs → AreInRanges clubs ys
    → Agrees (sure_by_ranges rivals clubs) (by_first_difference xs ys)
ranges_agree [] [] [] [] as_many in_rivals in_clubs = refl
ranges_agree [] [] [] (y ∷ ys) as_many in_rivals in_clubs = absurd in_clubs
ranges_agree [] [] (x ∷ xs) ys as_many in_rivals in_clubs = absurd in_rivals
ranges_agree [] (club ∷ clubs) xs ys as_many in_rivals in_clubs = absurd (omega arith)
ranges_agree (rival ∷ rivals) [] xs ys as_many in_rivals in_clubs = absurd (omega arith)
ranges_agree (rival ∷ rivals) (club ∷ clubs) [] ys as_many in_rivals in_clubs = absurd in_rivals
ranges_agree (rival ∷ rivals) (club ∷ clubs) (x ∷ xs)
    [] as_many in_rivals in_clubs = absurd in_clubs
ranges_agree (rival ∷ rivals) (club ∷ clubs) (x ∷ xs) (y ∷ ys) as_many in_rivals in_clubs =
    then_agrees (sure_by_range rival club) (sure_by_ranges rivals clubs) (greater_first x y)
    (by_first_difference xs ys)
    (range_agrees rival club x y in_rivals.0 in_clubs.0)
    (λ _. ranges_agree rivals clubs xs ys (omega arith) in_rivals.1 in_clubs.1)

-- numbers in ranges of which two miss each other do not compare as equal
pub apart_differ : (rivals clubs : List Range) (xs ys : List ℤ) → AreInRanges rivals xs
    → AreInRanges clubs ys → is_apart rivals clubs ≡ true → by_first_difference xs ys ≡ Equal → ⊥
apart_differ [] clubs xs ys in_rivals in_clubs apart same = false≢true apart
apart_differ (rival ∷ rivals) [] xs ys in_rivals in_clubs apart same = false≢true apart
apart_differ (rival ∷ rivals) (club ∷ clubs) [] ys in_rivals in_clubs apart same = in_rivals
apart_differ (rival ∷ rivals) (club ∷ clubs) (x ∷ xs) [] in_rivals in_clubs apart same = in_clubs
apart_differ (rival ∷ rivals) (club ∷ clubs) (x ∷ xs) (y ∷ ys) in_rivals in_clubs apart same =
    let parts = then-equal (greater_first x y) (by_first_difference xs ys) same in
    elim (or_cases (int_lt club.greatest rival.least || int_lt rival.greatest club.least)
    (is_apart rivals clubs) apart) as (λ _. ⊥) [
      | inl here ↦ missed here ((Decides-int_eq y x).0 (ap is_eq parts.0))
      | inr later ↦ apart_differ rivals clubs xs ys in_rivals.1 in_clubs.1 later parts.1
    ]
  where
    missed : (int_lt club.greatest rival.least || int_lt rival.greatest club.least) ≡ true → y ≡ x
        → ⊥
    missed here equal =
        elim (or_cases (int_lt club.greatest rival.least)
        (int_lt rival.greatest club.least) here) as (λ _. ⊥) [
          | inl above ↦ let more = int_lt-true club.greatest rival.least above in omega
              (arith, ints, in_rivals.0, in_clubs.0)
          | inr below ↦ let fewer = int_lt-true rival.greatest club.least below in omega
              (arith, ints, in_rivals.0, in_clubs.0)
        ]
