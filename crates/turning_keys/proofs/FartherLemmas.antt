-- Keys of which the one is no farther in than the other: at the first part in which they differ it
-- is farther out, for missing greater and for qualifying less.
use Rattle.std.proofs.Common.{◌≡◌, ◌⊎◌, ℕ, ◌+◌, ℤ, pos, neg_ℤ, ◌≤ℤ◌, ◌<ℤ◌, true, List, []}
use Rattle.std.proofs.Common.{◌∷◌, ◌++◌, length, replicate, map, slice_get, Some, Ordering, Less}
use Rattle.std.proofs.Common.{Equal, Greater, zero, suc, refl, sym, ap, ◌∙◌, subst, inl, inr, arith}
use Rattle.std.specs.Ordering.{int_cmp, is_le, ordering_then}
use Rattle.std.specs.Cmp.{int_cmp_is}
use Rattle.std.specs.Cmp.Lexicographic.{slice_cmp}
use Rattle.std.proofs.lemmas.Bool.{false≢true}
use Rattle.std.proofs.lemmas.Cmp.{int_ranked}
use Rattle.std.proofs.lemmas.Int.{ints}
use Rattle.std.proofs.lemmas.Option.{none-some, same_Some}
use Rattle.league_core.specs.declared.question.Claim.{Claim}
use Rattle.league_core.specs.declared.question.Claim.TheVariants.{Inside, Outside}
use Rattle.league_core.specs.game.HeadToHead.{greater_first}
use Rattle.league_core.specs.search.Keys.{AreAtMost}
use Rattle.league_core.specs.search.PointRanges.{Range}
use Rattle.cup_sheet.specs.KeyBounds.{far_part, IsBeyond, IsInNearHalf}
use Rattle.turning_keys.specs.inside.TurningSearches.{far_end}
use Rattle.turning_keys.specs.inside.TurningLaws.{AreWithinFar}

-- ---- two numbers

-- the number is farther in than the other
abbrev pub IsFartherIn : Claim → ℤ → ℤ → Type 0
IsFartherIn Outside number other = number <ℤ other
IsFartherIn Inside number other = other <ℤ number

-- of two numbers the one is less, or they are the same, or the other is less
pub three_ways : (x y : ℤ) → (x <ℤ y) ⊎ (x ≡ y) ⊎ (y <ℤ x)
three_ways x y =
    elim (int_cmp x y) as (λ o. o ≡ int_cmp x y → (x <ℤ y) ⊎ (x ≡ y) ⊎ (y <ℤ x)) [
      | Less ↦ λ is. inl (int_ranked x y Less is)
      | Equal ↦ λ is. inr (inl (int_ranked x y Equal is))
      | Greater ↦ λ is. inr (inr (int_ranked x y Greater is))
    ] refl

not_below_itself : (number : ℤ) → number <ℤ number → ⊥
not_below_itself number below = omega (arith, ints, below)

not_in_itself : (claim : Claim) (number : ℤ) → IsFartherIn claim number number → ⊥
not_in_itself Outside number within = not_below_itself number within
not_in_itself Inside number within = not_below_itself number within

below_at_most : (x y : ℤ) → x <ℤ y → x ≤ℤ y
below_at_most x y below = omega (arith, ints, below)

same_at_most : (x y : ℤ) → x ≡ y → x ≤ℤ y
same_at_most x y same = omega (arith, ints, same)

in_near_half : (claim : Claim) (middle number : ℤ) → IsFartherIn claim number middle
    → IsInNearHalf claim middle number
in_near_half Outside middle number within = below_at_most number middle within
in_near_half Inside middle number within = below_at_most middle number within

middle_in_half : (claim : Claim) (middle number : ℤ) → number ≡ middle
    → IsInNearHalf claim middle number
middle_in_half Outside middle number same = same_at_most number middle same
middle_in_half Inside middle number same = same_at_most middle number (sym same)

not_above : (x y : ℤ) → x ≤ℤ y → y <ℤ x → ⊥
not_above x y at_most above = omega (arith, ints, at_most, above)

-- what lies in the near half is farther in than the middle, or is the middle
half_cases : (claim : Claim) (middle number : ℤ) → IsInNearHalf claim middle number
    → IsFartherIn claim number middle ⊎ (number ≡ middle)
half_cases Outside middle number within =
    elim (three_ways number middle) as (λ _. IsFartherIn Outside number middle
    ⊎ (number ≡ middle)) [
      | inl below ↦ inl below
      | inr rest ↦ elim rest as (λ _. IsFartherIn Outside number middle ⊎ (number ≡ middle)) [
        | inl same ↦ inr same
        | inr above ↦ absurd (not_above number middle within above)
      ]
    ]
half_cases Inside middle number within =
    elim (three_ways number middle) as (λ _. IsFartherIn Inside number middle
    ⊎ (number ≡ middle)) [
      | inl below ↦ absurd (not_above middle number within below)
      | inr rest ↦ elim rest as (λ _. IsFartherIn Inside number middle ⊎ (number ≡ middle)) [
        | inl same ↦ inr same
        | inr above ↦ inl above
      ]
    ]

-- ---- two keys

-- of two keys of as many parts the other is no farther in
abbrev pub IsNoFartherIn : Claim → List ℤ → List ℤ → Type 0
IsNoFartherIn claim [] [] = Unit {0}
IsNoFartherIn claim [] (other ∷ others) = ⊥
IsNoFartherIn claim (part ∷ parts) [] = ⊥
IsNoFartherIn claim (part ∷ parts) (other ∷ others) =
    IsFartherIn claim part other ⊎ ((part ≡ other) × IsNoFartherIn claim parts others)

step_le : (o rest : Ordering) → is_le (ordering_then o rest) ≡ true
    → (o ≡ Less) ⊎ ((o ≡ Equal) × (is_le rest ≡ true))
step_le Less rest le = inl refl
step_le Equal rest le = inr (refl, le)
step_le Greater rest le = absurd (false≢true le)

-- what is beyond a key is no farther in
pub to_parts : (claim : Claim) (bound key : List ℤ) → length bound ≡ length key
    → IsBeyond claim bound key → IsNoFartherIn claim bound key
to_parts Outside [] [] same beyond = tt
to_parts Outside [] (y ∷ ys) same beyond = absurd (omega arith)
to_parts Outside (x ∷ xs) [] same beyond = absurd (omega arith)
to_parts Outside (x ∷ xs) (y ∷ ys) same beyond =
    elim (step_le (int_cmp x y) (slice_cmp greater_first ys xs) beyond)
    as (λ _. IsFartherIn Outside x y ⊎ ((x ≡ y) × IsNoFartherIn Outside xs ys)) [
      | inl less ↦ inl (int_ranked x y Less (sym less))
      | inr both ↦ inr (
        int_ranked x y Equal (sym both.0),
        to_parts Outside xs ys (omega arith) both.1,
      )
    ]
to_parts Inside [] [] same beyond = tt
to_parts Inside [] (y ∷ ys) same beyond = absurd (omega arith)
to_parts Inside (x ∷ xs) [] same beyond = absurd (omega arith)
to_parts Inside (x ∷ xs) (y ∷ ys) same beyond =
    elim (step_le (int_cmp y x) (slice_cmp greater_first xs ys) beyond)
    as (λ _. IsFartherIn Inside x y ⊎ ((x ≡ y) × IsNoFartherIn Inside xs ys)) [
      | inl less ↦ inl (int_ranked y x Less (sym less))
      | inr both ↦ inr (
        sym (int_ranked y x Equal (sym both.0)),
        to_parts Inside xs ys (omega arith) both.1,
      )
    ]

less_first : (o rest : Ordering) → o ≡ Less → is_le (ordering_then o rest) ≡ true
less_first o rest is = ap (λ first. is_le (ordering_then first rest)) is

equal_first : (o rest : Ordering) → o ≡ Equal → is_le rest ≡ true
    → is_le (ordering_then o rest) ≡ true
equal_first o rest is le = ap (λ first. is_le (ordering_then first rest)) is ∙ le

-- and what is no farther in is beyond it
pub from_parts : (claim : Claim) (bound key : List ℤ) → IsNoFartherIn claim bound key
    → IsBeyond claim bound key
from_parts Outside [] [] parts = refl
from_parts Outside [] (y ∷ ys) parts = absurd parts
from_parts Outside (x ∷ xs) [] parts = absurd parts
from_parts Outside (x ∷ xs) (y ∷ ys) parts =
    elim parts as (λ _. IsBeyond Outside (x ∷ xs) (y ∷ ys)) [
      | inl within ↦ less_first (int_cmp x y) (slice_cmp greater_first ys xs)
          (sym (int_cmp_is x y Less within))
      | inr both ↦ equal_first (int_cmp x y) (slice_cmp greater_first ys xs)
          (sym (int_cmp_is x y Equal both.0)) (from_parts Outside xs ys both.1)
    ]
from_parts Inside [] [] parts = refl
from_parts Inside [] (y ∷ ys) parts = absurd parts
from_parts Inside (x ∷ xs) [] parts = absurd parts
from_parts Inside (x ∷ xs) (y ∷ ys) parts =
    elim parts as (λ _. IsBeyond Inside (x ∷ xs) (y ∷ ys)) [
      | inl within ↦ less_first (int_cmp y x) (slice_cmp greater_first xs ys)
          (sym (int_cmp_is y x Less within))
      | inr both ↦ equal_first (int_cmp y x) (slice_cmp greater_first xs ys)
          (sym (int_cmp_is y x Equal (sym both.0))) (from_parts Inside xs ys both.1)
    ]

-- ---- keys that begin alike

rest_no_farther : (claim : Claim) (before parts others : List ℤ)
    → IsNoFartherIn claim (before ++ parts) (before ++ others) → IsNoFartherIn claim parts others
rest_no_farther claim [] parts others all = all
rest_no_farther claim (first ∷ before) parts others all =
    elim all as (λ _. IsNoFartherIn claim parts others) [
      | inl within ↦ absurd (not_in_itself claim first within)
      | inr both ↦ rest_no_farther claim before parts others both.1
    ]

with_before : (claim : Claim) (before parts others : List ℤ) → IsNoFartherIn claim parts others
    → IsNoFartherIn claim (before ++ parts) (before ++ others)
with_before claim [] parts others rest = rest
with_before claim (first ∷ before) parts others rest =
    inr (refl, with_before claim before parts others rest)

within_far : (claim : Claim) (part : ℤ) → (neg_ℤ (pos 100000) ≤ℤ part) × (part ≤ℤ pos 100000)
    → IsInNearHalf claim (far_part claim) part
within_far Outside part near = near.1
within_far Inside part near = near.0

-- no key is beyond the number that is beyond all
pub far_no_farther : (claim : Claim) (count : ℕ) (parts : List ℤ) → length parts ≡ count
    → AreWithinFar parts → IsNoFartherIn claim parts (replicate count (far_part claim))
far_no_farther claim zero [] same near = tt
far_no_farther claim (suc count) [] same near = absurd (omega arith)
far_no_farther claim zero (part ∷ parts) same near = absurd (omega arith)
far_no_farther claim (suc count) (part ∷ parts) same near =
    elim (half_cases claim (far_part claim) part (within_far claim part near.0))
    as (λ _. IsFartherIn claim part (far_part claim) ⊎ ((part ≡ far_part claim)
    × IsNoFartherIn claim parts (replicate count (far_part claim)))) [
      | inl within ↦ inl within
      | inr is ↦ inr (is, far_no_farther claim count parts (omega arith) near.1)
    ]

-- a key with these parts before is no farther out than the one with a middle in the next place only
-- if its own part there lies in the near half
pub near_if_within : (claim : Claim) (before later others : List ℤ) (part middle : ℤ)
    → IsNoFartherIn claim (before ++ part ∷ later) (before ++ middle ∷ others)
    → IsInNearHalf claim middle part
near_if_within claim before later others part middle all =
    elim (rest_no_farther claim before (part ∷ later) (middle ∷ others) all)
    as (λ _. IsInNearHalf claim middle part) [
      | inl within ↦ in_near_half claim middle part within
      | inr both ↦ middle_in_half claim middle part both.0
    ]

-- and if it does, and a number beyond all stands in each later place of the other
pub within_if_near : (claim : Claim) (before later : List ℤ) (part middle : ℤ)
    → AreWithinFar later → IsInNearHalf claim middle part
    → IsNoFartherIn claim (before ++ part ∷ later)
    (before ++ middle ∷ replicate (length later) (far_part claim))
within_if_near claim before later part middle near half =
    let far = replicate (length later) (far_part claim) in
    with_before claim before (part ∷ later) (middle ∷ far)
    (elim (half_cases claim middle part half)
    as (λ _. IsNoFartherIn claim (part ∷ later) (middle ∷ far)) [
      | inl within ↦ inl within
      | inr is ↦ inr (is, far_no_farther claim (length later) later refl near)
    ])

-- ---- parts in their ranges

-- the part after so many lies in the range
abbrev pub IsPartWithin : List ℤ → List ℤ → Range → Type 0
IsPartWithin before [] range = ⊥
IsPartWithin [] (part ∷ parts) range = (range.least ≤ℤ part) × (part ≤ℤ range.greatest)
IsPartWithin (first ∷ before) (part ∷ parts) range = IsPartWithin before parts range

-- that of a key between the low and the high key
pub part_within : (before parts : List ℤ) (ranges : List Range) (range : Range)
    → AreAtMost (map (λ it. it.least) ranges) parts
    → AreAtMost parts (map (λ it. it.greatest) ranges)
    → slice_get ranges (length before) ≡ Some range → IsPartWithin before parts range
part_within before parts [] range low high there = absurd (none-some range there)
part_within before [] (first ∷ ranges) range low high there = absurd low
part_within [] (part ∷ parts) (first ∷ ranges) range low high there =
    subst (λ (it : Range). (it.least ≤ℤ part) × (part ≤ℤ it.greatest))
    (same_Some first range there)
    (low.0, high.0)
part_within (one ∷ before) (part ∷ parts) (first ∷ ranges) range low high there =
    part_within before parts ranges range low.1 high.1 there

pub own_part_within : (before later : List ℤ) (part : ℤ) (range : Range)
    → IsPartWithin before (before ++ part ∷ later) range
    → (range.least ≤ℤ part) × (part ≤ℤ range.greatest)
own_part_within [] later part range within = within
own_part_within (first ∷ before) later part range within =
    own_part_within before later part range within

in_far_half : (claim : Claim) (range : Range) (part : ℤ)
    → (range.least ≤ℤ part) × (part ≤ℤ range.greatest)
    → IsInNearHalf claim (far_end claim range) part
in_far_half Outside range part within = within.1
in_far_half Inside range part within = within.0

-- a key that is no farther out than one with a number beyond all in a place is no farther out than
-- the one with the far end of its own part's range there
pub far_end_no_farther : (claim : Claim) (before parts : List ℤ) (count : ℕ) (range : Range)
    → length parts ≡ length before + suc count → AreWithinFar parts
    → IsPartWithin before parts range
    → IsNoFartherIn claim parts (before ++ replicate (suc count) (far_part claim))
    → IsNoFartherIn claim parts
    (before ++ far_end claim range ∷ replicate count (far_part claim))
far_end_no_farther claim before [] count range sized near within all = absurd within
far_end_no_farther claim [] (part ∷ parts) count range sized near within all =
    elim (half_cases claim (far_end claim range) part (in_far_half claim range part within))
    as (λ _. IsNoFartherIn claim (part ∷ parts)
    (far_end claim range ∷ replicate count (far_part claim))) [
      | inl inner ↦ inl inner
      | inr is ↦ inr (
        is,
        far_no_farther claim count parts (omega arith)
            near.1,
      )
    ]
far_end_no_farther claim (first ∷ before) (part ∷ parts) count range sized near within all =
    elim all as (λ _. IsNoFartherIn claim (part ∷ parts)
    (first ∷ (before ++ far_end claim range ∷ replicate count (far_part claim)))) [
      | inl inner ↦ inl inner
      | inr both ↦ inr (
        both.0,
        far_end_no_farther claim before parts count range (omega arith) near.1 within both.1,
      )
    ]
