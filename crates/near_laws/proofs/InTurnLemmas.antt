-- Lists of numbers that are compared in turn, by the first difference: one bounds another from
-- below, bounds add up, and what has a bound above zero is above zero.
use Rattle.std.proofs.Common.{◌≤ℤ◌, ◌≡◌, ◌⊎◌, ℤ, pos, ◌<ℤ◌, Bool, true, false, cond, List, [], ◌∷◌}
use Rattle.std.proofs.Common.{◌++◌, length, Ordering, Less, Equal, Greater, is_lt, refl, sym, ap}
use Rattle.std.proofs.Common.{◌∙◌, subst, inl, inr, arith}
use Rattle.std.specs.Ordering.{is_le, ordering_then}
use Rattle.std.proofs.lemmas.Int.{ints, by_lt_z}
use Rattle.std.proofs.lemmas.Bool.{false≢true}
use Rattle.near_laws.specs.Leads.{by_lead, lesser, added_parts}
use Rattle.league_core.specs.game.HeadToHead.{greater_first, by_first_difference}
use Rattle.league_core.proofs.OrderingLemmas.{greater_first-greater}
use Rattle.league_core.proofs.plain.Orderings.{int_cmp-less}

-- the numbers are those of the least or above: at the first difference they have the greater one
abbrev pub IsFrom : List ℤ → List ℤ → Type 0
IsFrom [] [] = Unit {0}
IsFrom [] (number ∷ numbers) = ⊥
IsFrom (least ∷ leasts) [] = ⊥
IsFrom (least ∷ leasts) (number ∷ numbers) =
    (least <ℤ number) ⊎ ((least ≡ number) × IsFrom leasts numbers)

pub from_itself : (numbers : List ℤ) → IsFrom numbers numbers
from_itself [] = tt
from_itself (number ∷ numbers) = inr (refl, from_itself numbers)

pub from_trans : (low mid high : List ℤ) → IsFrom low mid → IsFrom mid high → IsFrom low high
from_trans [] [] [] from more = tt
from_trans [] [] (h ∷ high) from more = absurd more
from_trans [] (m ∷ mid) high from more = absurd from
from_trans (l ∷ low) [] high from more = absurd from
from_trans (l ∷ low) (m ∷ mid) [] from more = absurd more
from_trans (l ∷ low) (m ∷ mid) (h ∷ high) (inl below) (inl under) = inl (omega (arith, ints))
from_trans (l ∷ low) (m ∷ mid) (h ∷ high) (inl below) (inr level) =
    let same = level.0 in inl (omega (arith, ints))
from_trans (l ∷ low) (m ∷ mid) (h ∷ high) (inr level) (inl under) =
    let same = level.0 in inl (omega (arith, ints))
from_trans (l ∷ low) (m ∷ mid) (h ∷ high) (inr level) (inr more) =
    inr (level.0 ∙ more.0, from_trans low mid high level.1 more.1)

-- bounds add up part by part
pub from_added : (low more numbers others : List ℤ) → IsFrom low numbers → IsFrom more others
    → IsFrom (added_parts low more) (added_parts numbers others)
from_added [] more [] others from further = tt
from_added [] more (n ∷ numbers) others from further = absurd from
from_added (l ∷ low) more [] others from further = absurd from
from_added (l ∷ low) [] (n ∷ numbers) [] from further = tt
from_added (l ∷ low) [] (n ∷ numbers) (o ∷ others) from further = absurd further
from_added (l ∷ low) (m ∷ more) (n ∷ numbers) [] from further = absurd further
from_added (l ∷ low) (m ∷ more) (n ∷ numbers) (o ∷ others) (inl below) (inl under) =
    inl (omega (arith, ints))
from_added (l ∷ low) (m ∷ more) (n ∷ numbers) (o ∷ others) (inl below) (inr level) =
    let same = level.0 in inl (omega (arith, ints))
from_added (l ∷ low) (m ∷ more) (n ∷ numbers) (o ∷ others) (inr level) (inl under) =
    let same = level.0 in inl (omega (arith, ints))
from_added (l ∷ low) (m ∷ more) (n ∷ numbers) (o ∷ others) (inr level) (inr further) =
    let one = level.0 in
    let other = further.0 in
    inr (omega (arith, ints), from_added low more numbers others level.1 further.1)

-- one part more at both ends
pub from_append : (low numbers : List ℤ) (part : ℤ) → IsFrom low numbers
    → IsFrom (low ++ part ∷ []) (numbers ++ part ∷ [])
from_append [] [] part from = inr (refl, tt)
from_append [] (n ∷ numbers) part from = absurd from
from_append (l ∷ low) [] part from = absurd from
from_append (l ∷ low) (n ∷ numbers) part (inl below) = inl below
from_append (l ∷ low) (n ∷ numbers) part (inr level) =
    inr (level.0, from_append low numbers part level.1)

-- what the comparison of two numbers says of them
pub first_is_greater : (x y : ℤ) → greater_first x y ≡ Less → y <ℤ x
first_is_greater x y h = grind (arith, ints)

pub first_is_same : (x y : ℤ) → greater_first x y ≡ Equal → x ≡ y
first_is_same x y h = grind (arith, ints)

pub first_is_less : (x y : ℤ) → greater_first x y ≡ Greater → x <ℤ y
first_is_less x y h = grind (arith, ints)

-- the second list bounds the first one, or the other way round
abbrev BoundsOther : Bool → List ℤ → List ℤ → Type 0
BoundsOther true xs ys = IsFrom ys xs
BoundsOther false xs ys = IsFrom xs ys

-- of two lists of one length the one that does not come first bounds the other
compared_from : (xs ys : List ℤ) → length xs ≡ length ys
    → BoundsOther (is_lt (by_first_difference xs ys)) xs ys
compared_from [] [] same = tt
compared_from [] (y ∷ ys) same = absurd (omega arith)
compared_from (x ∷ xs) [] same = absurd (omega arith)
compared_from (x ∷ xs) (y ∷ ys) same =
    by_first (greater_first x y) refl (compared_from xs ys (omega arith))
  where
    by_first : (o : Ordering) → greater_first x y ≡ o
        → BoundsOther (is_lt (by_first_difference xs ys)) xs ys
        → BoundsOther (is_lt (ordering_then o (by_first_difference xs ys))) (x ∷ xs) (y ∷ ys)
    by_first Less is rest = inl (first_is_greater x y is)
    by_first Greater is rest = inl (first_is_less x y is)
    by_first Equal is rest = both (is_lt (by_first_difference xs ys)) rest
      where
        both : (b : Bool) → BoundsOther b xs ys → BoundsOther b (x ∷ xs) (y ∷ ys)
        both true from = inr (sym (first_is_same x y is), from)
        both false from = inr (first_is_same x y is, from)

-- the lesser of two lists of one length bounds both
pub lesser_bounds : (xs ys : List ℤ) → length xs ≡ length ys
    → IsFrom (lesser xs ys) xs × IsFrom (lesser xs ys) ys
lesser_bounds xs ys same = chosen (is_lt (by_first_difference xs ys)) (compared_from xs ys same)
  where
    chosen : (b : Bool) → BoundsOther b xs ys
        → IsFrom (cond b ys xs) xs × IsFrom (cond b ys xs) ys
    chosen true from = (from, from_itself ys)
    chosen false from = (from_itself xs, from)

-- a number that is not behind zero
not_below : (number : ℤ) (rest : Ordering)
    → is_le (ordering_then (greater_first number (pos 0)) rest) ≡ true → pos 0 ≤ℤ number
not_below number rest is =
    by_lt_z number (pos 0)
    (λ below. absurd (false≢true
    (sym (ap (λ o. is_le (ordering_then o rest)) (greater_first-greater number (pos 0) below))
    ∙ is)))
    (λ from. from)

-- numbers from a least above zero are above zero
pub from_ahead : (low numbers : List ℤ) → IsFrom low numbers → by_lead low ≡ Less
    → by_lead numbers ≡ Less
from_ahead [] [] from ahead = ahead
from_ahead [] (n ∷ numbers) from ahead = absurd from
from_ahead (l ∷ low) [] from ahead = absurd from
from_ahead (l ∷ low) (n ∷ numbers) (inl below) ahead =
    let least = not_below l (by_lead low) (ap is_le ahead) in
    ap (λ o. ordering_then o (by_lead numbers)) (int_cmp-less (pos 0) n (omega (arith, ints)))
from_ahead (l ∷ low) (n ∷ numbers) (inr level) ahead =
    by_first (greater_first n (pos 0))
    (subst (λ (x : ℤ). ordering_then (greater_first x (pos 0)) (by_lead low) ≡ Less) level.0 ahead)
    (from_ahead low numbers level.1)
  where
    by_first : (o : Ordering) → ordering_then o (by_lead low) ≡ Less
        → (by_lead low ≡ Less → by_lead numbers ≡ Less)
        → ordering_then o (by_lead numbers) ≡ Less
    by_first Less h more = refl
    by_first Equal h more = more h
    by_first Greater h more = h

-- and those from one that is not below zero are not
pub from_level : (low numbers : List ℤ) → IsFrom low numbers → is_le (by_lead low) ≡ true
    → is_le (by_lead numbers) ≡ true
from_level [] [] from level = level
from_level [] (n ∷ numbers) from level = absurd from
from_level (l ∷ low) [] from level = absurd from
from_level (l ∷ low) (n ∷ numbers) (inl below) level =
    let least = not_below l (by_lead low) level in
    ap (λ o. is_le (ordering_then o (by_lead numbers)))
    (int_cmp-less (pos 0) n (omega (arith, ints)))
from_level (l ∷ low) (n ∷ numbers) (inr same) level =
    by_first (greater_first n (pos 0))
    (subst (λ (x : ℤ). is_le (ordering_then (greater_first x (pos 0)) (by_lead low)) ≡ true) same.0
    level)
    (from_level low numbers same.1)
  where
    by_first : (o : Ordering) → is_le (ordering_then o (by_lead low)) ≡ true
        → (is_le (by_lead low) ≡ true → is_le (by_lead numbers) ≡ true)
        → is_le (ordering_then o (by_lead numbers)) ≡ true
    by_first Less h more = refl
    by_first Equal h more = more h
    by_first Greater h more = h
