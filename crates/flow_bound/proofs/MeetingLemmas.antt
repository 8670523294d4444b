-- The matches of a set by their numbers: their pairs are all that a part of the set has.
use Rattle.std.proofs.Common.{◌≡◌, ◌⊎◌, inl, inr, ℕ, ◌+◌, ◌<◌, ℤ, pos, ◌+ℤ◌, Bool, true, false}
use Rattle.std.proofs.Common.{cond, List, [], ◌∷◌, length, get_or, set, take, map, refl, sym}
use Rattle.std.proofs.Common.{ap, ◌∙◌, subst, arith}
use Rattle.std.proofs.lemmas.Bool.{false≢true, and_parts, and_from, cases_eq, false_from_ne_true}
use Rattle.std.proofs.lemmas.List.{get_or-set_same, get_or-set_other, take-set-le, length-set}
use Rattle.std.proofs.lemmas.List.Sums.{sum_by-cons, sum_by_more}
use Rattle.score_box.specs.inside.ZoneBoxViews.{ZoneBoxView}
use Rattle.score_box.specs.inside.Unplayed.{unplayed_in}
use Rattle.flow_bound.specs.declared.cut.Cut.{Cut}
use Rattle.flow_bound.specs.declared.tally.Pair.{Pair}
use Rattle.flow_bound.specs.inside.Fixtures.{pair_at, pairs_in, sum_at}
use Rattle.flow_bound.specs.inside.Meetings.{AreHeld, IsTestOfSide}
use Rattle.flow_bound.specs.inside.Network.{has_away_in, has_home_in}
use Rattle.flow_bound.specs.inside.Parts.{IsPartOf, has_both, sum_of_pairs, sum_of_side}
use Rattle.flow_bound.proofs.PartLemmas.{sum_of_pairs-cons}

-- what the match of a number adds to a sum
abbrev pub counted_at : (Pair → Bool) → Cut → ZoneBoxView → ℕ → ℕ
counted_at test cut box number =
    cond (test (pair_at cut box number)) (pair_at cut box number).surplus 0

-- the pairs of some matches, by their numbers
sum_mapped : (test : Pair → Bool) (cut : Cut) (box : ZoneBoxView) (numbers : List ℕ)
    → sum_of_pairs test (map (pair_at cut box) numbers) ≡ sum_at test cut box numbers
sum_mapped test cut box [] = refl
sum_mapped test cut box (number ∷ numbers) =
    let more = sum_mapped test cut box numbers in
    let first = sum_of_pairs-cons test (pair_at cut box number) (map (pair_at cut box) numbers) in
    let second = sum_by-cons (counted_at test cut box) number numbers in
    omega (arith, more, first, second)

pub sum_of_open : (test : Pair → Bool) (cut : Cut) (box : ZoneBoxView)
    → sum_at test cut box (unplayed_in box.season.scores) ≡ sum_of_pairs test (pairs_in cut box)
unfolding pairs_in
sum_of_open test cut box = sym (sum_mapped test cut box (unplayed_in box.season.scores))

-- a match that is none of these adds nothing
pub none_counts : (test : Pair → Bool) (side : ℕ → Bool) (pair : Pair) → IsTestOfSide side test
    → (has_both side pair ≡ false) ⊎ (pair.surplus ≡ 0) → cond (test pair) pair.surplus 0 ≡ 0
none_counts test side pair within (inl out) =
    ap (λ b. cond b pair.surplus 0) (false_from_ne_true (test pair)
    (λ passes. false≢true (sym out ∙ within pair passes)))
none_counts test side pair within (inr nothing) = at (test pair)
  where
    at : (b : Bool) → cond b pair.surplus 0 ≡ 0
    at true = nothing
    at false = refl

-- one number more
pub sum_held : (test : Pair → Bool) (cut : Cut) (box : ZoneBoxView) (held : List ℕ)
    (count number : ℕ)
    → count < length held → sum_at test cut box (take (count + 1) (set held count number))
    ≡ sum_at test cut box (take count held) + counted_at test cut box number
sum_held test cut box held count number room =
    sum_by_more (counted_at test cut box) (set held count number) count 0
    (omega (arith, length-set held count number))
    ∙ ap (λ (ns : List ℕ). sum_at test cut box ns
    + counted_at test cut box (get_or (set held count number) count 0))
    (take-set-le count held count number (omega arith))
    ∙ ap (λ n. sum_at test cut box (take count held) + counted_at test cut box n)
    (get_or-set_same held count number 0 room)

pub held_more : (bound count number : ℕ) (held : List ℕ) → count < length held → number < bound
    → AreHeld bound count held → AreHeld bound (count + 1) (set held count number)
held_more bound count number held room low before k d within =
    elim (cases_eq k count) as (λ _. get_or (set held count number) k d < bound) [
      | inl same ↦
          subst (λ n. n < bound) (sym (ap (λ j. get_or (set held count number) j d) same
          ∙ get_or-set_same held count number d room)) low
      | inr other ↦
          subst (λ n. n < bound) (sym (get_or-set_other held count k number d other))
          (before k d (omega arith))
    ]

-- ---- parts of the set

home_within : (whole rest side : ℕ → Bool) → IsPartOf rest whole
    → IsTestOfSide whole (has_home_in rest side)
home_within whole rest side part pair is =
    let both = and_parts (rest pair.home) (rest pair.away)
    (and_parts (has_both rest pair) (side pair.home) is).0 in
    and_from (whole pair.home) (whole pair.away) (part pair.home both.0) (part pair.away both.1)

away_within : (whole rest side : ℕ → Bool) → IsPartOf rest whole
    → IsTestOfSide whole (has_away_in rest side)
away_within whole rest side part pair is =
    let both = and_parts (rest pair.home) (rest pair.away)
    (and_parts (has_both rest pair) (side pair.away) is).0 in
    and_from (whole pair.home) (whole pair.away) (part pair.home both.0) (part pair.away both.1)

-- what a part reaches by the matches of the whole it reaches by all
pub reach_is : (cut : Cut) (box : ZoneBoxView) (table reach : List ℤ) (numbers : List ℕ)
    (whole rest : ℕ → Bool) → IsPartOf rest whole
    → ((test : Pair → Bool) → IsTestOfSide whole test
    → sum_at test cut box numbers ≡ sum_of_pairs test (pairs_in cut box))
    → ((side : ℕ → Bool) → sum_of_side reach side ≡ sum_of_side table side
    +ℤ pos (sum_at (has_home_in rest side) cut box numbers)
    +ℤ pos (sum_at (has_away_in rest side) cut box numbers))
    → (side : ℕ → Bool) → sum_of_side reach side ≡ sum_of_side table side
    +ℤ pos (sum_of_pairs (has_home_in rest side) (pairs_in cut box))
    +ℤ pos (sum_of_pairs (has_away_in rest side) (pairs_in cut box))
reach_is cut box table reach numbers whole rest part sums reaches side =
    let home = sums (has_home_in rest side) (home_within whole rest side part) in
    let away = sums (has_away_in rest side) (away_within whole rest side part) in
    reaches side
    ∙ ap (λ n. sum_of_side table side +ℤ pos n
    +ℤ pos (sum_at (has_away_in rest side) cut box numbers)) home
    ∙ ap (λ n. sum_of_side table side
    +ℤ pos (sum_of_pairs (has_home_in rest side) (pairs_in cut box)) +ℤ pos n) away
