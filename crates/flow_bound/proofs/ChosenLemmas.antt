-- From the parts to the points: what is chosen by the parts of an excess is chosen by the excess.
use Rattle.std.proofs.Common.{◌≡◌, ◌≢◌, ◌⊎◌, ℕ, suc, ◌*◌, ◌%◌, ◌^◌, ◌<◌, ℤ, pos}
use Rattle.std.proofs.Common.{◌≤ℤ◌, Bool, true, false, ◌&&◌, ◌||◌, eqb, cond, List, [], ◌∷◌}
use Rattle.std.proofs.Common.{refl, sym, ap, ◌∙◌, subst, inl, inr}
use Rattle.std.proofs.Common.{arith}
use Rattle.std.specs.Int.RustNames.{bit_or}
use Rattle.std.specs.List.{All, list_all}
use Rattle.std.proofs.lemmas.Int.{ints}
use Rattle.std.proofs.lemmas.Bool.{false≢true, and_from, cases_eq, cases_order, eqb-true, ne_eqb}
use Rattle.std.proofs.lemmas.Bool.{or_cases}
use Rattle.league_core.specs.declared.club_set.ClubSet.{ClubSet}
use Rattle.league_core.specs.game.Sums.{has_club}
use Rattle.league_core.specs.game.ClubSets.{clubs_in}
use Rattle.league_core.proofs.ClubSetLemmas.{has_club-with_bit}
use Rattle.score_box.specs.inside.Boxes.{IsSetOf}
use Rattle.flow_bound.specs.declared.tally.Pair.{Pair}
use Rattle.flow_bound.specs.inside.Excess.{AreMarked, IsChosen, IsFirstAlone, IsInEachGreatest}
use Rattle.flow_bound.specs.inside.Parts.{IsAnsweredSet, IsFirstOver, IsPartOf, entry, excess_in}
use Rattle.flow_bound.specs.inside.Parts.{has_both, side_of, sum_of_pairs}
use Rattle.flow_bound.proofs.OneMoreLemmas.{excess_in-more, with_club}
use Rattle.flow_bound.proofs.PartLemmas.{sum_below-one, sum_below-same}
use Rattle.flow_bound.proofs.PartLemmas.{sum_of_pairs-cons}
use Rattle.flow_bound.proofs.SetLemmas.{all_marked, each_marked, side_of-lt}
use Rattle.league_core.proofs.ClubBitLemmas.{clubs_below-one}

-- the parts of a tally give the excess of each set of marked clubs
pub record GivesExcess (table : List ℤ) (pairs : List Pair) (rivals : ClubSet) (marked : ℕ → Bool)
    (excess : List ℕ → ℤ) : Type 0 where
  pub marks : IsSetOf rivals marked
  pub apart : All (λ pair. pair.home ≢ pair.away) pairs
  pub sums : (set : ClubSet) → IsPartOf (side_of set) (side_of rivals)
      → excess_in table pairs (side_of set) ≡ excess (clubs_in set)

-- a set of one club
one_set : (club : ℕ) → club < 32 → (set : ClubSet) × (clubs_in set ≡ club ∷ [])
one_set club within = (record { bits = 2 ^ club }, clubs_below-one 32 club within)

-- no pair has one club twice
no_pair_alone : (pairs : List Pair) (club : ℕ) → All (λ pair. pair.home ≢ pair.away) pairs
    → sum_of_pairs (has_both (has_club (club ∷ []))) pairs ≡ 0
no_pair_alone [] club apart = refl
no_pair_alone (pair ∷ pairs) club apart =
    let here = sum_of_pairs-cons (has_both (has_club (club ∷ []))) pair pairs in
    let rest = no_pair_alone pairs club (λ k d within. apart (suc k) d (omega arith)) in
    let none = ap (λ b. cond b pair.surplus 0) (not_both (apart 0 pair (omega arith))) in
    omega arith
  where
    or_false : (b : Bool) → (b || false) ≡ b
    or_false true = refl
    or_false false = refl

    not_both : pair.home ≢ pair.away
        → ((eqb club pair.home || false) && (eqb club pair.away || false)) ≡ false
    not_both other = at (cases_eq club pair.home)
      where
        at : (club ≡ pair.home) ⊎ (club ≢ pair.home)
            → ((eqb club pair.home || false) && (eqb club pair.away || false)) ≡ false
        at (inl home) =
            ap (λ b. (eqb club pair.home || false) && b)
            (or_false (eqb club pair.away)
            ∙ ne_eqb club pair.away (λ away. other (sym home ∙ away)))
            ∙ and_false (eqb club pair.home || false)
          where
            and_false : (b : Bool) → (b && false) ≡ false
            and_false true = refl
            and_false false = refl
        at (inr not_home) =
            ap (λ b. b && (eqb club pair.away || false))
            (or_false (eqb club pair.home) ∙ ne_eqb club pair.home not_home)

-- a marked club's own entry is its excess alone
pub alone_is : (table : List ℤ) (pairs : List Pair) (rivals : ClubSet) (marked : ℕ → Bool)
    (excess : List ℕ → ℤ) (club : ℕ) → GivesExcess table pairs rivals marked excess
    → side_of rivals club ≡ true → excess (club ∷ []) ≡ entry table club
alone_is table pairs rivals marked excess club gives among =
    let low = side_of-lt rivals club among in
    let one = one_set club low in
    let part : IsPartOf (side_of one.0) (side_of rivals) =
    λ other has. from_one other (ap (λ clubs. has_club clubs other) (sym one.1) ∙ has) in
    let sums = gives.sums one.0 part in
    let side = ap (λ clubs. excess_in table pairs (has_club clubs)) one.1 in
    let clubs = sum_below-same 32 (λ x. cond (has_club (club ∷ []) x) (entry table x) (pos 0))
    (λ x. cond (eqb club x) (entry table club) (pos 0)) (λ x below. at x (cases_eq club x)) in
    let own = sum_below-one 32 club (entry table club) low in
    let none = no_pair_alone pairs club gives.apart in
    let same = ap excess one.1 in
    omega (arith, ints)
  where
    or_false : (b : Bool) → (b || false) ≡ b
    or_false true = refl
    or_false false = refl

    from_one : (other : ℕ) → has_club (club ∷ []) other ≡ true → side_of rivals other ≡ true
    from_one other has =
        elim (cases_eq club other) as (λ _. side_of rivals other ≡ true) [
          | inl same ↦ ap (side_of rivals) (sym same) ∙ among
          | inr apart ↦ absurd (false≢true
              (sym (or_false (eqb club other) ∙ ne_eqb club other apart) ∙ has))
        ]

    at : (x : ℕ) → (club ≡ x) ⊎ (club ≢ x)
        → cond (has_club (club ∷ []) x) (entry table x) (pos 0)
        ≡ cond (eqb club x) (entry table club) (pos 0)
    at x (inl same) =
        ap (λ b. cond b (entry table x) (pos 0)) (or_false (eqb club x))
        ∙ ap (λ (n : ℕ). cond (eqb club x) (entry table n) (pos 0)) (sym same)
    at x (inr apart) =
        ap (λ b. cond b (entry table x) (pos 0)) (or_false (eqb club x) ∙ ne_eqb club x apart)
        ∙ sym (ap (λ b. cond b (entry table club) (pos 0)) (ne_eqb club x apart))

-- a set of marked clubs is a part of the rivals, and the other way round
pub marked_part : (rivals : ClubSet) (marked : ℕ → Bool) (set : ClubSet) → IsSetOf rivals marked
    → AreMarked marked set → IsPartOf (side_of set) (side_of rivals)
marked_part rivals marked set is all club has =
    is club ∙ each_marked marked (clubs_in set) all club has

pub part_marked : (rivals : ClubSet) (marked : ℕ → Bool) (set : ClubSet) → IsSetOf rivals marked
    → IsPartOf (side_of set) (side_of rivals) → AreMarked marked set
part_marked rivals marked set is part =
    all_marked marked (clubs_in set) (λ club has. sym (is club) ∙ part club has)

pub one_marked : (marked : ℕ → Bool) (set : ClubSet) (club : ℕ) → clubs_in set ≡ club ∷ []
    → marked club ≡ true → AreMarked marked set
one_marked marked set club is has =
    subst (λ clubs. list_all marked clubs ≡ true) (sym is) (and_from (marked club) true has refl)

-- of two clubs that each are the first, each is the other
first_is_one : (table : List ℤ) (pairs : List Pair) (rivals : ClubSet) (marked : ℕ → Bool)
    (excess : List ℕ → ℤ) (club other : ℕ) → GivesExcess table pairs rivals marked excess
    → IsFirstOver table (side_of rivals) club → IsFirstAlone marked excess other → club ≡ other
first_is_one table pairs rivals marked excess club other gives first alone =
    let among : side_of rivals other ≡ true = gives.marks other ∙ alone.has_mark in
    let own = alone_is table pairs rivals marked excess club gives first.among in
    let other_own = alone_is table pairs rivals marked excess other gives among in
    elim (cases_order club other) as (λ _. club ≡ other) [
      | inl same ↦ same
      | inr apart ↦ elim apart as (λ _. club ≡ other) [
        | inl before ↦
            let low = alone.none_before club before (sym (gives.marks club) ∙ first.among) in
            absurd (omega (arith, ints, first.over))
        | inr after ↦
            let low = first.none_before other after among in
            absurd (omega (arith, ints, alone.exceeds))
      ]
    ]

-- a club with an excess alone is in each set of greatest excess: with it, a set without it has more
alone_inside : (table : List ℤ) (pairs : List Pair) (rivals : ClubSet) (marked : ℕ → Bool)
    (excess : List ℕ → ℤ) (club : ℕ) (other : ClubSet)
    → GivesExcess table pairs rivals marked excess → IsFirstOver table (side_of rivals) club
    → AreMarked marked other → ((rival : ClubSet) → AreMarked marked rival
    → excess (clubs_in rival) ≤ℤ excess (clubs_in other))
    → side_of other club ≡ true
alone_inside table pairs rivals marked excess club other gives first all greatest =
    at (side_of other club) refl
  where
    low : club < 32
    low = side_of-lt rivals club first.among

    more : ClubSet
    more = record { bits = bit_or other.bits (1 * 2 ^ club % 2 ^ 32) }

    is_more : (x : ℕ) → side_of more x ≡ with_club (side_of other) club x
    is_more x = has_club-with_bit other.bits club x low

    inside : IsPartOf (side_of other) (side_of rivals)
    inside = marked_part rivals marked other gives.marks all

    part : IsPartOf (side_of more) (side_of rivals)
    part x has =
        elim (or_cases (side_of other x) (eqb club x) (sym (is_more x) ∙ has)) as
        (λ _. side_of rivals x ≡ true) [
          | inl among ↦ inside x among
          | inr same ↦ ap (side_of rivals) (sym (eqb-true club x same)) ∙ first.among
        ]

    at : (b : Bool) → side_of other club ≡ b → side_of other club ≡ true
    at true has = has
    at false out =
        let grows = excess_in-more table pairs (side_of other) (side_of
        more) club low out is_more in
        let most = greatest more (part_marked rivals marked more gives.marks part) in
        absurd (omega (arith, ints, first.over, gives.sums other inside, gives.sums more part))

-- a club alone is the only one
only_club : (club other : ℕ) → has_club (club ∷ []) other ≡ true → club ≡ other
only_club club other among =
    elim (or_cases (eqb club other) false among) as (λ _. club ≡ other) [
      | inl same ↦ eqb-true club other same
      | inr none ↦ absurd (false≢true none)
    ]

-- the clubs that are found are in each set of greatest excess
in_each_greatest : (table : List ℤ) (pairs : List Pair) (rivals : ClubSet) (marked : ℕ → Bool)
    (excess : List ℕ → ℤ) (set : ClubSet) → GivesExcess table pairs rivals marked excess
    → IsAnsweredSet table pairs (side_of rivals) set → IsInEachGreatest marked excess set
in_each_greatest table pairs rivals marked excess set gives (inl (club, first, is)) other all
    greatest one has =
    let among = sym (ap (λ clubs. has_club clubs one) is) ∙ has in
    ap (side_of other) (sym (only_club club one among))
    ∙ alone_inside table pairs rivals marked excess club other gives first all greatest
in_each_greatest table pairs rivals marked excess set gives (inr (none, best)) other all
    greatest one has =
    let part = marked_part rivals marked other gives.marks all in
    let most = best.greatest (side_of other) part in
    let least = greatest set (part_marked rivals marked set gives.marks best.part) in
    best.contained (side_of other) part
    (omega (arith, ints, gives.sums set best.part, gives.sums other part)) one has

-- what is chosen by the parts is chosen by the excess
pub chosen_is : (table : List ℤ) (pairs : List Pair) (rivals : ClubSet) (marked : ℕ → Bool)
    (excess : List ℕ → ℤ) (set : ClubSet) → GivesExcess table pairs rivals marked excess
    → IsAnsweredSet table pairs (side_of rivals) set → IsChosen marked excess set
chosen_is table pairs rivals marked excess set gives (inl (club, first, is)) = record {
  alone = λ other alone.
      is ∙ ap (λ (n : ℕ). n ∷ []) (first_is_one table pairs rivals marked excess club other gives
      first alone);
  together = λ none.
      let own = alone_is table pairs rivals marked excess club gives first.among in
      let low = none club (sym (gives.marks club) ∙ first.among) in
      absurd (omega (arith, ints, first.over));
  contained = in_each_greatest table pairs rivals marked excess set gives (inl (club, first, is));
}
chosen_is table pairs rivals marked excess set gives (inr (none, best)) = record {
  alone = λ other alone.
      let among : side_of rivals other ≡ true = gives.marks other ∙ alone.has_mark in
      let own = alone_is table pairs rivals marked excess other gives among in
      let low = none other among in
      absurd (omega (arith, ints, alone.exceeds));
  together = λ _. record {
    all_marked = part_marked rivals marked set gives.marks best.part;
    greatest = λ other all.
        let part = marked_part rivals marked other gives.marks all in
        let most = best.greatest (side_of other) part in
        omega (arith, ints, gives.sums set best.part, gives.sums other part);
    contained = λ other all same.
        let part = marked_part rivals marked other gives.marks all in
        best.contained (side_of other) part
        (gives.sums other part ∙ same ∙ sym (gives.sums set best.part));
  };
  contained = in_each_greatest table pairs rivals marked excess set gives (inr (none, best));
}
