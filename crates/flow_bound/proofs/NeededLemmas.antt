-- What a club brings to a side that has it: without the club the side has so much less.
use Rattle.std.proofs.Common.{◌≡◌, ◌≢◌, ℕ, suc, ◌+◌, ◌<◌, ◌≤◌, ℤ, pos, ◌+ℤ◌, ◌≤ℤ◌, Bool}
use Rattle.std.proofs.Common.{true, false, not, ◌&&◌, ◌||◌, cond, eqb, List, [], ◌∷◌, refl, sym, ap}
use Rattle.std.proofs.Common.{◌∙◌, arith}
use Rattle.std.specs.List.{All}
use Rattle.std.proofs.lemmas.Int.{ints}
use Rattle.std.proofs.lemmas.Bool.{and_parts, eq-eqb, eqb-true, false≢true, false_from_ne_true}
use Rattle.league_core.specs.declared.club_set.ClubSet.{ClubSet}
use Rattle.flow_bound.specs.declared.tally.Pair.{Pair}
use Rattle.flow_bound.specs.inside.Excess.{IsLeftOpen}
use Rattle.flow_bound.specs.inside.Parts.{IsLeftOpenIn, entry, excess_in, has_both, side_of}
use Rattle.flow_bound.specs.inside.Parts.{sum_of_pairs, sum_of_side}
use Rattle.flow_bound.specs.inside.Network.{has_away_in, has_home_in}
use Rattle.flow_bound.proofs.ChosenLemmas.{GivesExcess, alone_is, part_marked}
use Rattle.flow_bound.proofs.OneMoreLemmas.{clubs_more, with_club}
use Rattle.flow_bound.proofs.PartLemmas.{excess_in-same, sum_of_pairs-cons}
use Rattle.flow_bound.proofs.SetLemmas.{side_of-lt}

-- a side without a club
abbrev without : (ℕ → Bool) → ℕ → ℕ → Bool
without side club other = side other && not (eqb club other)

-- a pair of a side has the club on one hand, or is one of the side without it
pair_without : (surplus : ℕ) (home at_home away at_away : Bool) → (at_home && at_away) ≡ false
    → cond ((home && not at_home) && (away && not at_away)) surplus 0
    + cond ((home && away) && at_home) surplus 0 + cond ((home && away) && at_away) surplus 0
    ≤ cond (home && away) surplus 0
pair_without surplus false at_home away at_away one = omega arith
pair_without surplus true at_home false at_away one = omega (arith, at at_home)
  where
    at : (b : Bool) → cond (not b && false) surplus 0 ≡ 0
    at true = refl
    at false = refl
pair_without surplus true true true true one = absurd (false≢true (sym one))
pair_without surplus true true true false one = omega arith
pair_without surplus true false true true one = omega arith
pair_without surplus true false true false one = omega arith

pairs_without : (pairs : List Pair) (side : ℕ → Bool) (club : ℕ)
    → All (λ pair. pair.home ≢ pair.away) pairs
    → sum_of_pairs (has_both (without side club)) pairs
    + sum_of_pairs (has_home_in side (eqb club)) pairs
    + sum_of_pairs (has_away_in side (eqb club)) pairs
    ≤ sum_of_pairs (has_both side) pairs
pairs_without [] side club apart = omega arith
pairs_without (pair ∷ pairs) side club apart =
    let rest = pairs_without pairs side club (λ k d within. apart (suc k) d (omega arith)) in
    let one = false_from_ne_true (eqb club pair.home && eqb club pair.away) (λ both.
    let parts = and_parts (eqb club pair.home) (eqb club pair.away) both in
    apart 0 pair (omega arith) (sym (eqb-true club pair.home parts.0)
    ∙ eqb-true club pair.away parts.1)) in
    let here = pair_without pair.surplus (side pair.home) (eqb club pair.home) (side pair.away)
    (eqb club pair.away) one in
    let less = sum_of_pairs-cons (has_both (without side club)) pair pairs in
    let home = sum_of_pairs-cons (has_home_in side (eqb club)) pair pairs in
    let away = sum_of_pairs-cons (has_away_in side (eqb club)) pair pairs in
    let all = sum_of_pairs-cons (has_both side) pair pairs in
    omega (arith, rest, here, less, home, away, all)

-- a side without a club of it has so much less
pub excess_in-less : (table : List ℤ) (pairs : List Pair) (side less : ℕ → Bool) (club : ℕ)
    → club < 32 → side club ≡ true → All (λ pair. pair.home ≢ pair.away) pairs
    → ((other : ℕ) → less other ≡ (side other && not (eqb club other)))
    → (excess_in table pairs less +ℤ entry table club
    +ℤ pos (sum_of_pairs (has_home_in side (eqb club)) pairs)
    +ℤ pos (sum_of_pairs (has_away_in side (eqb club)) pairs)) ≤ℤ excess_in table pairs side
excess_in-less table pairs side less club within among apart is =
    let same = excess_in-same table pairs less (without side club) is in
    let back : sum_of_side table side ≡ sum_of_side table (with_club (without side club) club) =
    ap (sum_of_side table) (λ i other. put_back (side other) (eqb club other) (has_it other) i) in
    let clubs = clubs_more table (without side club) club within out in
    let fewer = pairs_without pairs side club apart in
    omega (arith, ints, same, back, clubs, fewer)
  where
    out : without side club club ≡ false
    out =
        ap (λ b. side club && not b) (eq-eqb club club refl) ∙ and_false (side club)
      where
        and_false : (b : Bool) → (b && false) ≡ false
        and_false true = refl
        and_false false = refl

    has_it : (other : ℕ) → eqb club other ≡ true → side other ≡ true
    has_it other same = ap side (sym (eqb-true club other same)) ∙ among

    put_back : (b e : Bool) → (e ≡ true → b ≡ true) → b ≡ ((b && not e) || e)
    put_back true true has = refl
    put_back true false has = refl
    put_back false true has = absurd (false≢true (has refl))
    put_back false false has = refl

-- what the parts of an excess leave open, the excess does
pub left_open_is : (table : List ℤ) (pairs : List Pair) (rivals : ClubSet) (marked : ℕ → Bool)
    (excess : List ℕ → ℤ) → GivesExcess table pairs rivals marked excess
    → IsLeftOpenIn table pairs (side_of rivals) → IsLeftOpen marked excess
left_open_is table pairs rivals marked excess gives left = record {
  none_alone = λ club has.
      let among = gives.marks club ∙ has in
      let own = alone_is table pairs rivals marked excess club gives among in
      let low = left.none_over club among in
      omega (arith, ints, own, low);
  needed = (
    left.rest,
    record {
      all_marked = part_marked rivals marked left.rest gives.marks left.part;
      some = left.some;
      needed = λ club other among is.
          let less = excess_in-less table pairs (side_of left.rest) (side_of other) club
          (side_of-lt left.rest club among) among gives.apart is in
          let adds = left.adds club among in
          let sums = gives.sums left.rest left.part in
          let other_sums = gives.sums other (λ member has. left.part member
          (and_parts (side_of left.rest member) (not (eqb club member)) (sym (is member) ∙ has)).0)
          in
          omega (arith, ints, less, adds, sums, other_sums);
    },
  );
}
