-- The points of a side: the least and the most of those that outcomes give which may come.
use Rattle.std.proofs.Common.{◌≡◌, ℕ, ℤ, pos, ◌≤◌, ◌≤ℤ◌, ◌⊎◌, inl, inr, Bool, true, false, ◌||◌}
use Rattle.std.proofs.Common.{◌==◌, nat_lt, cond, List, refl, sym, ap, ◌∙◌}
use Rattle.std.proofs.Common.{arith}
use Rattle.std.proofs.lemmas.Int.{ints}
use Rattle.std.proofs.lemmas.Bool.{false≢true, cases_Bool}
use Rattle.league_core.specs.declared.season.Score.{Score}
use Rattle.league_core.specs.search.Options.{has_score}
use Rattle.league_core.specs.search.PointRanges.{range_of}
use Rattle.league_core.proofs.PointRangeLemmas.{Reaches, least-is, greatest-is}
use Rattle.near_bound.specs.declared.match_left.MatchLeft.{MatchLeft}
use Rattle.near_bound.specs.declared.points.PointEnds.{PointEnds}
use Rattle.near_bound.specs.inside.MatchesLeft.{is_score_left, IsLeftOf}
use Rattle.near_bound.specs.inside.Points.{range_of_ends, side_points, MayGive, least_given}
use Rattle.near_bound.specs.inside.Points.{most_given, AreEndsWithin}
use Rattle.near_bound.proofs.PointLemmas.{no_options}
use Rattle.near_bound.proofs.OutcomeLemmas.{AreGiven}

abbrev IsOneOfThree : ℤ → Type 0
IsOneOfThree points = (points ≡ pos 3) ⊎ ((points ≡ pos 1) ⊎ (points ≡ pos 0))

three_ways : (won drawn : Bool) → IsOneOfThree (cond won (pos 3) (cond drawn (pos 1) (pos 0)))
three_ways true drawn = inl refl
three_ways false true = inr (inl refl)
three_ways false false = inr (inr refl)

side_ways : (away : Bool) (score : Score) → IsOneOfThree (side_points away score)
side_ways true score = three_ways (nat_lt score.home score.away) (score.away == score.home)
side_ways false score = three_ways (nat_lt score.away score.home) (score.home == score.away)

least_below : (points : ℤ) (won drawn lost : Bool) → IsOneOfThree points
    → (won ≡ false → points ≡ pos 3 → ⊥) → (drawn ≡ false → points ≡ pos 1 → ⊥)
    → (lost ≡ false → points ≡ pos 0 → ⊥) → least_given won drawn lost ≤ℤ points
least_below points won drawn true (inl three) no_win no_draw no_defeat = omega (arith, ints)
least_below points won drawn true (inr (inl one)) no_win no_draw no_defeat = omega (arith, ints)
least_below points won drawn true (inr (inr zero)) no_win no_draw no_defeat = omega (arith, ints)
least_below points won true false (inl three) no_win no_draw no_defeat = omega (arith, ints)
least_below points won true false (inr (inl one)) no_win no_draw no_defeat = omega (arith, ints)
least_below points won true false (inr (inr none)) no_win no_draw no_defeat = absurd
    (no_defeat refl none)
least_below points true false false (inl three) no_win no_draw no_defeat = omega (arith, ints)
least_below points false false false (inl three) no_win no_draw no_defeat = absurd
    (no_win refl three)
least_below points won false false (inr (inl one)) no_win no_draw no_defeat = absurd
    (no_draw refl one)
least_below points won false false (inr (inr none)) no_win no_draw no_defeat = absurd
    (no_defeat refl none)

most_above : (points : ℤ) (won drawn : Bool) → IsOneOfThree points
    → (won ≡ false → points ≡ pos 3 → ⊥) → (drawn ≡ false → points ≡ pos 1 → ⊥)
    → points ≤ℤ most_given won drawn
most_above points true drawn (inl three) no_win no_draw = omega (arith, ints)
most_above points true drawn (inr (inl one)) no_win no_draw = omega (arith, ints)
most_above points true drawn (inr (inr none)) no_win no_draw = omega (arith, ints)
most_above points false drawn (inl three) no_win no_draw = absurd (no_win refl three)
most_above points false true (inr (inl one)) no_win no_draw = omega (arith, ints)
most_above points false true (inr (inr none)) no_win no_draw = omega (arith, ints)
most_above points false false (inr (inl one)) no_win no_draw = absurd (no_draw refl one)
most_above points false false (inr (inr none)) no_win no_draw = omega (arith, ints)

not_given : (left : MatchLeft) (away : Bool) (points : ℤ) (any : Bool) (score : Score)
    → MayGive left away points any → is_score_left left score ≡ true → any ≡ false
    → side_points away score ≡ points → ⊥
not_given left away points true score gives is_left none is = absurd (false≢true (sym none))
not_given left away points false score gives is_left none is = gives score is_left is

given_there : (left : MatchLeft) (away : Bool) (points : ℤ) (options : List Score)
    → IsLeftOf left options → MayGive left away points true
    → Reaches (side_points away) options points
given_there left away points options left_of gives =
    (gives.0, sym (left_of gives.0) ∙ gives.1, gives.2)

least_there : (left : MatchLeft) (away won drawn lost : Bool) (options : List Score)
    → IsLeftOf left options → AreGiven left away won drawn lost
    → (won || (drawn || lost)) ≡ true
    → Reaches (side_points away) options (least_given won drawn lost)
least_there left away won drawn true options left_of are some =
    given_there left away (pos 0) options left_of are.defeat
least_there left away won true false options left_of are some =
    given_there left away (pos 1) options left_of are.draw
least_there left away true false false options left_of are some =
    given_there left away (pos 3) options left_of are.win
least_there left away false false false options left_of are some = absurd (false≢true some)

most_there : (left : MatchLeft) (away won drawn lost : Bool) (options : List Score)
    → IsLeftOf left options → AreGiven left away won drawn lost
    → (won || (drawn || lost)) ≡ true
    → Reaches (side_points away) options (most_given won drawn)
most_there left away true drawn lost options left_of are some =
    given_there left away (pos 3) options left_of are.win
most_there left away false true lost options left_of are some =
    given_there left away (pos 1) options left_of are.draw
most_there left away false false true options left_of are some =
    given_there left away (pos 0) options left_of are.defeat
most_there left away false false false options left_of are some = absurd (false≢true some)

-- the range of a side's points is from the least to the most
with_some : (left : MatchLeft) (away won drawn lost : Bool) (options : List Score)
    (ends : PointEnds) → AreGiven left away won drawn lost
    → ends.least ≡ least_given won drawn lost → ends.most ≡ most_given won drawn
    → IsLeftOf left options → (won || (drawn || lost)) ≡ true
    → range_of_ends ends ≡ range_of (side_points away) options
with_some left away won drawn lost options ends are low high left_of some =
    let least = least-is (side_points away) options (least_given won drawn lost)
    (λ score has.
    let is_left = left_of score ∙ has in
    least_below (side_points away score) won drawn lost (side_ways away score)
    (not_given left away (pos 3) won score are.win is_left)
    (not_given left away (pos 1) drawn score are.draw is_left)
    (not_given left away (pos 0) lost score are.defeat is_left))
    (least_there left away won drawn lost options left_of are some) in
    let most = greatest-is (side_points away) options (most_given won drawn)
    (λ score has.
    let is_left = left_of score ∙ has in
    most_above (side_points away score) won drawn (side_ways away score)
    (not_given left away (pos 3) won score are.win is_left)
    (not_given left away (pos 1) drawn score are.draw is_left))
    (most_there left away won drawn lost options left_of are some) in
    (λ i. record { least = (low ∙ least) i; greatest = (high ∙ most) i })

pub given_range : (left : MatchLeft) (away won drawn lost : Bool) (options : List Score)
    (ends : PointEnds) → AreGiven left away won drawn lost
    → ends.least ≡ least_given won drawn lost → ends.most ≡ most_given won drawn
    → IsLeftOf left options → range_of_ends ends ≡ range_of (side_points away) options
given_range left away true drawn lost options ends are low high left_of =
    with_some left away true drawn lost options ends are low high left_of refl
given_range left away false true lost options ends are low high left_of =
    with_some left away false true lost options ends are low high left_of refl
given_range left away false false true options ends are low high left_of =
    with_some left away false false true options ends are low high left_of refl
given_range left away false false false options ends are low high left_of =
    (λ i. record { least = low i; greatest = high i })
    ∙ ap (range_of (side_points away)) (sym (no_options options none_has))
  where
    none_left : (score : Score) → is_score_left left score ≡ true → ⊥
    none_left score is_left =
        elim (side_ways away score) as (λ _. ⊥) [
          | inl three ↦ are.win score is_left three
          | inr fewer ↦
              elim fewer as (λ _. ⊥) [
                | inl one ↦ are.draw score is_left one
                | inr none ↦ are.defeat score is_left none
              ]
        ]

    none_has : (score : Score) → has_score options score ≡ false
    none_has score =
        elim (cases_Bool (has_score options score)) as (λ _. has_score options score ≡ false) [
          | inl has ↦ absurd (none_left score (left_of score ∙ has))
          | inr not ↦ not
        ]

-- and no more than three
from_numbers : (ends : PointEnds) (low high : ℕ) → ends.least ≡ pos low → ends.most ≡ pos high
    → low ≤ high → high ≤ 3 → AreEndsWithin (pos 3) ends
from_numbers ends low high least most ordered few = record {
  least = omega (arith, ints, least);
  in_order = omega (arith, ints, least, most, ordered);
  most = omega (arith, ints, most, few);
}

pub given_within : (won drawn lost : Bool) (ends : PointEnds)
    → ends.least ≡ least_given won drawn lost → ends.most ≡ most_given won drawn
    → AreEndsWithin (pos 3) ends
given_within true drawn true ends low high =
    from_numbers ends 0 3 low high (omega arith) (omega arith)
given_within true true false ends low high =
    from_numbers ends 1 3 low high (omega arith) (omega arith)
given_within true false false ends low high =
    from_numbers ends 3 3 low high (omega arith) (omega arith)
given_within false true true ends low high =
    from_numbers ends 0 1 low high (omega arith) (omega arith)
given_within false true false ends low high =
    from_numbers ends 1 1 low high (omega arith) (omega arith)
given_within false false true ends low high =
    from_numbers ends 0 0 low high (omega arith) (omega arith)
given_within false false false ends low high =
    from_numbers ends 0 0 low high (omega arith) (omega arith)
