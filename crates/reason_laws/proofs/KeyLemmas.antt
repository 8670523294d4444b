-- Keys in a zone: each part is in its range, and a key no part of which is less is as great.
use Rattle.std.proofs.Common.{◌≡◌, ℕ, ℤ, ◌≤ℤ◌, true, List, [], ◌∷◌, map, Ordering, refl, ap, ◌∙◌}
use Rattle.std.proofs.Common.{inl, inr, arith, int_cmp}
use Rattle.std.specs.Prelude.{int_lt}
use Rattle.std.specs.Ordering.{ordering_then, is_le}
use Rattle.std.proofs.lemmas.Int.{ints}
use Rattle.std.proofs.lemmas.Bool.{cases_Bool}
use Rattle.league_core.specs.declared.sheet.Sheet.{Sheet}
use Rattle.league_core.specs.declared.zone.Literal.{Literal}
use Rattle.league_core.specs.game.Results.{Results}
use Rattle.league_core.specs.game.Sums.{Worth, goal_difference, goals, away_goals, wins, away_wins}
use Rattle.league_core.specs.game.HeadToHead.{by_first_difference}
use Rattle.league_core.specs.search.Zones.{IsMember}
use Rattle.league_core.specs.search.Options.{options_in, IsInBox}
use Rattle.league_core.specs.search.PointRanges.{Range}
use Rattle.league_core.specs.search.Keys.{key_of, is_key_from, key_ranges, low_key, high_key}
use Rattle.league_core.specs.search.Keys.{AreAtMost}
use Rattle.league_core.proofs.OrderingLemmas.{greater_first-same}
use Rattle.reason_laws.proofs.MemberLemmas.{member_in_box}
use Rattle.reason_laws.proofs.RangeOrderLemmas.{AreInRanges}
use Rattle.reason_laws.proofs.SureLemmas.{over_in_range}
use Rattle.reason_laws.proofs.SureOrderLemmas.{points_in_range}
use Rattle.league_core.proofs.plain.Orderings.{int_cmp-less}
use Rattle.league_core.proofs.plain.Numbers.{int_lt-true, int_lt-false}

-- numbers in ranges are no less than the least ones
least_at_most : (ranges : List Range) (parts : List ℤ) → AreInRanges ranges parts
    → AreAtMost (map (λ range. range.least) ranges) parts
least_at_most [] [] within = tt
least_at_most [] (part ∷ parts) within = absurd within
least_at_most (range ∷ ranges) [] within = absurd within
least_at_most (range ∷ ranges) (part ∷ parts) within =
    (within.0.0, least_at_most ranges parts within.1)

-- and no greater than the greatest ones
at_most_greatest : (ranges : List Range) (parts : List ℤ) → AreInRanges ranges parts
    → AreAtMost parts (map (λ range. range.greatest) ranges)
at_most_greatest [] [] within = tt
at_most_greatest [] (part ∷ parts) within = absurd within
at_most_greatest (range ∷ ranges) [] within = absurd within
at_most_greatest (range ∷ ranges) (part ∷ parts) within =
    (within.0.1, at_most_greatest ranges parts within.1)

-- a part that is no greater leaves the comparison to what follows, or decides it
then_at_most : (low high : ℤ) (further : Ordering) → low ≤ℤ high → is_le further ≡ true
    → is_le (ordering_then (int_cmp low high) further) ≡ true
then_at_most low high further most rest =
    elim (cases_Bool (int_lt low high)) as (λ _. is_le
    (ordering_then (int_cmp low high) further) ≡ true) [
      | inl less ↦ ap (λ o. is_le (ordering_then o further))
          (int_cmp-less low high (int_lt-true low high less))
      | inr not_less ↦ let least = int_lt-false low high not_less in ap
          (λ o. is_le (ordering_then o further))
          (greater_first-same high low (omega (arith, ints))) ∙ rest
    ]

-- a key no part of which is less is as great, or greater
at_most_from : (low high : List ℤ) → AreAtMost low high → is_key_from low high ≡ true
at_most_from [] [] most = refl
at_most_from [] (part ∷ parts) most = absurd most
at_most_from (part ∷ parts) [] most = absurd most
at_most_from (low ∷ lows) (high ∷ highs) most =
    then_at_most low high (by_first_difference highs lows) most.0 (at_most_from lows highs most.1)

-- each part of the key of a finish in the box is in its range
key_in_ranges : (sheet : Sheet) (season : Results) (zone : List Literal) (finish : Results)
    (club : ℕ) → IsInBox sheet season zone finish
    → AreInRanges (key_ranges sheet season zone club) (key_of sheet finish club)
key_in_ranges sheet season zone finish club box =
    let over = λ (worth : Worth). over_in_range worth sheet (options_in sheet season zone) finish
    club box.scores in (
      points_in_range sheet season zone finish club box,
      (
        over goal_difference,
        (
          over goals,
          (
            over away_goals,
            (over wins, (over away_wins, ((omega (arith, ints), omega (arith, ints)), tt))),
          ),
        ),
      ),
    )

pub key_parts_in_range : (sheet : Sheet) (season : Results) (zone : List Literal)
    (finish : Results) (club : ℕ) → IsInBox sheet season zone finish
    → AreAtMost (low_key sheet season zone club) (key_of sheet finish club)
    × AreAtMost (key_of sheet finish club) (high_key sheet season zone club)
unfolding low_key high_key
key_parts_in_range sheet season zone finish club box =
    let within = key_in_ranges sheet season zone finish club box in (
      least_at_most (key_ranges sheet season zone club) (key_of sheet finish club) within,
      at_most_greatest (key_ranges sheet season zone club) (key_of sheet finish club) within,
    )

pub key_between : (sheet : Sheet) (season : Results) (about : ℕ) (zone : List Literal)
    (finish : Results) (lots : List ℕ) (club : ℕ)
    → IsMember sheet season about zone finish lots
    → (is_key_from (low_key sheet season zone club) (key_of sheet finish club) ≡ true)
    × (is_key_from (key_of sheet finish club) (high_key sheet season zone club) ≡ true)
key_between sheet season about zone finish lots club member =
    let parts = key_parts_in_range sheet season zone finish club
    (member_in_box sheet season about zone finish lots member) in (
      at_most_from (low_key sheet season zone club) (key_of sheet finish club) parts.0,
      at_most_from (key_of sheet finish club) (high_key sheet season zone club) parts.1,
    )
