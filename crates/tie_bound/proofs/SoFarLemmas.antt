-- The clubs' sums over the matches passed so far, and over all.
use Rattle.std.proofs.Common.{◌≡◌, ℕ, ◌+◌, ◌*◌, ◌<◌, ◌≤◌, pos}
use Rattle.std.proofs.Common.{List, [], length, get_or}
use Rattle.std.proofs.Common.{drop, sym, ap, refl, ◌∙◌, subst, arith}
use Rattle.std.proofs.lemmas.Int.{ints}
use Rattle.league_core.specs.declared.sheet.Fixture.{Fixture}
use Rattle.league_core.specs.declared.season.Score.{Score}
use Rattle.league_core.specs.search.PointRanges.{Range, one_value, added, range_of, range_from}
use Rattle.league_core.proofs.PointRangeLemmas.{range_from-more, range_from-all}
use Rattle.league_core.proofs.RangeLemmas.{added-none, none-added, added-assoc}
use Rattle.tie_criteria.specs.declared.measure.Measure.{Measure}
use Rattle.tie_criteria.specs.declared.measure.Measure.TheVariants.{Points, Difference, Goals}
use Rattle.tie_criteria.specs.declared.measure.Measure.TheVariants.{AwayGoals, Wins, AwayWins}
use Rattle.tie_criteria.specs.inside.Measures.{worth_of}
use Rattle.tie_bound.specs.declared.sums.Sums.{Sums}
use Rattle.tie_bound.specs.inside.IntRanges.{IsRangeNear}
use Rattle.tie_bound.specs.inside.Sums.{range_by, no_sums, AreNear, RangesGrowBy}
use Rattle.tie_bound.specs.inside.Tables.{Value}

-- the sums so far: with what is left of the matches they are the whole
pub record IsSoFar (matches : List Fixture) (options : List (List Score)) (value : Value)
    (i club : ℕ) (sums : Sums) : Type 0 where
  pub whole : (measure : Measure) → added (range_by sums measure)
      (range_from (value (worth_of measure) club) (drop i matches) (drop i options)) ≡ range_from
      (value (worth_of measure) club) matches options
  pub near : AreNear (255 * i) sums

-- a table without a match
pub no_sums-is : (measure : Measure) → range_by no_sums measure ≡ one_value (pos 0)
no_sums-is Points = refl
no_sums-is Difference = refl
no_sums-is Goals = refl
no_sums-is AwayGoals = refl
no_sums-is Wins = refl
no_sums-is AwayWins = refl

pub so_far_none : (matches : List Fixture) (options : List (List Score)) (value : Value) (club : ℕ)
    → IsSoFar matches options value 0 club no_sums
so_far_none matches options value club = record {
  whole = λ measure.
      ap (λ r. added r (range_from (value (worth_of measure) club) matches options))
      (no_sums-is measure)
      ∙ none-added (range_from (value (worth_of measure) club) matches options);
  near = λ measure.
      let P : Range → Type 0 = λ r. IsRangeNear 0 r in
      subst P (sym (no_sums-is measure)) (record {
        least_above = omega (arith, ints);
        least_below = omega (arith, ints);
        greatest_above = omega (arith, ints);
        greatest_below = omega (arith, ints);
      });
}

pub so_far_more : (matches : List Fixture) (options : List (List Score)) (value : Value)
    (i club : ℕ) (d : Fixture) (old new : Sums) → i < length matches → i < length options
    → IsSoFar matches options value i club old
    → RangesGrowBy (λ measure. range_of (value (worth_of measure) club (get_or matches i d))
    (get_or options i [])) old new → IsSoFar matches options value (i + 1) club new
so_far_more matches options value i club d old new in_matches in_options so_far grows =
    let bound : 255 * i + 255 ≡ 255 * (i + 1) = omega arith in
    record {
      whole = λ measure.
          let v = value (worth_of measure) club in
          let here = range_of (v (get_or matches i d)) (get_or options i []) in
          let rest = range_from v (drop (i + 1) matches) (drop (i + 1) options) in
          ap (λ r. added r rest) (grows.sums measure)
          ∙ added-assoc (range_by old measure) here rest
          ∙ ap (added (range_by old measure))
          (sym (range_from-more v matches options i d in_matches in_options))
          ∙ so_far.whole measure;
      near = subst (λ (n : ℕ). AreNear n new) bound (grows.near (255 * i) so_far.near);
    }

-- after the last match they are the whole
pub so_far_all : (matches : List Fixture) (options : List (List Score)) (value : Value) (i club : ℕ)
    (sums : Sums) (measure : Measure) → length matches ≤ i
    → IsSoFar matches options value i club sums
    → range_by sums measure ≡ range_from (value (worth_of measure) club) matches options
so_far_all matches options value i club sums measure past so_far =
    sym (ap (added (range_by sums measure))
    (range_from-all (value (worth_of measure) club) matches options i past)
    ∙ added-none (range_by sums measure))
    ∙ so_far.whole measure
