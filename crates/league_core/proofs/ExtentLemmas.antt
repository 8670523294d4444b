-- Exact ranges: one value, a value with its sign turned round, values near zero; and that the range
-- over some options is the exact one.
use Rattle.std.proofs.Common.{◌≡◌, ℕ, ℤ, neg_ℤ, Bool, true, List}
use Rattle.std.proofs.Common.{sym, ap, ◌∙◌, subst, arith}
use Rattle.std.proofs.lemmas.Int.{ints}
use Rattle.league_core.specs.declared.season.Score.{Score}
use Rattle.league_core.specs.search.Options.{has_score, has_option}
use Rattle.league_core.specs.search.PointRanges.{Range, one_value, negated, range_of}
use Rattle.league_core.specs.inside.Extents.{IsExtent, IsNearZero}
use Rattle.league_core.proofs.PointRangeLemmas.{range_bounds, least_reached, greatest_reached}
use Rattle.league_core.proofs.PointRangeLemmas.{least-is, greatest-is}

-- an exact range over the scores that are options is the range over the options
pub extent-is : (allowed : Score → Bool) (value : Score → ℤ) (range : Range)
    (options : List Score) → IsExtent allowed value range
    → ((score : Score) → allowed score ≡ has_score options score)
    → range ≡ range_of value options
extent-is allowed value range options extent is =
    let low = extent.least.0 in
    let high = extent.greatest.0 in
    let least = least-is value options range.least
    (λ score among. (extent.within score (is score ∙ among)).0)
    (low, sym (is low) ∙ extent.least.1, extent.least.2) in
    let greatest = greatest-is value options range.greatest
    (λ score among. (extent.within score (is score ∙ among)).1)
    (high, sym (is high) ∙ extent.greatest.1, extent.greatest.2) in
    (λ j. record { least = least j; greatest = greatest j })

-- and the range over some options is exact
pub range_of-extent : (value : Score → ℤ) (options : List Score) → has_option options ≡ true
    → IsExtent (has_score options) value (range_of value options)
range_of-extent value options some = record {
  within = range_bounds value options;
  least = least_reached value options some;
  greatest = greatest_reached value options some;
}

-- an equal range is as exact
pub extent_at : (allowed : Score → Bool) (value : Score → ℤ) (range other : Range)
    → range ≡ other → IsExtent allowed value other → IsExtent allowed value range
extent_at allowed value range other same extent =
    let P : Range → Type 0 = λ r. IsExtent allowed value r in
    subst P (sym same) extent

-- a value that all scores have
pub one_extent : (allowed : Score → Bool) (value : Score → ℤ) (number : ℤ) (score : Score)
    → allowed score ≡ true → ((other : Score) → allowed other ≡ true → value other ≡ number)
    → IsExtent allowed value (one_value number)
one_extent allowed value number score here same = record {
  within = λ other is. let e = same other is in (omega (arith, ints), omega (arith, ints));
  least = (score, here, same score here);
  greatest = (score, here, same score here);
}

-- a value with its sign turned round
pub negated_extent : (allowed : Score → Bool) (value other : Score → ℤ) (range : Range)
    → ((score : Score) → other score ≡ neg_ℤ (value score)) → IsExtent allowed value range
    → IsExtent allowed other (negated range)
negated_extent allowed value other range turned extent =
    let low = extent.least in
    let high = extent.greatest in
    record {
      within = λ score is.
          let between = extent.within score is in
          let e = turned score in (omega (arith, ints), omega (arith, ints));
      least = (high.0, high.1, turned high.0 ∙ ap neg_ℤ high.2);
      greatest = (low.0, low.1, turned low.0 ∙ ap neg_ℤ low.2);
    }

-- if all values are near zero, so are the ends
pub extent_near : (bound : ℕ) (allowed : Score → Bool) (value : Score → ℤ) (range : Range)
    → IsExtent allowed value range
    → ((score : Score) → allowed score ≡ true → IsNearZero bound (value score))
    → IsNearZero bound range.least × IsNearZero bound range.greatest
extent_near bound allowed value range extent near = (
  subst (IsNearZero bound) extent.least.2 (near extent.least.0 extent.least.1),
  subst (IsNearZero bound) extent.greatest.2 (near extent.greatest.0 extent.greatest.1),
)
