-- Tables of the clubs' sums: what a match adds to them, and what they are in the end.
use Rattle.std.proofs.Common.{◌≡◌, ◌≢◌, ◌⊎◌, inl, inr, ℕ, ◌+◌, ◌<◌, ◌≤◌, pos, Bool, true}
use Rattle.std.proofs.Common.{false, ◌&&◌, eqb, cond, List, length, get_or}
use Rattle.std.proofs.Common.{set, sym, ap, refl, ◌∙◌, subst, arith}
use Rattle.std.proofs.lemmas.Bool.{cases_eq, eq-eqb, ne_eqb}
use Rattle.std.proofs.lemmas.Int.{ints}
use Rattle.std.proofs.lemmas.List.{get_or-set_same, get_or-set_other, length-set}
use Rattle.league_core.specs.declared.sheet.Fixture.{Fixture}
use Rattle.league_core.specs.declared.season.Score.{Score}
use Rattle.league_core.specs.game.Sums.{has_club, worth_to, worth_among}
use Rattle.league_core.specs.search.PointRanges.{Range, added, range_of}
use Rattle.league_core.proofs.RangeLemmas.{added-none, range_of-none}
use Rattle.tie_criteria.specs.declared.measure.Measure.{Measure}
use Rattle.tie_criteria.specs.inside.Measures.{worth_of}
use Rattle.score_box.specs.declared.cell.Cell.{Cell}
use Rattle.score_box.specs.inside.Cells.{IsCellOf}
use Rattle.tie_bound.specs.declared.sums.Sums.{Sums}
use Rattle.tie_bound.specs.inside.IntRanges.{IsRangeNear}
use Rattle.tie_bound.specs.inside.Sums.{range_by, no_sums, sums_at, AreNear, RangesGrowBy}
use Rattle.tie_bound.specs.inside.Sides.{to_side, AreSumsOf}

near_added : (bound more : ℕ) (range other : Range) → IsRangeNear bound range
    → IsRangeNear more other
    → IsRangeNear (bound + more) (added range other)
near_added bound more range other near other_near = record {
  least_above = omega (arith, ints);
  least_below = omega (arith, ints);
  greatest_above = omega (arith, ints);
  greatest_below = omega (arith, ints);
}

near_in : (bound more : ℕ) (range : Range) → bound ≤ more → IsRangeNear bound range
    → IsRangeNear more range
near_in bound more range fewer near = record {
  least_above = omega (arith, ints);
  least_below = omega (arith, ints);
  greatest_above = omega (arith, ints);
  greatest_below = omega (arith, ints);
}

pub wider : (bound more : ℕ) (sums : Sums) → bound ≤ more → AreNear bound sums → AreNear more sums
wider bound more sums fewer near measure = near_in bound more (range_by sums measure) fewer
    (near measure)

pub same_sums : (options : List Score) (sums : Sums)
    → RangesGrowBy (λ measure. range_of (λ score. pos 0) options) sums sums
same_sums options sums = record {
  sums = λ measure. sym (ap (added (range_by sums measure)) (range_of-none options)
      ∙ added-none (range_by sums measure));
  near = λ bound near. wider bound (bound + 255) sums (omega arith) near;
}

-- the sums of a club that played the match on this side
pub side_grows : (cell : Cell) (away : Bool) (options : List Score) (sums old new : Sums)
    → AreSumsOf cell away sums → IsCellOf cell options
    → ((measure : Measure) → range_by new measure ≡ added (range_by old measure)
    (range_by sums measure)) → RangesGrowBy
    (λ measure. range_of (to_side (worth_of measure) away) options) old new
side_grows cell away options sums old new are is grown = record {
  sums = λ measure. grown measure ∙ ap (added (range_by old measure)) (are.each options is measure);
  near = λ bound near measure.
      let P : Range → Type 0 = λ r. IsRangeNear (bound + 255) r in
      subst P (sym (grown measure)) (near_added bound 255 (range_by old measure)
      (range_by sums measure) (near measure) (are.near measure));
}

grows_at : (value : Measure → Range) (old old' new new' : Sums) → old ≡ old' → new ≡ new'
    → RangesGrowBy value old new → RangesGrowBy value old' new'
grows_at value old old' new new' p q grows =
    let P : Sums → Type 0 = λ s. RangesGrowBy value s new in
    let Q : Sums → Type 0 = λ s. RangesGrowBy value old' s in
    subst Q q (subst P p grows)

-- the sums of two clubs change, those of the home side and those of the away side
pub table_grows : (table : List Sums) (match : Fixture) (options : List Score) (home away : Sums)
    → match.home ≢ match.away → match.home < length table → match.away < length table
    → RangesGrowBy (λ measure. range_of (to_side (worth_of measure) false) options)
    (sums_at table match.home) home → RangesGrowBy
    (λ measure. range_of (to_side (worth_of measure) true) options) (sums_at table match.away) away
    → (club : ℕ)
    → RangesGrowBy (λ measure. range_of (worth_to (worth_of measure) club match) options)
    (sums_at table club) (sums_at (set (set table match.home home) match.away away) club)
table_grows table match options home away differ home_in away_in home_grows away_grows club =
    by_home (cases_eq match.home club)
  where
    sides : Bool → Bool → Measure → Range
    sides at_home at_away measure = range_of
        (λ score. cond at_home (to_side (worth_of measure) false score)
        (cond at_away (to_side (worth_of measure) true score) (pos 0))) options

    long : match.away < length (set table match.home home)
    long = omega (arith, length-set table match.home home)

    by_away : (match.home ≢ club) → (match.away ≡ club) ⊎ (match.away ≢ club)
        → RangesGrowBy (λ measure. range_of (worth_to (worth_of measure) club match) options)
        (sums_at table club) (sums_at (set (set table match.home home) match.away away) club)
    by_away not_home (inl same) =
        let is_home : eqb match.home club ≡ false = ne_eqb match.home club not_home in
        let is_away : eqb match.away club ≡ true = eq-eqb match.away club same in
        let new : away ≡ sums_at (set (set table match.home home) match.away away) club =
        sym (ap (λ (k : ℕ). get_or (set (set table match.home home) match.away away) k no_sums)
        (sym same)
        ∙ get_or-set_same (set table match.home home) match.away away no_sums long) in
        let P : Bool → Type 0 = λ b. RangesGrowBy (sides b (eqb match.away club))
        (sums_at table club)
        (sums_at (set (set table match.home home) match.away away) club) in
        let Q : Bool → Type 0 = λ b. RangesGrowBy (sides false b) (sums_at table club)
        (sums_at (set (set table match.home home) match.away away) club) in
        subst P (sym is_home) (subst Q (sym is_away)
        (grows_at (λ measure. range_of (to_side (worth_of measure) true) options)
        (sums_at table match.away) (sums_at table club) away
        (sums_at (set (set table match.home home) match.away away) club)
        (ap (sums_at table) same) new away_grows))
    by_away not_home (inr not_away) =
        let is_home : eqb match.home club ≡ false = ne_eqb match.home club not_home in
        let is_away : eqb match.away club ≡ false = ne_eqb match.away club not_away in
        let new : sums_at table club ≡ sums_at (set (set table match.home home) match.away away)
        club =
        sym (get_or-set_other (set table match.home home) match.away club away no_sums
        (λ e. not_away (sym e))
        ∙ get_or-set_other table match.home club home no_sums (λ e. not_home (sym e))) in
        let P : Bool → Type 0 = λ b. RangesGrowBy (sides b (eqb match.away club))
        (sums_at table club)
        (sums_at (set (set table match.home home) match.away away) club) in
        let Q : Bool → Type 0 = λ b. RangesGrowBy (sides false b) (sums_at table club)
        (sums_at (set (set table match.home home) match.away away) club) in
        subst P (sym is_home) (subst Q (sym is_away)
        (grows_at (λ measure. range_of (λ score. pos 0) options) (sums_at table club)
        (sums_at table club) (sums_at table club)
        (sums_at (set (set table match.home home) match.away away) club) refl new
        (same_sums options (sums_at table club))))

    by_home : (match.home ≡ club) ⊎ (match.home ≢ club)
        → RangesGrowBy (λ measure. range_of (worth_to (worth_of measure) club match) options)
        (sums_at table club) (sums_at (set (set table match.home home) match.away away) club)
    by_home (inl same) =
        let is_home : eqb match.home club ≡ true = eq-eqb match.home club same in
        let other : club ≢ match.away = λ e. differ (same ∙ e) in
        let new : home ≡ sums_at (set (set table match.home home) match.away away) club =
        sym (get_or-set_other (set table match.home home) match.away club away no_sums other
        ∙ ap (λ (k : ℕ). get_or (set table match.home home) k no_sums) (sym same)
        ∙ get_or-set_same table match.home home no_sums home_in) in
        let P : Bool → Type 0 = λ b. RangesGrowBy (sides b (eqb match.away club))
        (sums_at table club)
        (sums_at (set (set table match.home home) match.away away) club) in
        subst P (sym is_home) (grows_at (λ measure. range_of (to_side (worth_of measure) false)
        options) (sums_at table match.home) (sums_at table club) home
        (sums_at (set (set table match.home home) match.away away) club)
        (ap (sums_at table) same) new home_grows)
    by_home (inr not_home) = by_away not_home (cases_eq match.away club)

-- a match that counts in a group is worth what it is worth anywhere, another nothing
pub counted_grows : (group : List ℕ) (match : Fixture) (options : List Score) (club : ℕ)
    (old new : Sums) → (has_club group match.home && has_club group match.away) ≡ true
    → RangesGrowBy (λ measure. range_of (worth_to (worth_of measure) club match) options) old new
    → RangesGrowBy
    (λ measure. range_of (worth_among group (worth_of measure) club match) options) old
    new
counted_grows group match options club old new counts grows =
    let P : Bool → Type 0 = λ b. RangesGrowBy
    (λ measure. range_of (λ score. cond b (worth_to (worth_of measure) club match score) (pos 0))
    options) old new in
    subst P (sym counts) grows

pub uncounted_grows : (group : List ℕ) (match : Fixture) (options : List Score) (club : ℕ)
    (sums : Sums) → (has_club group match.home && has_club group match.away) ≡ false
    → RangesGrowBy
    (λ measure. range_of (worth_among group (worth_of measure) club match) options) sums
    sums
uncounted_grows group match options club sums counts =
    let P : Bool → Type 0 = λ b. RangesGrowBy
    (λ measure. range_of (λ score. cond b (worth_to (worth_of measure) club match score) (pos 0))
    options) sums sums in
    subst P (sym counts) (same_sums options sums)
