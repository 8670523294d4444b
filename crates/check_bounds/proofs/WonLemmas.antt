-- Match points in tables: how few a match gives, and what one match that changes makes of the sums.
use Rattle.std.proofs.Common.{◌≡◌, ◌≢◌, ◌⊎◌, inl, inr, ℕ, zero, suc, ◌*◌, ◌<◌, ◌≤◌, ℤ, pos}
use Rattle.std.proofs.Common.{◌≤ℤ◌, ◌-ℤ◌, Bool, true, false, eqb, cond, List, [], ◌∷◌}
use Rattle.std.proofs.Common.{length, get_or, set, sym, ap, subst, ◌∙◌, arith}
use Rattle.std.proofs.lemmas.Bool.{cases_eq, eq-eqb, ne_eqb}
use Rattle.std.proofs.lemmas.Int.{ints, clamps}
use Rattle.league_core.specs.declared.sheet.Sheet.{Sheet}
use Rattle.league_core.specs.declared.sheet.Fixture.{Fixture}
use Rattle.league_core.specs.declared.season.Score.{Score}
use Rattle.league_core.specs.game.Results.{Results}
use Rattle.league_core.specs.game.Sums.{match_points, worth_to}
use Rattle.league_core.specs.search.PointRanges.{Range, one_value, added, range_of, range_from}
use Rattle.league_core.specs.search.PointRanges.{points_range, deducted_from}
use Rattle.league_core.proofs.RangeLemmas.{same_range, range_of-none}
use Rattle.check_bounds.specs.declared.term.Measure.TheVariants as kind
use Rattle.check_bounds.specs.declared.int_range.IntRange.{IntRange}
use Rattle.check_bounds.specs.inside.Terms.{side_worth}
use Rattle.check_bounds.specs.inside.IntRanges.{as_sum_range, range_at, IsRangeWithin}
use Rattle.check_bounds.specs.inside.Cells.{AreWonIn, points_by_table}
use Rattle.check_bounds.proofs.TableLemmas.{points_alone}

-- from 0 to so much
abbrev IsFew : ℕ → ℤ → Type 0
IsFew most value = (pos 0 ≤ℤ value) × (value ≤ℤ pos most)

-- both ends are
abbrev AreFew : ℕ → Range → Type 0
AreFew most range = IsFew most range.least × IsFew most range.greatest

points_few : (won drawn : Bool) → IsFew 3 (cond won (pos 3) (cond drawn (pos 1) (pos 0)))
points_few true drawn = (omega (arith, ints), omega (arith, ints))
points_few false true = (omega (arith, ints), omega (arith, ints))
points_few false false = (omega (arith, ints), omega (arith, ints))

chosen_few : (home away : Bool) (first second : ℤ) → IsFew 3 first → IsFew 3 second
    → IsFew 3 (cond home first (cond away second (pos 0)))
chosen_few true away first second few other = few
chosen_few false true first second few other = other
chosen_few false false first second few other = (omega (arith, ints), omega (arith, ints))

-- a match gives a club three points at most
worth_few : (club : ℕ) (match : Fixture) (score : Score)
    → IsFew 3 (worth_to match_points club match score)
worth_few club match score =
    chosen_few (eqb match.home club) (eqb match.away club)
    (match_points score.home score.away false) (match_points score.away score.home true)
    (points_few _ _) (points_few _ _)

range_few : (value : Score → ℤ) (most : ℕ) → ((score : Score) → IsFew most (value score))
    → (corners : List Score) → AreFew most (range_of value corners)
range_few value most few [] =
    ((omega (arith, ints), omega (arith, ints)), (omega (arith, ints), omega (arith, ints)))
range_few value most few (score ∷ []) = (few score, few score)
range_few value most few (score ∷ other ∷ corners) =
    let here = few score in
    let rest = range_few value most few (other ∷ corners) in
    let la = here.0 in
    let lb = here.1 in
    let ra = rest.0.0 in
    let rb = rest.0.1 in
    let ga = rest.1.0 in
    let gb = rest.1.1 in (
      (omega (arith, ints, clamps, la, ra), omega (arith, ints, clamps, lb, rb)),
      (omega (arith, ints, clamps, la, ga), omega (arith, ints, clamps, lb, gb)),
    )

sums_few : (value : Fixture → Score → ℤ)
    → ((match : Fixture) (score : Score) → IsFew 3 (value match score))
    → (matches : List Fixture) (corners : List (List Score))
    → AreFew (3 * length matches) (range_from value matches corners)
sums_few value few [] corners =
    ((omega (arith, ints), omega (arith, ints)), (omega (arith, ints), omega (arith, ints)))
sums_few value few (match ∷ matches) [] =
    ((omega (arith, ints), omega (arith, ints)), (omega (arith, ints), omega (arith, ints)))
sums_few value few (match ∷ matches) (own ∷ corners) =
    let here = range_few (value match) 3 (few match) own in
    let rest = sums_few value few matches corners in
    let a = here.0.0 in
    let b = here.0.1 in
    let c = here.1.0 in
    let d = here.1.1 in
    let e = rest.0.0 in
    let f = rest.0.1 in
    let g = rest.1.0 in
    let h = rest.1.1 in (
      (omega (arith, ints, a, e), omega (arith, ints, b, f)),
      (omega (arith, ints, c, g), omega (arith, ints, d, h)),
    )

-- the points of a league's clubs are not far from 0
pub won_near : (sheet : Sheet) (corners : List (List Score)) (won : List IntRange)
    → length sheet.fixtures ≤ 600 → AreWonIn sheet corners won → (club : ℕ)
    → IsRangeWithin 2000 (range_at won club)
won_near sheet corners won few are club =
    let all = sums_few (worth_to match_points club) (worth_few club) sheet.fixtures corners in
    let least : (range_at won club).least
    ≡ (range_from (worth_to match_points club) sheet.fixtures corners).least =
    ap (λ (r : Range). r.least) (are club) in
    let greatest : (range_at won club).greatest
    ≡ (range_from (worth_to match_points club) sheet.fixtures corners).greatest =
    ap (λ (r : Range). r.greatest) (are club) in
    let a = all.0.0 in
    let b = all.0.1 in
    let c = all.1.0 in
    let d = all.1.1 in
    record {
      least_above = omega (arith, ints, least, a);
      least_below = omega (arith, ints, least, b, few);
      greatest_above = omega (arith, ints, greatest, c);
      greatest_below = omega (arith, ints, greatest, d, few);
    }

-- what a match gives a club, by which of its sides that is
abbrev sides : Bool → Bool → List Score → Range
sides at_home at_away corners =
    range_of (λ score. cond at_home (side_worth kind.Points false score)
    (cond at_away (side_worth kind.Points true score) (pos 0))) corners

-- one part of a sum in the place of another, at each club
pub match_exchanged : (match : Fixture) (old new : List Score) (table middle now : List IntRange)
    (home_old home_new away_old away_new : IntRange) → match.home ≢ match.away
    → as_sum_range home_old ≡ range_of (side_worth kind.Points false) old
    → as_sum_range home_new ≡ range_of (side_worth kind.Points false) new
    → as_sum_range away_old ≡ range_of (side_worth kind.Points true) old
    → as_sum_range away_new ≡ range_of (side_worth kind.Points true) new
    → added (as_sum_range (range_at middle match.home)) (as_sum_range home_old)
    ≡ added (as_sum_range (range_at table match.home)) (as_sum_range home_new)
    → ((other : ℕ) → other ≢ match.home → range_at middle other ≡ range_at table other)
    → added (as_sum_range (range_at now match.away)) (as_sum_range away_old)
    ≡ added (as_sum_range (range_at middle match.away)) (as_sum_range away_new)
    → ((other : ℕ) → other ≢ match.away → range_at now other ≡ range_at middle other)
    → (club : ℕ) → added (as_sum_range (range_at now club))
    (range_of (worth_to match_points club match) old)
    ≡ added (as_sum_range (range_at table club))
    (range_of (worth_to match_points club match) new)
match_exchanged match old new table middle now home_old home_new away_old away_new apart
    home_old_is home_new_is away_old_is away_new_is home_is home_others away_is away_others club =
    at (cases_eq match.home club) (cases_eq match.away club)
  where
    at_home : added (as_sum_range (range_at now match.home))
        (range_of (side_worth kind.Points false) old)
        ≡ added (as_sum_range (range_at table match.home))
        (range_of (side_worth kind.Points false) new)
    at_home =
        ap (λ s. added (as_sum_range s) (range_of (side_worth kind.Points false) old))
        (away_others match.home apart)
        ∙ ap (added (as_sum_range (range_at middle match.home))) (sym home_old_is)
        ∙ home_is
        ∙ ap (added (as_sum_range (range_at table match.home))) home_new_is

    at_away : added (as_sum_range (range_at now match.away))
        (range_of (side_worth kind.Points true) old)
        ≡ added (as_sum_range (range_at table match.away))
        (range_of (side_worth kind.Points true) new)
    at_away =
        ap (added (as_sum_range (range_at now match.away))) (sym away_old_is)
        ∙ away_is
        ∙ ap (added (as_sum_range (range_at middle match.away))) away_new_is
        ∙ ap (λ s. added (as_sum_range s) (range_of (side_worth kind.Points true) new))
        (home_others match.away (λ e. apart (sym e)))

    at : (match.home ≡ club) ⊎ (match.home ≢ club) → (match.away ≡ club) ⊎ (match.away ≢ club)
        → added (as_sum_range (range_at now club)) (range_of (worth_to match_points club match) old)
        ≡ added (as_sum_range (range_at table club))
        (range_of (worth_to match_points club match) new)
    at (inl home) away =
        subst (λ (b : Bool). added (as_sum_range (range_at now club))
        (sides b (eqb match.away club) old)
        ≡ added (as_sum_range (range_at table club)) (sides b (eqb match.away club) new))
        (sym (eq-eqb match.home club home))
        (subst (λ (n : ℕ). added (as_sum_range (range_at now n))
        (range_of (side_worth kind.Points false) old)
        ≡ added (as_sum_range (range_at table n)) (range_of (side_worth kind.Points false) new))
        home at_home)
    at (inr not_home) (inl away) =
        subst (λ (b : Bool). added (as_sum_range (range_at now club))
        (sides b (eqb match.away club) old)
        ≡ added (as_sum_range (range_at table club)) (sides b (eqb match.away club) new))
        (sym (ne_eqb match.home club not_home))
        (subst (λ (b : Bool). added (as_sum_range (range_at now club)) (sides false b old)
        ≡ added (as_sum_range (range_at table club)) (sides false b new))
        (sym (eq-eqb match.away club away))
        (subst (λ (n : ℕ). added (as_sum_range (range_at now n))
        (range_of (side_worth kind.Points true) old)
        ≡ added (as_sum_range (range_at table n)) (range_of (side_worth kind.Points true) new))
        away at_away))
    at (inr not_home) (inr not_away) =
        subst (λ (b : Bool). added (as_sum_range (range_at now club))
        (sides b (eqb match.away club) old)
        ≡ added (as_sum_range (range_at table club)) (sides b (eqb match.away club) new))
        (sym (ne_eqb match.home club not_home))
        (subst (λ (b : Bool). added (as_sum_range (range_at now club)) (sides false b old)
        ≡ added (as_sum_range (range_at table club)) (sides false b new))
        (sym (ne_eqb match.away club not_away))
        (ap (added (as_sum_range (range_at now club))) (range_of-none old)
        ∙ ap (λ s. added (as_sum_range s) (one_value (pos 0)))
        (away_others club (λ e. not_away (sym e)) ∙ home_others club (λ e. not_home (sym e)))
        ∙ ap (added (as_sum_range (range_at table club))) (sym (range_of-none new))))

-- the sums if one match has other extremes
range_from-set : (value : Fixture → Score → ℤ) (matches : List Fixture)
    (corners : List (List Score)) (k : ℕ) (new : List Score) (d : Fixture) → k < length matches
    → k < length corners
    → added (range_from value matches (set corners k new))
    (range_of (value (get_or matches k d)) (get_or corners k []))
    ≡ added (range_from value matches corners) (range_of (value (get_or matches k d)) new)
range_from-set value [] corners k new d inside there = absurd (omega (arith, inside))
range_from-set value (match ∷ matches) [] k new d inside there = absurd (omega (arith, there))
range_from-set value (match ∷ matches) (own ∷ corners) zero new d inside there =
    same_range
    (added (added (range_of (value match) new) (range_from value matches corners))
    (range_of (value match) own))
    (added (added (range_of (value match) own) (range_from value matches corners))
    (range_of (value match) new)) (omega (arith, ints)) (omega (arith, ints))
range_from-set value (match ∷ matches) (own ∷ corners) (suc k) new d inside there =
    let rest = range_from-set value matches corners k new d (omega (arith, inside))
    (omega (arith, there)) in
    let least = ap (λ (r : Range). r.least) rest in
    let greatest = ap (λ (r : Range). r.greatest) rest in
    same_range
    (added (added (range_of (value match) own) (range_from value matches (set corners k new)))
    (range_of (value (get_or matches k d)) (get_or corners k [])))
    (added (added (range_of (value match) own) (range_from value matches corners))
    (range_of (value (get_or matches k d)) new)) (omega (arith, ints, least))
    (omega (arith, ints, greatest))

-- a table that follows one match follows the sums
pub won_exchanged : (sheet : Sheet) (corners : List (List Score)) (won now : List IntRange) (k : ℕ)
    (new : List Score) (d : Fixture) → k < length sheet.fixtures → k < length corners
    → AreWonIn sheet corners won
    → ((club : ℕ) → added (as_sum_range (range_at now club))
    (range_of (worth_to match_points club (get_or sheet.fixtures k d)) (get_or corners k []))
    ≡ added (as_sum_range (range_at won club))
    (range_of (worth_to match_points club (get_or sheet.fixtures k d)) new))
    → AreWonIn sheet (set corners k new) now
won_exchanged sheet corners won now k new d inside there are follows club =
    let sums = range_from-set (worth_to match_points club) sheet.fixtures corners k new d inside
    there in
    let was = are club in
    let is = follows club in
    let sums_least = ap (λ (r : Range). r.least) sums in
    let sums_greatest = ap (λ (r : Range). r.greatest) sums in
    let was_least = ap (λ (r : Range). r.least) was in
    let was_greatest = ap (λ (r : Range). r.greatest) was in
    let is_least = ap (λ (r : Range). r.least) is in
    let is_greatest = ap (λ (r : Range). r.greatest) is in
    same_range (as_sum_range (range_at now club))
    (range_from (worth_to match_points club) sheet.fixtures (set corners k new))
    (omega (arith, ints, sums_least, was_least, is_least))
    (omega (arith, ints, sums_greatest, was_greatest, is_greatest))

-- a club's points, by the table of match points
pub points_by_table-is : (sheet : Sheet) (season : Results) (corners : List (List Score))
    (won : List IntRange) (club : ℕ) → AreWonIn sheet corners won
    → points_by_table season won club ≡ points_range sheet season corners (club ∷ [])
points_by_table-is sheet season corners won club are =
    ap (λ r. added r (one_value (pos 0 -ℤ deducted_from season (club ∷ []))))
    (are club ∙ points_alone club sheet.fixtures corners)
