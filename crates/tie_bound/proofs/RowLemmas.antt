-- Tables that begin with what was played: rows of single values, and the matches that are not
-- played, one after another.
use Rattle.std.proofs.Common.{◌≡◌, ◌≢◌, ◌⊎◌, inl, inr, ℕ, ◌+◌, ◌*◌, ◌<◌, ◌≤◌, ℤ, pos, ◌+ℤ◌, ◌-ℤ◌}
use Rattle.std.proofs.Common.{◌≤ℤ◌, Bool, true, false, ◌&&◌, cond, List, [], length, get_or, set}
use Rattle.std.proofs.Common.{take, replicate, Option, sym, ap, refl, ◌∙◌, subst, arith}
use Rattle.std.specs.List.{list_all}
use Rattle.std.proofs.lemmas.Bool.{and_from, cases_eq, cases_lt, ne_eqb}
use Rattle.std.proofs.lemmas.Int.{ints}
use Rattle.std.proofs.lemmas.List.{get_or-set_same, get_or-set_other, take_all, get_or-replicate}
use Rattle.std.proofs.lemmas.List.{get_or_past, length-replicate}
use Rattle.league_core.specs.declared.sheet.Fixture.{Fixture}
use Rattle.league_core.specs.declared.season.Score.{Score}
use Rattle.league_core.specs.game.Sheets.{is_fixture}
use Rattle.league_core.specs.game.Sums.{Worth, has_club, worth_to, worth_among, sum_over}
use Rattle.league_core.specs.search.PointRanges.{Range, one_value, range_of, range_from, total_of}
use Rattle.league_core.proofs.SumLemmas.{sum_over-agree, sum_over-zero}
use Rattle.league_core.proofs.RangeLemmas.{same_range}
use Rattle.league_core.proofs.FixtureLemmas.{ends_low}
use Rattle.tie_criteria.specs.declared.measure.Measure.{Measure}
use Rattle.tie_criteria.specs.declared.measure.Measure.TheVariants.{Points, Difference, Goals}
use Rattle.tie_criteria.specs.declared.measure.Measure.TheVariants.{AwayGoals, Wins, AwayWins}
use Rattle.tie_criteria.specs.inside.Measures.{worth_of}
use Rattle.score_box.specs.declared.totals.Totals.{Totals}
use Rattle.score_box.specs.inside.Totals.{total_in, worth_in, AreTotals, AreTotalsNear}
use Rattle.score_box.specs.inside.Unplayed.{unplayed_in}
use Rattle.score_box.proofs.SplitLemmas.{least_end, greatest_end, end_at_fixture, no_match}
use Rattle.score_box.proofs.SplitLemmas.{range_split, KeepsPlayed, total_take, unplayed_few}
use Rattle.tie_bound.specs.declared.sums.Sums.{Sums}
use Rattle.tie_bound.specs.inside.IntRanges.{IsRangeNear}
use Rattle.tie_bound.specs.inside.Sums.{range_by, no_sums, sums_at, AreNear, RangesGrowBy}
use Rattle.tie_bound.specs.inside.Tables.{Value}
use Rattle.tie_bound.specs.inside.Rows.{column_of, IsRow, AreRows}
use Rattle.tie_bound.proofs.SoFarLemmas.{no_sums-is}
use Rattle.league_core.proofs.plain.Numbers.{zero_if}

-- the column of a measure counts what the measure does
worth_of-column : (measure : Measure) → worth_in (column_of measure) ≡ worth_of measure
worth_of-column Points = refl
worth_of-column Difference = refl
worth_of-column Goals = refl
worth_of-column AwayGoals = refl
worth_of-column Wins = refl
worth_of-column AwayWins = refl

near_one : (bound more : ℕ) (n : ℤ) (range : Range) → bound ≤ more → range ≡ one_value n
    → (pos 0 -ℤ pos bound) ≤ℤ n → n ≤ℤ pos bound → IsRangeNear more range
near_one bound more n range fewer is least most =
    subst (IsRangeNear more) (sym is) (record {
      least_above = omega (arith, ints);
      least_below = omega (arith, ints);
      greatest_above = omega (arith, ints);
      greatest_below = omega (arith, ints);
    })

-- totals as a row
pub row_of_totals : (value : Value) (fixtures : List Fixture) (scores : List (Option Score))
    (club bound : ℕ) (totals : Totals) (sums : Sums) → bound ≤ 5000000
    → ((measure : Measure) → range_by sums measure
    ≡ one_value (total_in totals (column_of measure)))
    → AreTotals (λ worth. sum_over (value worth club) fixtures scores) totals
    → AreTotalsNear bound totals → IsRow value fixtures scores club sums
row_of_totals value fixtures scores club bound totals sums low is are near = record {
  each = λ measure.
      is measure
      ∙ ap one_value (are (column_of measure)
      ∙ ap (λ (w : Worth). sum_over (value w club) fixtures scores) (worth_of-column measure));
  near = λ measure.
      let here = near (column_of measure) in
      near_one bound 5000000 (total_in totals (column_of measure)) (range_by sums measure) low
      (is measure) (omega (arith, ints, here.0)) here.1;
}

-- a club that plays in none of the matches that count has no sums
pub row_of_none : (value : Value) (clubs : ℕ) (fixtures : List Fixture)
    (scores : List (Option Score)) (club : ℕ) → list_all (is_fixture clubs) fixtures ≡ true
    → ((worth : Worth) (match : Fixture) (score : Score) → is_fixture clubs match ≡ true
    → value worth club match score ≡ pos 0)
    → IsRow value fixtures scores club no_sums
row_of_none value clubs fixtures scores club all nothing = record {
  each = λ measure.
      no_sums-is measure
      ∙ ap one_value (sym (sum_over-agree (is_fixture clubs) (value (worth_of measure) club)
      (λ match score. pos 0) (nothing (worth_of measure)) fixtures scores all
      ∙ sum_over-zero fixtures scores));
  near = λ measure.
      near_one 0 5000000 (pos 0) (range_by no_sums measure) (omega arith) (no_sums-is measure)
      (omega (arith, ints)) (omega (arith, ints));
}

not_there : (worth : Worth) (club : ℕ) (match : Fixture) (score : Score) → match.home ≢ club
    → match.away ≢ club → worth_to worth club match score ≡ pos 0
not_there worth club match score home away =
    rw (ne_eqb match.home club home, ne_eqb match.away club away) refl

-- a number that is no club's
pub past_over : (clubs : ℕ) (fixtures : List Fixture) (scores : List (Option Score)) (club : ℕ)
    → list_all (is_fixture clubs) fixtures ≡ true → clubs ≤ club
    → IsRow worth_to fixtures scores club no_sums
past_over clubs fixtures scores club all past =
    row_of_none worth_to clubs fixtures scores club all
    (λ worth match score is.
    let low = ends_low clubs match is in
    not_there worth club match score (λ e. omega arith) (λ e. omega arith))

-- a club outside the group
pub out_of_group : (group : List ℕ) (clubs : ℕ) (fixtures : List Fixture)
    (scores : List (Option Score)) (club : ℕ) → list_all (is_fixture clubs) fixtures ≡ true
    → has_club group club ≡ false → IsRow (worth_among group) fixtures scores club no_sums
out_of_group group clubs fixtures scores club all out =
    row_of_none (worth_among group) clubs fixtures scores club all
    (λ worth match score is. at worth match score (cases_eq match.home club)
    (cases_eq match.away club))
  where
    at : (worth : Worth) (match : Fixture) (score : Score)
        → (match.home ≡ club) ⊎ (match.home ≢ club) → (match.away ≡ club) ⊎ (match.away ≢ club)
        → worth_among group worth club match score ≡ pos 0
    at worth match score (inl home) away =
        ap (λ b. cond (b && has_club group match.away) (worth_to worth club match score) (pos 0))
        (ap (has_club group) home ∙ out)
    at worth match score (inr home) (inl away) =
        ap (λ b. cond (has_club group match.home && b) (worth_to worth club match score) (pos 0))
        (ap (has_club group) away ∙ out)
        ∙ both_false (has_club group match.home) (worth_to worth club match score)
      where
        both_false : (b : Bool) (n : ℤ) → cond (b && false) n (pos 0) ≡ pos 0
        both_false true n = refl
        both_false false n = refl
    at worth match score (inr home) (inr away) =
        zero_if (has_club group match.home && has_club group match.away)
        (worth_to worth club match score) (not_there worth club match score home away)

-- a table without a row
pub none_at : (count club : ℕ) → sums_at (replicate count no_sums) club ≡ no_sums
none_at count club =
    elim (cases_lt club count) as (λ _. sums_at (replicate count no_sums) club ≡ no_sums) [
      | inl within ↦ get_or-replicate count club no_sums no_sums within
      | inr past ↦ get_or_past (replicate count no_sums) club no_sums
          (omega (arith, length-replicate {A = Sums}))
    ]

-- a table with one row more
pub rows_more : (value : Value) (fixtures : List Fixture) (scores : List (Option Score))
    (table : List Sums) (club other : ℕ) (row : Sums) → club < length table
    → ((earlier : ℕ) → earlier < club → IsRow value fixtures scores earlier (sums_at table earlier))
    → IsRow value fixtures scores club row → other < club + 1
    → IsRow value fixtures scores other (sums_at (set table club row) other)
rows_more value fixtures scores table club other row within before here low =
    let Is : Sums → Type 0 = λ s. IsRow value fixtures scores other s in
    elim (cases_eq other club) as (λ _. Is (sums_at (set table club row) other)) [
      | inl same ↦
          let At : ℕ → Type 0 = λ n. IsRow value fixtures scores n row in
          subst Is (sym (ap (sums_at (set table club row)) same
          ∙ get_or-set_same table club row no_sums within)) (subst At (sym same) here)
      | inr apart ↦
          subst Is (sym (get_or-set_other table club other row no_sums apart))
          (before other (omega arith))
    ]

-- in a group of all clubs each match counts
pub rows_of_all : (group : List ℕ) (clubs : ℕ) (fixtures : List Fixture)
    (scores : List (Option Score)) (table : List Sums)
    → ((x : ℕ) → x < clubs → has_club group x ≡ true)
    → list_all (is_fixture clubs) fixtures ≡ true → AreRows worth_to fixtures scores table
    → AreRows (worth_among group) fixtures scores table
rows_of_all group clubs fixtures scores table has all rows club = record {
  each = λ measure.
      (rows club).each measure
      ∙ ap one_value (sym (sum_over-agree (is_fixture clubs)
      (worth_among group (worth_of measure) club) (worth_to (worth_of measure) club)
      (λ match score is.
      let low = ends_low clubs match is in
      ap (λ b. cond b (worth_to (worth_of measure) club match score) (pos 0))
      (and_from (has_club group match.home) (has_club group match.away) (has match.home low.0)
      (has match.away low.1))) fixtures scores all));
  near = (rows club).near;
}

-- ---- the matches that are not played

-- the sums so far: what is played, and the matches so far
pub record IsOpenSoFar (value : Value) (fixtures : List Fixture) (scores : List (Option Score))
    (options : List (List Score)) (unplayed : List ℕ) (i club : ℕ) (sums : Sums) : Type 0 where
  pub least : (measure : Measure) → (range_by sums measure).least
      ≡ sum_over (value (worth_of measure) club) fixtures scores
      +ℤ total_of (end_at_fixture (λ range. range.least) (value (worth_of measure) club) fixtures
      options) (take i unplayed)
  pub greatest : (measure : Measure) → (range_by sums measure).greatest
      ≡ sum_over (value (worth_of measure) club) fixtures scores
      +ℤ total_of (end_at_fixture (λ range. range.greatest) (value (worth_of measure) club) fixtures
      options) (take i unplayed)
  pub near : AreNear (5000000 + 255 * i) sums

pub open_none : (value : Value) (fixtures : List Fixture) (scores : List (Option Score))
    (options : List (List Score)) (unplayed : List ℕ) (club : ℕ) (sums : Sums)
    → IsRow value fixtures scores club sums
    → IsOpenSoFar value fixtures scores options unplayed 0 club sums
open_none value fixtures scores options unplayed club sums row = record {
  least = λ measure.
      let is = ap (λ (r : Range). r.least) (row.each measure) in omega (arith, ints, is);
  greatest = λ measure.
      let is = ap (λ (r : Range). r.greatest) (row.each measure) in omega (arith, ints, is);
  near = row.near;
}

pub open_more : (value : Value) (fixtures : List Fixture) (scores : List (Option Score))
    (options : List (List Score)) (unplayed : List ℕ) (i club : ℕ) (old new : Sums)
    → i < length unplayed → IsOpenSoFar value fixtures scores options unplayed i club old
    → RangesGrowBy (λ measure. range_of (value (worth_of measure) club
    (get_or fixtures (get_or unplayed i 0) no_match)) (get_or options (get_or unplayed i 0) []))
    old new → IsOpenSoFar value fixtures scores options unplayed (i + 1) club new
open_more value fixtures scores options unplayed i club old new within so_far grows =
    let bound : 5000000 + 255 * i + 255 ≡ 5000000 + 255 * (i + 1) = omega arith in
    record {
      least = λ measure.
          let v = value (worth_of measure) club in
          let next = total_take (end_at_fixture (λ range. range.least) v fixtures options) unplayed
          i 0 within in
          let grown = ap (λ (r : Range). r.least) (grows.sums measure) in
          omega (arith, ints, next, grown, so_far.least measure);
      greatest = λ measure.
          let v = value (worth_of measure) club in
          let next = total_take (end_at_fixture (λ range. range.greatest) v fixtures options)
          unplayed i 0 within in
          let grown = ap (λ (r : Range). r.greatest) (grows.sums measure) in
          omega (arith, ints, next, grown, so_far.greatest measure);
      near = subst (λ (n : ℕ). AreNear n new) bound (grows.near (5000000 + 255 * i) so_far.near);
    }

-- after the last of them they are the ranges over all fixtures
pub open_all : (value : Value) (fixtures : List Fixture) (scores : List (Option Score))
    (options : List (List Score)) (unplayed : List ℕ) (i club : ℕ) (sums : Sums)
    (measure : Measure) → unplayed ≡ unplayed_in scores → length unplayed ≤ i
    → length scores ≡ length fixtures → length options ≡ length fixtures
    → KeepsPlayed scores options
    → IsOpenSoFar value fixtures scores options unplayed i club sums
    → range_by sums measure ≡ range_from (value (worth_of measure) club) fixtures options
open_all value fixtures scores options unplayed i club sums measure are past many many_options
    keeps so_far =
    let v = value (worth_of measure) club in
    same_range (range_by sums measure) (range_from v fixtures options)
    (so_far.least measure
    ∙ ap (λ (ks : List ℕ). sum_over v fixtures scores
    +ℤ total_of (end_at_fixture (λ range. range.least) v fixtures options) ks)
    (take_all i unplayed past ∙ are)
    ∙ sym (range_split (λ range. range.least) least_end (λ n. refl) v fixtures scores options many
    many_options keeps))
    (so_far.greatest measure
    ∙ ap (λ (ks : List ℕ). sum_over v fixtures scores
    +ℤ total_of (end_at_fixture (λ range. range.greatest) v fixtures options) ks)
    (take_all i unplayed past ∙ are)
    ∙ sym (range_split (λ range. range.greatest) greatest_end (λ n. refl) v fixtures scores options
    many many_options keeps))

-- and there are no more of them than fixtures
pub open_few : (scores : List (Option Score)) (unplayed : List ℕ) → unplayed ≡ unplayed_in scores
    → length unplayed ≤ length scores
open_few scores unplayed are = omega (arith, ap length are, unplayed_few scores)
