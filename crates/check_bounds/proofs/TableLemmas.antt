-- Tables of sums, match by match.
use Rattle.std.proofs.Common.{◌≡◌, ◌≢◌, ◌⊎◌, inl, inr, ℕ, ◌+◌, ◌*◌, ◌<◌, ◌≤◌, ℤ, pos, neg_ℤ, Bool}
use Rattle.std.proofs.Common.{true, false, ◌||◌, eqb, cond, List, [], ◌∷◌, length}
use Rattle.std.proofs.Common.{get_or, set}
use Rattle.std.proofs.Common.{drop, replicate, ◌+ℤ◌, refl, sym}
use Rattle.std.proofs.Common.{ap, subst, ◌∙◌, arith}
use Rattle.std.proofs.lemmas.Bool.{cases_eq, cases_lt, eq-eqb, ne_eqb}
use Rattle.std.proofs.lemmas.Bool.{or_right}
use Rattle.std.proofs.lemmas.Int.{ints}
use Rattle.std.proofs.lemmas.List.{get_or-set_same, get_or-set_other, get_or_past}
use Rattle.std.proofs.lemmas.List.{get_or-replicate, length-replicate}
use Rattle.league_core.specs.declared.sheet.Sheet.{Sheet}
use Rattle.league_core.specs.declared.sheet.Fixture.{Fixture}
use Rattle.league_core.specs.declared.season.Score.{Score}
use Rattle.league_core.specs.game.Ahead.{rank_of}
use Rattle.league_core.specs.game.Sums.{Worth, match_points, has_club, worth_to}
use Rattle.league_core.specs.game.ClubSets.{clubs_below}
use Rattle.league_core.specs.search.PointRanges.{one_value, added, range_of, range_from}
use Rattle.league_core.specs.search.PointRanges.{points_together, points_of_sides}
use Rattle.league_core.proofs.PointRangeLemmas.{range_from-more, range_from-all, range_of-same}
use Rattle.league_core.proofs.PointRangeLemmas.{points_together-sides}
use Rattle.league_core.proofs.RangeLemmas.{added-none, none-added, added-assoc, range_of-none}
use Rattle.check_bounds.specs.declared.term.Measure.{Measure}
use Rattle.check_bounds.specs.declared.int_range.IntRange.{IntRange}
use Rattle.check_bounds.specs.inside.Terms.{worth_by, side_worth}
use Rattle.check_bounds.specs.inside.IntRanges.{as_sum_range, range_at, no_range, IsRangeWithin}
use Rattle.check_bounds.specs.inside.Tables.{IsTableOf, TableTakes, worth_if}
use Rattle.check_bounds.specs.inside.Walks.{worth_near}
use Rattle.check_bounds.proofs.IntRangeLemmas.{near_wider}

-- each club's sum so far, and that of the matches that are left, make the whole; none is far from 0
pub record IsTableSoFar (value : ℕ → Fixture → Score → ℤ) (fixtures : List Fixture)
    (corners : List (List Score)) (count : ℕ) (table : List IntRange) : Type 0 where
  pub long : length table ≡ 32
  pub sums : (club : ℕ) → added (as_sum_range (range_at table club))
      (range_from (value club) (drop count fixtures) (drop count corners))
      ≡ range_from (value club) fixtures corners
  pub near : (club : ℕ) → IsRangeWithin (255 * count) (range_at table club)

-- one match more
pub table_more : (value : ℕ → Fixture → Score → ℤ) (fixtures : List Fixture)
    (corners : List (List Score)) (count : ℕ) (table new : List IntRange) (d : Fixture)
    → count < length fixtures → count < length corners
    → IsTableSoFar value fixtures corners count table → length new ≡ 32
    → ((club : ℕ) → as_sum_range (range_at new club)
    ≡ added (as_sum_range (range_at table club))
    (range_of (value club (get_or fixtures count d)) (get_or corners count [])))
    → ((bound : ℕ) → ((club : ℕ) → IsRangeWithin bound (range_at table club))
    → (club : ℕ) → IsRangeWithin (bound + 255) (range_at new club))
    → IsTableSoFar value fixtures corners (count + 1) new
table_more value fixtures corners count table new d inside there so_far long adds grows = record {
  long = long;
  sums = λ club.
      let rest = range_from (value club) (drop (count + 1) fixtures) (drop (count + 1) corners) in
      let here = range_of (value club (get_or fixtures count d)) (get_or corners count []) in
      ap (λ r. added r rest) (adds club)
      ∙ added-assoc (as_sum_range (range_at table club)) here rest
      ∙ ap (added (as_sum_range (range_at table club)))
      (sym (range_from-more (value club) fixtures corners count d inside there))
      ∙ so_far.sums club;
  near = λ club.
      near_wider (255 * count + 255) (255 * (count + 1)) (range_at new club) (omega arith)
      (grows (255 * count) so_far.near club);
}

-- all of them
pub table_all : (value : ℕ → Fixture → Score → ℤ) (fixtures : List Fixture)
    (corners : List (List Score)) (count : ℕ) (table : List IntRange) → length fixtures ≤ count
    → IsTableSoFar value fixtures corners count table → IsTableOf value fixtures corners table
table_all value fixtures corners count table all so_far club =
    sym (added-none (as_sum_range (range_at table club)))
    ∙ ap (added (as_sum_range (range_at table club)))
    (sym (range_from-all (value club) fixtures corners count all))
    ∙ so_far.sums club

-- what a match adds to the sums of each club
pub match_adds : (kind : Measure) (match : Fixture) (corners : List Score)
    (table middle new : List IntRange) (home away : IntRange)
    → match.home ≢ match.away
    → as_sum_range home ≡ range_of (side_worth kind false) corners
    → as_sum_range away ≡ range_of (side_worth kind true) corners
    → as_sum_range (range_at middle match.home)
    ≡ added (as_sum_range (range_at table match.home)) (as_sum_range home)
    → ((other : ℕ) → other ≢ match.home → range_at middle other ≡ range_at table other)
    → as_sum_range (range_at new match.away)
    ≡ added (as_sum_range (range_at middle match.away)) (as_sum_range away)
    → ((other : ℕ) → other ≢ match.away → range_at new other ≡ range_at middle other)
    → (club : ℕ) → as_sum_range (range_at new club)
    ≡ added (as_sum_range (range_at table club))
    (range_of (worth_to (worth_by kind) club match) corners)
match_adds kind match corners table middle new home away apart home_is away_is
    home_adds home_others away_adds away_others club =
    by_home (cases_eq match.home club)
  where
    side : Bool → Bool → Score → ℤ
    side at_home at_away score = cond at_home (side_worth kind false score)
        (cond at_away (side_worth kind true score) (pos 0))

    by_away : (match.home ≢ club) → (match.away ≡ club) ⊎ (match.away ≢ club)
        → as_sum_range (range_at new club) ≡ added (as_sum_range (range_at table club))
        (range_of (side (eqb match.home club) (eqb match.away club)) corners)
    by_away not_home (inl same) =
        ap (λ n. as_sum_range (range_at new n)) (sym same)
        ∙ away_adds
        ∙ ap (λ s. added (as_sum_range s) (as_sum_range away))
        (home_others match.away (λ e. apart (sym e)))
        ∙ ap (added (as_sum_range (range_at table match.away))) away_is
        ∙ ap (λ n. added (as_sum_range (range_at table n))
        (range_of (side_worth kind true) corners)) same
        ∙ ap (λ b. added (as_sum_range (range_at table club)) (range_of (side false b) corners))
        (sym (eq-eqb match.away club same))
        ∙ ap (λ b. added (as_sum_range (range_at table club))
        (range_of (side b (eqb match.away club)) corners))
        (sym (ne_eqb match.home club not_home))
    by_away not_home (inr not_away) =
        ap as_sum_range (away_others club (λ e. not_away (sym e))
        ∙ home_others club (λ e. not_home (sym e)))
        ∙ sym (added-none (as_sum_range (range_at table club)))
        ∙ ap (added (as_sum_range (range_at table club))) (sym (range_of-none corners))
        ∙ ap (λ b. added (as_sum_range (range_at table club)) (range_of (side false b) corners))
        (sym (ne_eqb match.away club not_away))
        ∙ ap (λ b. added (as_sum_range (range_at table club))
        (range_of (side b (eqb match.away club)) corners))
        (sym (ne_eqb match.home club not_home))

    by_home : (match.home ≡ club) ⊎ (match.home ≢ club)
        → as_sum_range (range_at new club) ≡ added (as_sum_range (range_at table club))
        (range_of (side (eqb match.home club) (eqb match.away club)) corners)
    by_home (inl same) =
        ap as_sum_range (away_others club (λ e. apart (same ∙ e)))
        ∙ ap (λ n. as_sum_range (range_at middle n)) (sym same)
        ∙ home_adds
        ∙ ap (added (as_sum_range (range_at table match.home))) home_is
        ∙ ap (λ n. added (as_sum_range (range_at table n))
        (range_of (side_worth kind false) corners)) same
        ∙ ap (λ b. added (as_sum_range (range_at table club))
        (range_of (side b (eqb match.away club)) corners))
        (sym (eq-eqb match.home club same))
    by_home (inr not_home) = by_away not_home (cases_eq match.away club)

-- if it counts, that is what a match adds; if it does not, nothing
pub adds_when : (counts : Bool) (value : ℕ → Score → ℤ) (corners : List Score)
    (old new : List IntRange) → counts ≡ true → TableTakes value corners old new
    → TableTakes (λ club score. cond counts (value club score) (pos 0)) corners old new
adds_when counts value corners old new is adds =
    subst (λ (b : Bool). TableTakes (λ club score. cond b (value club score) (pos 0)) corners old
    new) (sym is) adds

pub adds_unless : (counts : Bool) (value : ℕ → Score → ℤ) (corners : List Score)
    (table : List IntRange) → counts ≡ false
    → TableTakes (λ club score. cond counts (value club score) (pos 0)) corners table table
adds_unless counts value corners table is =
    subst (λ (b : Bool). TableTakes (λ club score. cond b (value club score) (pos 0)) corners table
    table) (sym is) (record {
      long = refl;
      sums = λ club.
          sym (added-none (as_sum_range (range_at table club)))
          ∙ ap (added (as_sum_range (range_at table club))) (sym (range_of-none corners));
      near = λ bound all club.
          near_wider bound (bound + 255) (range_at table club) (omega arith) (all club);
    })

-- one match more, by what it added
pub adds_more : (value : ℕ → Fixture → Score → ℤ) (worth : Worth) (fixtures : List Fixture)
    (corners : List (List Score)) (count : ℕ) (table new : List IntRange) (d : Fixture)
    (counts : Bool) (own : List Score) → count < length fixtures → count < length corners
    → own ≡ get_or corners count []
    → ((club : ℕ) → worth_if counts worth (get_or fixtures count d) club
    ≡ value club (get_or fixtures count d))
    → IsTableSoFar value fixtures corners count table
    → TableTakes (worth_if counts worth (get_or fixtures count d)) own table new
    → IsTableSoFar value fixtures corners (count + 1) new
adds_more value worth fixtures corners count table new d counts own inside there own_is same
    so_far adds =
    table_more value fixtures corners count table new d inside there so_far
    (adds.long ∙ so_far.long)
    (λ club.
    adds.sums club
    ∙ (λ i. added (as_sum_range (range_at table club)) (range_of (same club i) (own_is i))))
    adds.near

-- sums so far are not far from 0
pub so_far_near : (value : ℕ → Fixture → Score → ℤ) (fixtures : List Fixture)
    (corners : List (List Score)) (count : ℕ) (table : List IntRange) → count < 600
    → IsTableSoFar value fixtures corners count table → (club : ℕ)
    → IsRangeWithin 500000 (range_at table club)
so_far_near value fixtures corners count table few so_far club =
    near_wider (255 * count) 500000 (range_at table club) (omega (arith, few)) (so_far.near club)

-- what matches with an end in a group are worth to a club of the group is all that matches are
pub near_is : (group : List ℕ) (worth : Worth) (club : ℕ) → has_club group club ≡ true
    → worth_near group worth club ≡ worth_to worth club
near_is group worth club has =
    λ i match score. at match score (cases_eq match.home club) (cases_eq match.away club) i
  where
    same : (b : Bool) (n : ℤ) → n ≡ pos 0 → cond b n (pos 0) ≡ n
    same true n none = refl
    same false n none = sym none

    at : (match : Fixture) (score : Score) → (match.home ≡ club) ⊎ (match.home ≢ club)
        → (match.away ≡ club) ⊎ (match.away ≢ club)
        → worth_near group worth club match score ≡ worth_to worth club match score
    at match score (inl home) away =
        ap (λ b. cond (b || has_club group match.away) (worth_to worth club match score) (pos 0))
        (ap (has_club group) home ∙ has)
    at match score (inr home) (inl away) =
        ap (λ b. cond b (worth_to worth club match score) (pos 0))
        (or_right (has_club group match.home) (has_club group match.away)
        (ap (has_club group) away ∙ has))
    at match score (inr home) (inr away) =
        same (has_club group match.home || has_club group match.away)
        (worth_to worth club match score)
        (ap (λ b. cond b (worth score.home score.away false)
        (cond (eqb match.away club) (worth score.away score.home true) (pos 0)))
        (ne_eqb match.home club home)
        ∙ ap (λ b. cond b (worth score.away score.home true) (pos 0))
        (ne_eqb match.away club away))

-- the clubs below a number have their ranks, the others none
pub record AreRanksBelow (sheet : Sheet) (table : List IntRange) (count : ℕ) : Type 0 where
  pub long : length table ≡ 32
  pub done : (club : ℕ) → club < count
      → as_sum_range (range_at table club) ≡ one_value (neg_ℤ (pos (rank_of sheet club)))
  pub left : (club : ℕ) → count ≤ club → as_sum_range (range_at table club) ≡ one_value (pos 0)

-- a table without a match
pub nothing_at : (count club : ℕ) → range_at (replicate count no_range) club ≡ no_range
nothing_at count club =
    elim (cases_lt club count) as (λ _. range_at (replicate count no_range) club ≡ no_range) [
      | inl within ↦ get_or-replicate count club no_range no_range within
      | inr past ↦ get_or_past (replicate count no_range) club no_range
          (omega (arith, past, length-replicate {A = IntRange}))
    ]

pub near_nothing : (bound : ℕ) (range : IntRange) → range ≡ no_range → IsRangeWithin bound range
near_nothing bound range is =
    let At : IntRange → Type 0 = λ s. IsRangeWithin bound s in
    subst At (sym is) (record {
      least_above = omega (arith, ints);
      least_below = omega (arith, ints);
      greatest_above = omega (arith, ints);
      greatest_below = omega (arith, ints);
    })

pub table_none : (value : ℕ → Fixture → Score → ℤ) (fixtures : List Fixture)
    (corners : List (List Score))
    → IsTableSoFar value fixtures corners 0 (replicate 32 no_range)
table_none value fixtures corners = record {
  long = refl;
  sums = λ club.
      ap (λ s. added (as_sum_range s) (range_from (value club) fixtures corners))
      (nothing_at 32 club)
      ∙ none-added (range_from (value club) fixtures corners);
  near = λ club. near_nothing 0 (range_at (replicate 32 no_range) club) (nothing_at 32 club);
}

-- how far the sums are from 0 after a match
pub match_near : (bound : ℕ) (match : Fixture) (table middle new : List IntRange)
    → match.home ≢ match.away → ((club : ℕ) → IsRangeWithin bound (range_at table club))
    → (IsRangeWithin bound (range_at table match.home)
    → IsRangeWithin (bound + 255) (range_at middle match.home))
    → ((other : ℕ) → other ≢ match.home → range_at middle other ≡ range_at table other)
    → (IsRangeWithin bound (range_at middle match.away)
    → IsRangeWithin (bound + 255) (range_at new match.away))
    → ((other : ℕ) → other ≢ match.away → range_at new other ≡ range_at middle other)
    → (club : ℕ) → IsRangeWithin (bound + 255) (range_at new club)
match_near bound match table middle new apart all home_grows home_others away_grows away_others
    club = by_away (cases_eq match.away club)
  where
    At : IntRange → Type 0
    At s = IsRangeWithin (bound + 255) s

    Was : IntRange → Type 0
    Was s = IsRangeWithin bound s

    by_home : (match.away ≢ club) → (match.home ≡ club) ⊎ (match.home ≢ club)
        → IsRangeWithin (bound + 255) (range_at new club)
    by_home not_away (inl same) =
        subst (λ (s : IntRange). IsRangeWithin (bound + 255) s)
        (sym (away_others club (λ e. not_away (sym e))))
        (subst (λ (n : ℕ). IsRangeWithin (bound + 255) (range_at middle n)) same
        (home_grows (all match.home)))
    by_home not_away (inr other) =
        subst (λ (s : IntRange). IsRangeWithin (bound + 255) s)
        (sym (away_others club (λ e. not_away (sym e)) ∙ home_others club (λ e. other (sym e))))
        (near_wider bound (bound + 255) (range_at table club) (omega arith) (all club))

    by_away : (match.away ≡ club) ⊎ (match.away ≢ club)
        → IsRangeWithin (bound + 255) (range_at new club)
    by_away (inl same) =
        subst (λ (n : ℕ). IsRangeWithin (bound + 255) (range_at new n)) same
        (away_grows (subst (λ (s : IntRange). IsRangeWithin bound s)
        (sym (home_others match.away (λ e. apart (sym e)))) (all match.away)))
    by_away (inr other) = by_home other (cases_eq match.home club)

pub ranks_none : (sheet : Sheet) → AreRanksBelow sheet (replicate 32 no_range) 0
ranks_none sheet = record {
  long = refl;
  done = λ club below. absurd (omega (arith, below));
  left = λ club above. ap as_sum_range (nothing_at 32 club);
}

-- the points of a set in a match, by which of its ends are of the set
pub together_by_ends : (bits : ℕ) (match : Fixture) (corners : List Score) (home away : Bool)
    (range : IntRange) → match.home ≢ match.away → home ≡ has_club (clubs_below 32 bits) match.home
    → away ≡ has_club (clubs_below 32 bits) match.away
    → as_sum_range range ≡ range_of (points_of_sides home away) corners
    → as_sum_range range ≡ range_of (points_together (clubs_below 32 bits) match) corners
together_by_ends bits match corners home away range apart home_is away_is is =
    is
    ∙ ap (λ b. range_of (points_of_sides b away) corners) home_is
    ∙ ap (λ b. range_of (points_of_sides (has_club (clubs_below 32 bits) match.home) b) corners)
    away_is
    ∙ sym (range_of-same (points_together (clubs_below 32 bits) match)
    (points_of_sides (has_club (clubs_below 32 bits) match.home)
    (has_club (clubs_below 32 bits) match.away)) corners
    (λ score. points_together-sides bits match score apart))

-- one match more of one sum
pub sum_more : (value : Fixture → Score → ℤ) (fixtures : List Fixture)
    (corners : List (List Score)) (count : ℕ) (old here new : IntRange) (d : Fixture)
    → count < length fixtures → count < length corners
    → added (as_sum_range old) (range_from value (drop count fixtures) (drop count corners))
    ≡ range_from value fixtures corners
    → as_sum_range here ≡ range_of (value (get_or fixtures count d)) (get_or corners count [])
    → as_sum_range new ≡ added (as_sum_range old) (as_sum_range here)
    → added (as_sum_range new)
    (range_from value (drop (count + 1) fixtures) (drop (count + 1) corners))
    ≡ range_from value fixtures corners
sum_more value fixtures corners count old here new d inside there so_far here_is is =
    let rest = range_from value (drop (count + 1) fixtures) (drop (count + 1) corners) in
    ap (λ r. added r rest) is
    ∙ added-assoc (as_sum_range old) (as_sum_range here) rest
    ∙ ap (λ r. added (as_sum_range old) (added r rest)) here_is
    ∙ ap (added (as_sum_range old)) (sym (range_from-more value fixtures corners count d inside
    there))
    ∙ so_far

-- the match points of one club
pub points_alone : (club : ℕ) (fixtures : List Fixture) (corners : List (List Score))
    → range_from (worth_to match_points club) fixtures corners
    ≡ range_from (points_together (club ∷ [])) fixtures corners
points_alone club fixtures corners =
    ap (λ v. range_from v fixtures corners)
    (λ i match score. without (worth_to match_points club match score) i)
  where
    without : (n : ℤ) → n ≡ (n +ℤ pos 0)
    without n = omega (arith, ints)

-- what holds of each club passed, and of one more
pub each_more : (Fact : ℕ → IntRange
    → Type 0) (table : List IntRange) (count : ℕ) (range : IntRange)
    → count < length table → ((x : ℕ) → x < count → Fact x (range_at table x)) → Fact count range
    → (x : ℕ) → x < count + 1 → Fact x (range_at (set table count range) x)
each_more Fact table count range inside so_far here x below = at (cases_eq x count)
  where
    at : (x ≡ count) ⊎ (x ≢ count) → Fact x (range_at (set table count range) x)
    at (inl same) =
        subst (λ (n : ℕ). Fact n (range_at (set table count range) n)) (sym same)
        (subst (λ (s : IntRange). Fact count s)
        (sym (get_or-set_same table count range no_range inside)) here)
    at (inr other) =
        subst (λ (s : IntRange). Fact x s) (sym
        (get_or-set_other table count x range no_range other))
        (so_far x (omega (arith, below, other)))
