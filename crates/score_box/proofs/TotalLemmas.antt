-- Rows of totals: what a match adds to them, and what they are in the end.
use Rattle.std.proofs.Common.{◌≡◌, ◌≢◌, ◌⊎◌, inl, inr, ℕ, ◌+◌, ◌*◌, ◌<◌, ◌≤◌, ℤ, pos, neg_ℤ, ◌+ℤ◌}
use Rattle.std.proofs.Common.{◌≤ℤ◌, Bool, true, false, ◌&&◌, ◌||◌, nat_lt, eqb, cond, List, [], ◌∷◌}
use Rattle.std.proofs.Common.{length, get_or, set, drop, Option, refl, sym, ap, ◌∙◌, subst, arith}
use Rattle.std.proofs.Common.{◌==◌}
use Rattle.std.proofs.lemmas.Int.{ints}
use Rattle.std.proofs.lemmas.Bool.{cases_eq, eq-eqb, ne_eqb}
use Rattle.std.proofs.lemmas.List.{get_or-set_same, get_or-set_other, length-set, drop_more}
use Rattle.std.proofs.lemmas.List.{drop_all}
use Rattle.league_core.specs.declared.sheet.Fixture.{Fixture}
use Rattle.league_core.specs.declared.season.Score.{Score}
use Rattle.league_core.specs.game.Sums.{Worth, has_club, worth_among, if_played, sum_over}
use Rattle.league_core.specs.game.Sums.{sum_among}
use Rattle.league_core.specs.declared.sheet.Sheet.{Sheet}
use Rattle.league_core.specs.game.Sheets.{IsWithinLimits, is_fixture}
use Rattle.league_core.specs.game.Results.{Results}
use Rattle.league_core.specs.game.ClubSets.{clubs_below}
use Rattle.league_core.specs.inside.PairSums.{sum_against}
use Rattle.league_core.specs.search.PointRanges.{total_of}
use Rattle.league_core.proofs.ClubSetLemmas.{has_club-clubs_below}
use Rattle.league_core.proofs.PointRangeLemmas.{total_of-same, total_of-one}
use Rattle.league_core.proofs.SumLemmas.{sum_over-agree, total_of-sum_over}
use Rattle.league_core.proofs.FixtureLemmas.{clubs_apart}
use Rattle.league_core.proofs.PairLemmas.{match_of_pairs}
use Rattle.score_box.specs.declared.totals.Totals.{Totals}
use Rattle.score_box.specs.inside.Totals.{Column, points_column, difference_column, goals_column}
use Rattle.score_box.specs.inside.Totals.{away_goals_column, wins_column, away_wins_column}
use Rattle.score_box.specs.inside.Totals.{worth_in, total_in, AreTotals, AreTotalsNear, no_totals}
use Rattle.score_box.specs.inside.Totals.{AreTogether, AddsPairs, AreTables, totals_at, pair_place}
use Rattle.score_box.specs.inside.Totals.{TotalsGrowBy, worth_at_places, AddsScore}
use Rattle.league_core.proofs.plain.Numbers.{eqb-swap}

-- what holds of each column holds of all
pub each_column : (P : Column → Type 0) → P points_column → P difference_column → P goals_column
    → P away_goals_column → P wins_column → P away_wins_column → (column : Column) → P column
each_column P first second third fourth fifth sixth points_column = first
each_column P first second third fourth fifth sixth difference_column = second
each_column P first second third fourth fifth sixth goals_column = third
each_column P first second third fourth fifth sixth away_goals_column = fourth
each_column P first second third fourth fifth sixth wins_column = fifth
each_column P first second third fourth fifth sixth away_wins_column = sixth

-- goals away count if goals do, and so do wins
pub away_goals-is : (amount total : ℤ) (scored conceded : ℕ) (away : Bool) → amount ≡ pos scored
    → total ≡ cond away amount (pos 0) → total ≡ worth_in away_goals_column scored conceded away
away_goals-is amount total scored conceded away is total_is =
    total_is ∙ ap (λ n. cond away n (pos 0)) is

pub away_wins-is : (amount total : ℤ) (scored conceded : ℕ) (away : Bool)
    → amount ≡ cond (nat_lt conceded scored) (pos 1) (pos 0) → total ≡ cond away amount (pos 0)
    → total ≡ worth_in away_wins_column scored conceded away
away_wins-is amount total scored conceded away is total_is =
    total_is ∙ ap (λ n. cond away n (pos 0)) is ∙ both away (nat_lt conceded scored)
  where
    both : (away won : Bool) → cond away (cond won (pos 1) (pos 0)) (pos 0)
        ≡ cond (away && won) (pos 1) (pos 0)
    both true won = refl
    both false won = refl

-- what a match of less than 256 goals a side is worth
abbrev pub IsWorthNear : ℤ → Type 0
IsWorthNear worth = (neg_ℤ (pos 255) ≤ℤ worth) × (worth ≤ℤ pos 255)

near_cond : (b : Bool) (worth other : ℤ) → IsWorthNear worth → IsWorthNear other
    → IsWorthNear (cond b worth other)
near_cond true worth other near other_near = near
near_cond false worth other near other_near = other_near

near_number : (n : ℕ) → n ≤ 255 → IsWorthNear (pos n)
near_number n low = (omega (arith, ints), omega (arith, ints))

pub worth_near : (scored conceded : ℕ) (away : Bool) → scored < 256 → conceded < 256
    → (column : Column) → IsWorthNear (worth_in column scored conceded away)
worth_near scored conceded away scored_low conceded_low points_column =
    near_cond _ (pos 3) _ (near_number 3 (omega arith))
    (near_cond _ (pos 1) (pos 0) (near_number 1 (omega arith)) (near_number 0 (omega arith)))
worth_near scored conceded away scored_low conceded_low difference_column =
    (omega (arith, ints), omega (arith, ints))
worth_near scored conceded away scored_low conceded_low goals_column =
    near_number scored (omega arith)
worth_near scored conceded away scored_low conceded_low away_goals_column =
    near_cond away (pos scored) (pos 0) (near_number scored (omega arith))
    (near_number 0 (omega arith))
worth_near scored conceded away scored_low conceded_low wins_column =
    near_cond _ (pos 1) (pos 0) (near_number 1 (omega arith)) (near_number 0 (omega arith))
worth_near scored conceded away scored_low conceded_low away_wins_column =
    near_cond _ (pos 1) (pos 0) (near_number 1 (omega arith)) (near_number 0 (omega arith))

-- a row that grew in each column by so much
pub grown : (old new : Totals) (scored conceded : ℕ) (away : Bool) → scored < 256
    → conceded < 256 → ((column : Column) → total_in new column
    ≡ (total_in old column +ℤ worth_in column scored conceded away))
    → TotalsGrowBy (λ worth. worth scored conceded away) old new
grown old new scored conceded away scored_low conceded_low sums = record {
  sums = sums;
  near = λ bound near column.
      let here = near column in
      let sum = sums column in
      let worth = worth_near scored conceded away scored_low conceded_low column in (
        omega (arith, ints, here.0, sum, worth.0),
        omega (arith, ints, here.1, sum, worth.1),
      );
}

-- a match that is worth nothing leaves a row as it is
pub same_totals : (totals : Totals) → TotalsGrowBy (λ worth. pos 0) totals totals
same_totals totals = record {
  sums = λ column. omega (arith, ints);
  near = λ bound near column.
      let here = near column in (omega (arith, ints, here.0), omega (arith, ints, here.1));
}

grows_at : (value : Worth → ℤ) (old old' new new' : Totals) → old ≡ old' → new ≡ new'
    → TotalsGrowBy value old new → TotalsGrowBy value old' new'
grows_at value old old' new new' p q grows =
    let P : Totals → Type 0 = λ t. TotalsGrowBy value t new in
    let Q : Totals → Type 0 = λ t. TotalsGrowBy value old' t in
    subst Q q (subst P p grows)

-- two rows change, that of the home side and that of the away side
pub rows_grow : (table : List Totals) (home away : ℕ) (score : Score) (at_home on_tour : Totals)
    → home ≢ away → home < length table → away < length table
    → TotalsGrowBy (λ worth. worth score.home score.away false) (totals_at table home) at_home
    → TotalsGrowBy (λ worth. worth score.away score.home true) (totals_at table away) on_tour
    → AddsScore home away score table (set (set table home at_home) away on_tour)
rows_grow table home away score at_home on_tour differ home_in away_in home_grows away_grows place =
    by_home (cases_eq home place)
  where
    new : List Totals
    new = set (set table home at_home) away on_tour

    sides : Bool → Bool → Worth → ℤ
    sides is_home is_away worth = cond is_home (worth score.home score.away false)
        (cond is_away (worth score.away score.home true) (pos 0))

    long : away < length (set table home at_home)
    long = omega (arith, length-set table home at_home)

    by_away : (home ≢ place) → (away ≡ place) ⊎ (away ≢ place)
        → TotalsGrowBy (worth_at_places home away score place) (totals_at table place)
        (totals_at (set (set table home at_home) away on_tour) place)
    by_away not_home (inl same) =
        let written : on_tour ≡ totals_at (set (set table home at_home) away on_tour) place =
        sym (ap (λ (k : ℕ). get_or (set (set table home at_home) away on_tour) k no_totals)
        (sym same)
        ∙ get_or-set_same (set table home at_home) away on_tour no_totals long) in
        let P : Bool → Type 0 = λ b. TotalsGrowBy (sides b (eqb away place))
        (totals_at table place)
        (totals_at (set (set table home at_home) away on_tour) place) in
        let Q : Bool → Type 0 = λ b. TotalsGrowBy (sides false b) (totals_at table place)
        (totals_at (set (set table home at_home) away on_tour) place) in
        subst P (sym (ne_eqb home place not_home)) (subst Q (sym (eq-eqb away place same))
        (grows_at (λ worth. worth score.away score.home true) (totals_at table away)
        (totals_at table place) on_tour
        (totals_at (set (set table home at_home) away on_tour) place)
        (ap (totals_at table) same) written away_grows))
    by_away not_home (inr not_away) =
        let kept : totals_at table place ≡ totals_at (set (set table home at_home) away on_tour)
        place =
        sym (get_or-set_other (set table home at_home) away place on_tour no_totals
        (λ e. not_away (sym e))
        ∙ get_or-set_other table home place at_home no_totals (λ e. not_home (sym e))) in
        let P : Bool → Type 0 = λ b. TotalsGrowBy (sides b (eqb away place))
        (totals_at table place)
        (totals_at (set (set table home at_home) away on_tour) place) in
        let Q : Bool → Type 0 = λ b. TotalsGrowBy (sides false b) (totals_at table place)
        (totals_at (set (set table home at_home) away on_tour) place) in
        subst P (sym (ne_eqb home place not_home)) (subst Q (sym (ne_eqb away place not_away))
        (grows_at (λ worth. pos 0) (totals_at table place) (totals_at table place)
        (totals_at table place) (totals_at (set (set table home at_home) away on_tour) place) refl
        kept (same_totals (totals_at table place))))

    by_home : (home ≡ place) ⊎ (home ≢ place)
        → TotalsGrowBy (worth_at_places home away score place) (totals_at table place)
        (totals_at (set (set table home at_home) away on_tour) place)
    by_home (inl same) =
        let other : place ≢ away = λ e. differ (same ∙ e) in
        let written : at_home ≡ totals_at (set (set table home at_home) away on_tour) place =
        sym (get_or-set_other (set table home at_home) away place on_tour no_totals other
        ∙ ap (λ (k : ℕ). get_or (set table home at_home) k no_totals) (sym same)
        ∙ get_or-set_same table home at_home no_totals home_in) in
        let P : Bool → Type 0 = λ b. TotalsGrowBy (sides b (eqb away place))
        (totals_at table place)
        (totals_at (set (set table home at_home) away on_tour) place) in
        subst P (sym (eq-eqb home place same))
        (grows_at (λ worth. worth score.home score.away false) (totals_at table home)
        (totals_at table place) at_home
        (totals_at (set (set table home at_home) away on_tour) place)
        (ap (totals_at table) same) written home_grows)
    by_home (inr not_home) = by_away not_home (cases_eq away place)

-- in a table of pairs the two places of a match are those of its two clubs against each other
pair_worth : (match : Fixture) (score : Score) (club rival : ℕ) (worth : Worth) → match.home < 24
    → match.away < 24 → match.home ≢ match.away → club < 24 → rival < 24
    → worth_at_places (pair_place match.home match.away) (pair_place match.away match.home) score
    (pair_place club rival) worth
    ≡ worth_among (club ∷ rival ∷ []) worth club match score
pair_worth match score club rival worth home_low away_low apart club_low rival_low =
    at (cases_eq match.home club) (cases_eq match.away club) (cases_eq match.away rival)
    (cases_eq match.home rival)
  where
    h : ℕ
    h = match.home

    a : ℕ
    a = match.away

    Goal : Type 0
    Goal = worth_at_places (pair_place match.home match.away) (pair_place match.away match.home)
        score (pair_place club rival) worth
        ≡ worth_among (club ∷ rival ∷ []) worth club match score

    either : (b : Bool) (x : ℤ) → cond b x x ≡ x
    either true x = refl
    either false x = refl

    at : (match.home ≡ club) ⊎ (match.home ≢ club) → (match.away ≡ club) ⊎ (match.away ≢ club)
        → (match.away ≡ rival) ⊎ (match.away ≢ rival)
        → (match.home ≡ rival) ⊎ (match.home ≢ rival)
        → worth_at_places (pair_place match.home match.away) (pair_place match.away match.home)
        score (pair_place club rival) worth
        ≡ worth_among (club ∷ rival ∷ []) worth club match score
    at (inl home) (inl away) against at_rival = absurd (apart (home ∙ sym away))
    at (inl home) (inr away) (inl against) at_rival =
        rw (
          eq-eqb (24 * match.home + match.away) (24 * club + rival) (omega arith),
          eq-eqb club match.home (sym home),
          ne_eqb club match.away (λ e. away (sym e)),
          eq-eqb rival match.away (sym against),
          eq-eqb match.home club home,
        ) refl
    at (inl home) (inr away) (inr against) at_rival =
        rw (
          ne_eqb (24 * match.home + match.away) (24 * club + rival)
              (λ e. against (omega arith)),
          ne_eqb (24 * match.away + match.home) (24 * club + rival) (λ e. away (omega arith)),
          eq-eqb club match.home (sym home),
          ne_eqb club match.away (λ e. away (sym e)),
          ne_eqb rival match.away (λ e. against (sym e)),
        ) refl
    at (inr home) (inl away) against (inl at_rival) =
        rw (
          ne_eqb (24 * match.home + match.away) (24 * club + rival) (λ e. home (omega arith)),
          eq-eqb (24 * match.away + match.home) (24 * club + rival) (omega arith),
          ne_eqb club match.home (λ e. home (sym e)),
          eq-eqb rival match.home (sym at_rival),
          eq-eqb club match.away (sym away),
          ne_eqb match.home club home,
          eq-eqb match.away club away,
        ) refl
    at (inr home) (inl away) against (inr at_rival) =
        rw (
          ne_eqb (24 * match.home + match.away) (24 * club + rival) (λ e. home (omega arith)),
          ne_eqb (24 * match.away + match.home) (24 * club + rival)
              (λ e. at_rival (omega arith)),
          ne_eqb club match.home (λ e. home (sym e)),
          ne_eqb rival match.home (λ e. at_rival (sym e)),
        ) refl
    at (inr home) (inr away) against at_rival =
        rw (
          ne_eqb (24 * match.home + match.away) (24 * club + rival) (λ e. home (omega arith)),
          ne_eqb (24 * match.away + match.home) (24 * club + rival) (λ e. away (omega arith)),
          ne_eqb match.home club home,
          ne_eqb match.away club away,
        ) (sym (either (has_club (club ∷ rival ∷ []) match.home
        && has_club (club ∷ rival ∷ []) match.away) (pos 0)))

-- so a row of a pair grows by what the match is worth within the pair
pub pair_grows : (match : Fixture) (score : Score) (club rival : ℕ) (old new : Totals)
    → match.home < 24 → match.away < 24 → match.home ≢ match.away → club < 24 → rival < 24
    → TotalsGrowBy (worth_at_places (pair_place match.home match.away)
    (pair_place match.away match.home) score (pair_place club rival)) old new
    → TotalsGrowBy (λ worth. worth_among (club ∷ rival ∷ []) worth club match score) old new
pair_grows match score club rival old new home away apart club_low rival_low grows =
    let Of : (Worth → ℤ) → Type 0 = λ value. TotalsGrowBy value old new in
    subst Of (λ i worth. pair_worth match score club rival worth home away apart club_low rival_low
    i) grows

-- the row so far: with what is left of the matches it is the whole row
pub record AreTotalsSoFar (value : Worth → Fixture → Score → ℤ) (matches : List Fixture)
    (scores : List (Option Score)) (i : ℕ) (totals : Totals) : Type 0 where
  pub sums : (column : Column) → (total_in totals column
      +ℤ sum_over (value (worth_in column)) (drop i matches) (drop i scores))
      ≡ sum_over (value (worth_in column)) matches scores
  pub near : AreTotalsNear (255 * i) totals

-- before the first match there is none
pub so_far_none : (value : Worth → Fixture → Score → ℤ) (matches : List Fixture)
    (scores : List (Option Score)) (totals : Totals) → totals ≡ no_totals
    → AreTotalsSoFar value matches scores 0 totals
so_far_none value matches scores totals none =
    let So : Totals → Type 0 = λ t. AreTotalsSoFar value matches scores 0 t in
    subst So (sym none) (record {
      sums = each_column _ (omega (arith, ints)) (omega (arith, ints)) (omega (arith, ints))
          (omega (arith, ints)) (omega (arith, ints)) (omega (arith, ints));
      near = each_column _ (omega (arith, ints), omega (arith, ints))
          (omega (arith, ints), omega (arith, ints)) (omega (arith, ints), omega (arith, ints))
          (omega (arith, ints), omega (arith, ints)) (omega (arith, ints), omega (arith, ints))
          (omega (arith, ints), omega (arith, ints));
    })

-- a match more is added to what there is
pub so_far_more : (value : Worth → Fixture → Score → ℤ) (matches : List Fixture)
    (scores : List (Option Score)) (i : ℕ) (match : Fixture) (score : Option Score)
    (old new : Totals)
    → i < length matches → i < length scores → AreTotalsSoFar value matches scores i old
    → TotalsGrowBy (λ worth. if_played (value worth) (get_or matches i match)
    (get_or scores i score)) old new → AreTotalsSoFar value matches scores (i + 1) new
so_far_more value matches scores i match score old new in_matches in_scores so_far grows = record {
  sums = λ column.
      let from_match = drop_more matches i match in_matches in
      let from_score = drop_more scores i score in_scores in
      let next : sum_over (value (worth_in column)) (drop i matches) (drop i scores)
      ≡ (if_played (value (worth_in column)) (get_or matches i match) (get_or scores i score)
      +ℤ sum_over (value (worth_in column)) (drop (i + 1) matches) (drop (i + 1) scores)) =
      λ j. sum_over (value (worth_in column)) (from_match j) (from_score j) in
      omega (arith, ints, next, so_far.sums column, grows.sums column);
  near =
      let bound : 255 * i + 255 ≡ 255 * (i + 1) = omega arith in
      subst (λ (n : ℕ). AreTotalsNear n new) bound (grows.near (255 * i) so_far.near);
}

-- after the last match it is the whole row
pub so_far_all : (value : Worth → Fixture → Score → ℤ) (matches : List Fixture)
    (scores : List (Option Score)) (i : ℕ) (totals : Totals) → length matches ≤ i
    → AreTotalsSoFar value matches scores i totals
    → AreTotals (λ worth. sum_over (value worth) matches scores) totals
so_far_all value matches scores i totals past so_far column =
    let none : sum_over (value (worth_in column)) (drop i matches) (drop i scores) ≡ pos 0 =
    ap (λ ms. sum_over (value (worth_in column)) ms (drop i scores)) (drop_all i matches past) in
    omega (arith, ints, none, so_far.sums column)

-- what is near is nearer than a greater bound
pub near_wider : (bound more : ℕ) (totals : Totals) → bound ≤ more → AreTotalsNear bound totals
    → AreTotalsNear more totals
near_wider bound more totals fewer near column =
    let here = near column in (omega (arith, ints, here.0), omega (arith, ints, here.1))

-- ---- a group, from its pairs

-- what one club of a set is worth
one_in_set : (bits x : ℕ) (number : ℤ)
    → total_of (λ club. cond (club == x) number (pos 0)) (clubs_below 32 bits)
    ≡ cond (has_club (clubs_below 32 bits) x) number (pos 0)
one_in_set bits x number =
    total_of-same _ _ (clubs_below 32 bits)
    (λ club. ap (λ b. cond b number (pos 0)) (eqb-swap club x))
    ∙ total_of-one x number 32 bits
    ∙ ap (λ b. cond b number (pos 0)) (sym (has_club-clubs_below 32 bits x))

-- so a club's sum in a group is that of its pairs with the clubs of the group
pub sum_among-set : (worth : Worth) (sheet : Sheet) (season : Results) (bits club : ℕ)
    → IsWithinLimits sheet → has_club (clubs_below 32 bits) club ≡ true
    → sum_among (clubs_below 32 bits) worth sheet season club
    ≡ total_of (sum_against worth sheet season club) (clubs_below 32 bits)
sum_among-set worth sheet season bits club limits member =
    let group = clubs_below 32 bits in
    let pair = λ (rival : ℕ). worth_among (club ∷ rival ∷ []) worth club in
    sum_over-agree (is_fixture (length sheet.clubs)) (worth_among group worth club)
    (λ match score. total_of (λ rival. pair rival match score) group)
    (λ match score is. match_of_pairs group worth club match score (one_in_set bits) member
    (clubs_apart (length sheet.clubs) match is)) sheet.fixtures season.scores limits.fixtures
    ∙ sym (total_of-sum_over pair group sheet.fixtures season.scores)

-- of no club there is none
pub zero_in : (column : Column) → total_in no_totals column ≡ pos 0
zero_in = each_column _ refl refl refl refl refl refl

pub near_none : AreTotalsNear 0 no_totals
near_none = each_column _ (omega (arith, ints), omega (arith, ints))
    (omega (arith, ints), omega (arith, ints)) (omega (arith, ints), omega (arith, ints))
    (omega (arith, ints), omega (arith, ints)) (omega (arith, ints), omega (arith, ints))
    (omega (arith, ints), omega (arith, ints))

-- two rows together are as near as both
pub near_together : (totals other result : Totals) (bound more : ℕ)
    → AreTogether totals other result → AreTotalsNear bound totals → AreTotalsNear more other
    → AreTotalsNear (bound + more) result
near_together totals other result bound more sums near other_near column =
    let sum = sums column in
    let first = near column in
    let second = other_near column in (
      omega (arith, ints, sum, first.0, second.0),
      omega (arith, ints, sum, first.1, second.1),
    )

-- a row grows by a match when the row of that match alone is added
pub grown_by : (value : Worth → ℤ) (old more new : Totals) → TotalsGrowBy value no_totals more
    → AreTogether old more new → TotalsGrowBy value old new
grown_by value old more new worth sums = record {
  sums = λ column.
      let none = zero_in column in
      let here = worth.sums column in
      let sum = sums column in
      omega (arith, ints, none, here, sum);
  near = λ bound near.
      near_together old more new bound 255 sums near (worth.near 0 near_none);
}

-- the rows that are added against the clubs of a set are the club's row in it
pub among-is : (sheet : Sheet) (season : Results) (clubs pairs : List Totals) (bits club : ℕ)
    (totals : Totals) → IsWithinLimits sheet → AreTables sheet.fixtures season.scores clubs pairs
    → has_club (clubs_below 32 bits) club ≡ true
    → ((member : ℕ) → has_club (clubs_below 32 bits) member ≡ true → member < 24)
    → AddsPairs pairs club (clubs_below 32 bits) totals
    → AreTotals (λ worth. sum_among (clubs_below 32 bits) worth sheet season club) totals
among-is sheet season clubs pairs bits club totals limits tables member small adds column =
    let own : ℕ → ℤ = λ rival. total_in (totals_at pairs (pair_place club rival)) column in
    let against : ℕ → ℤ = sum_against (worth_in column) sheet season club in
    adds column
    ∙ total_of-members own against (clubs_below 32 bits)
    (λ rival is. tables.each_pair club rival (small club member) (small rival is) column)
    ∙ sym (sum_among-set (worth_in column) sheet season bits club limits member)
  where
    later : (first : ℕ) (rest : List ℕ) (member : ℕ) → has_club rest member ≡ true
        → has_club (first ∷ rest) member ≡ true
    later first rest member is = at (first == member)
      where
        at : (b : Bool) → (b || has_club rest member) ≡ true
        at true = refl
        at false = is

    here : (first : ℕ) (rest : List ℕ) → has_club (first ∷ rest) first ≡ true
    here first rest = ap (λ b. b || has_club rest first) (eq-eqb first first refl)

    total_of-members : (value other : ℕ → ℤ) (members : List ℕ)
        → ((member : ℕ) → has_club members member ≡ true → value member ≡ other member)
        → total_of value members ≡ total_of other members
    total_of-members value other [] same = refl
    total_of-members value other (first ∷ rest) same =
        ap (λ n. n +ℤ total_of value rest) (same first (here first rest))
        ∙ ap (λ n. other first +ℤ n) (total_of-members value other rest
        (λ member is. same member (later first rest member is)))
