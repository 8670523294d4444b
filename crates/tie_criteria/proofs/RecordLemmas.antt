-- The records of all clubs in a group: what a match adds to them, and what they are in the end.
use Rattle.std.proofs.Common.{◌≡◌, ◌≢◌, ◌⊎◌, inl, inr, ℕ, ◌+◌, ◌*◌, ◌<◌, ◌≤◌, ℤ, pos, ◌+ℤ◌, Bool}
use Rattle.std.proofs.Common.{true, false, eqb, cond, List, [], ◌∷◌, Option, None, length}
use Rattle.std.proofs.Common.{get_or, set, drop, sym, ap, refl, ◌∙◌, subst, arith}
use Rattle.std.proofs.lemmas.Bool.{cases_eq, eq-eqb, ne_eqb}
use Rattle.std.proofs.lemmas.Int.{ints}
use Rattle.std.proofs.lemmas.List.{get_or-set_same, get_or-set_other, length-set}
use Rattle.league_core.specs.declared.sheet.Sheet.{Sheet}
use Rattle.league_core.specs.declared.sheet.Fixture.{Fixture}
use Rattle.league_core.specs.declared.season.Score.{Score}
use Rattle.league_core.specs.game.Results.{Results}
use Rattle.league_core.specs.game.Sums.{Worth, worth_to, worth_among, match_points, goal_difference}
use Rattle.league_core.specs.game.Sums.{goals, if_played, sum_over}
use Rattle.league_core.specs.game.HeadToHead.{head_to_head_of}
use Rattle.tie_criteria.specs.declared.triple.Triple.{Triple}
use Rattle.tie_criteria.specs.inside.Parts.{triple_parts}
use Rattle.tie_criteria.specs.inside.Records.{no_record, record_at, IsBounded, GrowsBy, AddsMatch}
use Rattle.tie_criteria.proofs.SumLemmas.{sum_over-drop, sum_over-drop_all}

wider : (bound : ℕ) (triple : Triple) → IsBounded bound triple → IsBounded (bound + 255) triple
wider bound triple within = record {
  least_points = omega (arith, ints);
  most_points = omega (arith, ints);
  least_difference = omega (arith, ints);
  most_difference = omega (arith, ints);
  least_scored = omega (arith, ints);
  most_scored = omega (arith, ints);
}

same_record : (triple : Triple) → GrowsBy (λ worth. pos 0) triple triple
same_record triple = record {
  points = omega (arith, ints);
  difference = omega (arith, ints);
  scored = omega (arith, ints);
  bounded = λ bound within. wider bound triple within;
}

grows_at : (value : Worth → ℤ) (old old' new new' : Triple) → old ≡ old' → new ≡ new'
    → GrowsBy value old new → GrowsBy value old' new'
grows_at value old old' new new' p q grows =
    let P : Triple → Type 0 = λ t. GrowsBy value t new in
    let Q : Triple → Type 0 = λ t. GrowsBy value old' t in
    subst Q q (subst P p grows)

-- two records change, that of the home side and that of the away side
pub added : (records : List Triple) (match : Fixture) (score : Score) (home away : Triple)
    → match.home ≢ match.away → match.home < length records → match.away < length records
    → GrowsBy (λ worth. worth score.home score.away false) (record_at records match.home) home
    → GrowsBy (λ worth. worth score.away score.home true) (record_at records match.away) away
    → AddsMatch match score records (set (set records match.home home) match.away away)
added records match score home away differ home_in away_in home_grows away_grows club within =
    by_home (cases_eq match.home club)
  where
    sides : Bool → Bool → Worth → ℤ
    sides at_home at_away worth = cond at_home (worth score.home score.away false)
        (cond at_away (worth score.away score.home true) (pos 0))

    long : match.away < length (set records match.home home)
    long = omega (arith, length-set records match.home home)

    by_away : (match.home ≢ club) → (match.away ≡ club) ⊎ (match.away ≢ club)
        → GrowsBy (λ worth. worth_to worth club match score) (record_at records club)
        (record_at (set (set records match.home home) match.away away) club)
    by_away not_home (inl same) =
        let is_home : eqb match.home club ≡ false = ne_eqb match.home club not_home in
        let is_away : eqb match.away club ≡ true = eq-eqb match.away club same in
        let new : away ≡ record_at (set (set records match.home home) match.away away) club =
        sym (ap (λ (k : ℕ). get_or (set (set records match.home home) match.away away) k no_record)
        (sym same)
        ∙ get_or-set_same (set records match.home home) match.away away no_record long) in
        let P : Bool → Type 0 = λ b. GrowsBy (sides b (eqb match.away club))
        (record_at records club)
        (record_at (set (set records match.home home) match.away away) club) in
        let Q : Bool → Type 0 = λ b. GrowsBy (sides false b) (record_at records club)
        (record_at (set (set records match.home home) match.away away) club) in
        subst P (sym is_home)
        (subst Q (sym is_away)
        (grows_at (λ worth. worth score.away score.home true) (record_at records match.away)
        (record_at records club) away
        (record_at (set (set records match.home home) match.away away) club)
        (ap (record_at records) same) new away_grows))
    by_away not_home (inr not_away) =
        let is_home : eqb match.home club ≡ false = ne_eqb match.home club not_home in
        let is_away : eqb match.away club ≡ false = ne_eqb match.away club not_away in
        let new : record_at records club ≡ record_at (set
        (set records match.home home) match.away away) club =
        sym (get_or-set_other (set records match.home home) match.away club away no_record
        (λ e. not_away (sym e))
        ∙ get_or-set_other records match.home club home no_record (λ e. not_home (sym e))) in
        let P : Bool → Type 0 = λ b. GrowsBy (sides b (eqb match.away club))
        (record_at records club)
        (record_at (set (set records match.home home) match.away away) club) in
        let Q : Bool → Type 0 = λ b. GrowsBy (sides false b) (record_at records club)
        (record_at (set (set records match.home home) match.away away) club) in
        subst P (sym is_home)
        (subst Q (sym is_away)
        (grows_at (λ worth. pos 0) (record_at records club) (record_at records club)
        (record_at records club)
        (record_at (set (set records match.home home) match.away away) club) refl new
        (same_record (record_at records club))))

    by_home : (match.home ≡ club) ⊎ (match.home ≢ club)
        → GrowsBy (λ worth. worth_to worth club match score) (record_at records club)
        (record_at (set (set records match.home home) match.away away) club)
    by_home (inl same) =
        let is_home : eqb match.home club ≡ true = eq-eqb match.home club same in
        let other : club ≢ match.away = λ e. differ (same ∙ e) in
        let new : home ≡ record_at (set (set records match.home home) match.away away) club =
        sym (get_or-set_other (set records match.home home) match.away club away no_record other
        ∙ ap (λ (k : ℕ). get_or (set records match.home home) k no_record) (sym same)
        ∙ get_or-set_same records match.home home no_record home_in) in
        let P : Bool → Type 0 = λ b. GrowsBy (sides b (eqb match.away club))
        (record_at records club)
        (record_at (set (set records match.home home) match.away away) club) in
        subst P (sym is_home)
        (grows_at (λ worth. worth score.home score.away false) (record_at records match.home)
        (record_at records club) home
        (record_at (set (set records match.home home) match.away away) club)
        (ap (record_at records) same) new home_grows)
    by_home (inr not_home) = by_away not_home (cases_eq match.away club)

-- the record so far: with what is left of the matches it is the whole record
pub record IsSoFar (matches : List Fixture) (scores : List (Option Score)) (group : List ℕ)
    (i club : ℕ) (triple : Triple) : Type 0 where
  pub points :
      (triple.points +ℤ sum_over (worth_among group match_points club) (drop i matches)
      (drop i scores)) ≡ sum_over (worth_among group match_points club) matches scores
  pub difference :
      (triple.difference +ℤ sum_over (worth_among group goal_difference club) (drop i matches)
      (drop i scores)) ≡ sum_over (worth_among group goal_difference club) matches scores
  pub scored :
      (triple.scored +ℤ sum_over (worth_among group goals club) (drop i matches) (drop i scores))
      ≡ sum_over (worth_among group goals club) matches scores
  pub bounded : IsBounded (255 * i) triple

-- before the first match there is none
pub so_far_none : (matches : List Fixture) (scores : List (Option Score)) (group : List ℕ)
    (club : ℕ) → IsSoFar matches scores group 0 club no_record
so_far_none matches scores group club = record {
  points = omega (arith, ints);
  difference = omega (arith, ints);
  scored = omega (arith, ints);
  bounded = record {
    least_points = omega (arith, ints);
    most_points = omega (arith, ints);
    least_difference = omega (arith, ints);
    most_difference = omega (arith, ints);
    least_scored = omega (arith, ints);
    most_scored = omega (arith, ints);
  };
}

-- a match more is added to what there is
pub so_far_more : (matches : List Fixture) (scores : List (Option Score)) (group : List ℕ)
    (i club : ℕ) (match : Fixture) (old new : Triple) → i < length matches → i < length scores
    → IsSoFar matches scores group i club old
    → GrowsBy (λ worth. if_played (worth_among group worth club) (get_or matches i match)
    (get_or scores i None)) old new → IsSoFar matches scores group (i + 1) club new
so_far_more matches scores group i club match old new in_matches in_scores so_far grows =
    let points = sum_over-drop (worth_among group match_points
    club) matches scores i match None in_matches in_scores in
    let difference = sum_over-drop (worth_among group goal_difference
    club) matches scores i match None in_matches in_scores in
    let scored = sum_over-drop (worth_among group goals
    club) matches scores i match None in_matches in_scores in
    let bound : 255 * i + 255 ≡ 255 * (i + 1) = omega arith in
    record {
      points = omega (arith, ints, points, so_far.points, grows.points);
      difference = omega (arith, ints, difference, so_far.difference, grows.difference);
      scored = omega (arith, ints, scored, so_far.scored, grows.scored);
      bounded = subst (λ (n : ℕ). IsBounded n new) bound (grows.bounded (255 * i) so_far.bounded);
    }

-- after the last match it is the whole record
pub so_far_all : (sheet : Sheet) (season : Results) (group : List ℕ) (i club : ℕ) (triple : Triple)
    → length sheet.fixtures ≤ i → IsSoFar sheet.fixtures season.scores group i club triple
    → triple_parts triple ≡ head_to_head_of sheet season group club
so_far_all sheet season group i club triple past so_far =
    let no_points = sum_over-drop_all (worth_among group match_points club) sheet.fixtures
    season.scores i past in
    let no_difference = sum_over-drop_all (worth_among group goal_difference club) sheet.fixtures
    season.scores i past in
    let no_scored = sum_over-drop_all (worth_among group goals club) sheet.fixtures season.scores i
    past in
    let points : triple.points ≡ sum_over
    (worth_among group match_points club) sheet.fixtures season.scores = omega
    (arith, ints, no_points, so_far.points) in
    let difference : triple.difference ≡ sum_over
    (worth_among group goal_difference club) sheet.fixtures season.scores = omega
    (arith, ints, no_difference, so_far.difference) in
    let scored : triple.scored ≡ sum_over
    (worth_among group goals club) sheet.fixtures season.scores = omega
    (arith, ints, no_scored, so_far.scored) in
    (λ j. points j ∷ difference j ∷ scored j ∷ [])

-- so many matches leave room for one more
pub room_for_more : (i : ℕ) (triple : Triple) → i < 600 → IsBounded (255 * i) triple
    → IsBounded 1000000 triple
room_for_more i triple few within = record {
  least_points = omega (arith, ints);
  most_points = omega (arith, ints);
  least_difference = omega (arith, ints);
  most_difference = omega (arith, ints);
  least_scored = omega (arith, ints);
  most_scored = omega (arith, ints);
}

-- the same of the lists that were read
pub so_far_read : (sheet : Sheet) (season : Results) (matches : List Fixture)
    (scores : List (Option Score)) (group : List ℕ) (i club : ℕ) (triple : Triple)
    → matches ≡ sheet.fixtures → scores ≡ season.scores → length matches ≤ i
    → IsSoFar matches scores group i club triple
    → triple_parts triple ≡ head_to_head_of sheet season group club
so_far_read sheet season matches scores group i club triple matches_are scores_are past so_far =
    let P : List Fixture → Type 0 = λ ms. IsSoFar ms scores group i club triple in
    let Q : List (Option Score) → Type 0 = λ ss. IsSoFar sheet.fixtures ss group i club triple in
    let past' : length sheet.fixtures ≤ i = omega (arith, ap length matches_are) in
    so_far_all sheet season group i club triple past'
    (subst Q scores_are (subst P matches_are so_far))
