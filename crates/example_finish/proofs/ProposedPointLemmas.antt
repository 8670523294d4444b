-- The points of clubs in the proposed finish: those from what was played, and what the matches that
-- are not played add.
use Rattle.std.proofs.Common.{◌≡◌, ◌≢◌, ◌⊎◌, inl, inr, ℕ, zero, suc, ◌+◌, ◌*◌, ◌<◌, ◌≤◌, ℤ}
use Rattle.std.proofs.Common.{pos, ◌+ℤ◌, ◌≤ℤ◌, neg_ℤ, cond, eqb, List, [], ◌∷◌, length, get_or}
use Rattle.std.proofs.Common.{set, take, Option, Some, None, slice_index, refl, sym, ap, ◌∙◌}
use Rattle.std.proofs.Common.{true, false, subst, arith}
use Rattle.std.proofs.lemmas.Bool.{cases_eq, eq-eqb, ne_eqb}
use Rattle.std.proofs.lemmas.Int.{ints}
use Rattle.std.proofs.lemmas.List.{take_more, take_all, get_or-set_same, get_or-set_other}
use Rattle.std.proofs.Math.Nat.{eq-or-lt_of_le}
use Rattle.league_core.specs.declared.sheet.Sheet.{Sheet}
use Rattle.league_core.specs.game.Results.{Results}
use Rattle.league_core.specs.declared.sheet.Fixture.{Fixture}
use Rattle.league_core.specs.declared.season.Score.{Score}
use Rattle.league_core.specs.game.Seasons.{IsSeasonOf}
use Rattle.league_core.specs.game.Sums.{match_points, worth_to, if_played, points_of}
use Rattle.league_core.specs.search.PointRanges.{total_of}
use Rattle.league_core.specs.search.Options.{has_finish}
use Rattle.league_core.proofs.PointsLemmas.{IsWorth, match_worth}
use Rattle.league_core.proofs.PointRangeLemmas.{total_of-append}
use Rattle.score_box.specs.inside.Ends.{end_at}
use Rattle.score_box.specs.inside.Unplayed.{unplayed_in}
use Rattle.example_finish.specs.declared.outcome.Outcome.{Outcome}
use Rattle.example_finish.specs.inside.FirstOutcomes.{IsOutcomeOf, HasOutcome}
use Rattle.example_finish.specs.inside.ProposalViews.{ProposedView, sheet_asked, season_asked}
use Rattle.example_finish.specs.inside.ProposalViews.{finish_asked}
use Rattle.example_finish.specs.inside.ProposedPoints.{ArePointsOver, ArePointsNear}
use Rattle.example_finish.specs.inside.ProposedPoints.{points_proposed}
use Rattle.example_finish.proofs.CriterionLemmas.{deductions_stay}
use Rattle.example_finish.proofs.ProposedTotalLemmas.{sum_proposed}

-- a match is worth to a club what it is worth to its side
pub two_sides : (match : Fixture) (score : Score) (club : ℕ) → match.home ≢ match.away
    → (old middle new home away : ℤ) → home ≡ match_points score.home score.away false
    → away ≡ match_points score.away score.home false
    → middle ≡ old +ℤ cond (eqb match.home club) home (pos 0)
    → new ≡ middle +ℤ cond (eqb match.away club) away (pos 0)
    → new ≡ old +ℤ worth_to match_points club match score
two_sides match score club apart old middle new home away home_is away_is first second =
    by_side (cases_eq match.home club)
  where
    by_side : (match.home ≡ club) ⊎ (match.home ≢ club)
        → new ≡ old +ℤ worth_to match_points club match score
    by_side (inl same) =
        let not_away : match.away ≢ club = λ e. apart (same ∙ sym e) in
        let one : middle ≡ old +ℤ home =
        first ∙ ap (λ b. old +ℤ cond b home (pos 0)) (eq-eqb match.home club same) in
        let two : new ≡ middle +ℤ pos 0 =
        second ∙ ap (λ b. middle +ℤ cond b away (pos 0)) (ne_eqb match.away club not_away) in
        rw (eq-eqb match.home club same) (omega (arith, ints, one, two, home_is))
    by_side (inr other) =
        let one : middle ≡ old +ℤ pos 0 =
        first ∙ ap (λ b. old +ℤ cond b home (pos 0)) (ne_eqb match.home club other) in
        let two : new ≡ middle +ℤ cond (eqb match.away club)
        (match_points score.away score.home false) (pos 0) =
        second ∙ ap (λ p. middle +ℤ cond (eqb match.away club) p (pos 0)) away_is in
        rw (ne_eqb match.home club other) (omega (arith, ints, one, two))

-- what a match that is taken is worth
pub taken_worth : (asked : ProposedView) (club k : ℕ) (sides : Fixture) (score : Score)
    → sides ≡ get_or (sheet_asked asked).fixtures k (record { home = 0; away = 0 })
    → get_or (finish_asked asked).scores k None ≡ Some score
    → worth_to match_points club sides score ≡ points_proposed asked club k
taken_worth asked club k sides score is taken i =
    if_played (worth_to match_points club) (is i) (sym taken i)

-- what it is worth by its outcome
pub worth_by_outcome : (asked : ProposedView) (club k : ℕ) (sides : Fixture) (outcome : Outcome)
    (old middle new home away : ℤ)
    → sides ≡ get_or (sheet_asked asked).fixtures k (record { home = 0; away = 0 })
    → sides.home ≢ sides.away
    → HasOutcome (get_or (finish_asked asked).scores k None) outcome
    → ((score : Score) → IsOutcomeOf outcome score
    → home ≡ match_points score.home score.away false)
    → ((score : Score) → IsOutcomeOf outcome score
    → away ≡ match_points score.away score.home false)
    → middle ≡ old +ℤ cond (eqb sides.home club) home (pos 0)
    → new ≡ middle +ℤ cond (eqb sides.away club) away (pos 0)
    → new ≡ old +ℤ points_proposed asked club k
worth_by_outcome asked club k sides outcome old middle new home away is apart has home_is away_is
    first second = by (get_or (finish_asked asked).scores k None) refl has
  where
    by : (found : Option Score) → get_or (finish_asked asked).scores k None ≡ found
        → HasOutcome found outcome → new ≡ old +ℤ points_proposed asked club k
    by None taken none = absurd none
    by (Some score) taken outcome_is =
        two_sides sides score club apart old middle new home away (home_is score outcome_is)
        (away_is score outcome_is) first second
        ∙ ap (λ n. old +ℤ n) (taken_worth asked club k sides score is taken)

-- it is none to three points
proposed_worth : (asked : ProposedView) (club k : ℕ) → IsWorth (points_proposed asked club k)
proposed_worth asked club k =
    of_score (get_or (sheet_asked asked).fixtures k (record { home = 0; away = 0 }))
    (get_or (finish_asked asked).scores k None)
  where
    of_score : (match : Fixture) (score : Option Score)
        → IsWorth (if_played (worth_to match_points club) match score)
    of_score match None = record { least = omega (arith, ints); most = omega (arith, ints) }
    of_score match (Some score) = match_worth club match score

-- the points with so many of the matches that are not played
pub record ArePointsWith (asked : ProposedView) (matches : List ℕ) (i : ℕ) (points : List ℤ) : Type
    0
  where
    pub sums : (club : ℕ) → club < length (sheet_asked asked).clubs → end_at points club
        ≡ (points_of (sheet_asked asked) (season_asked asked) club
        +ℤ total_of (points_proposed asked club) (take i matches))
    pub near : ArePointsNear (200000 + 3 * i) points

-- with one match more
pub with_one_match : (asked : ProposedView) (matches : List ℕ) (i k : ℕ) (old new : List ℤ)
    → i < length matches → k ≡ get_or matches i 0 → ArePointsWith asked matches i old
    → ((club : ℕ) → end_at new club ≡ (end_at old club +ℤ points_proposed asked club k))
    → ArePointsWith asked matches (i + 1) new
with_one_match asked matches i k old new within is so_far grows = record {
  sums = λ club below.
      let value : ℕ → ℤ = points_proposed asked club in
      let before = so_far.sums club below in
      let here = grows club in
      let more : total_of value (take (i + 1) matches)
      ≡ total_of value (take i matches) +ℤ (value k +ℤ pos 0) =
      ap (total_of value) (take_more matches i 0 within)
      ∙ total_of-append value (take i matches) (get_or matches i 0 ∷ [])
      ∙ ap (λ (j : ℕ). total_of value (take i matches) +ℤ (value j +ℤ pos 0)) (sym is) in
      omega (arith, ints, before, here, more);
  near = λ club.
      let worth = proposed_worth asked club k in
      let before = so_far.near club in
      let here = grows club in (
        omega (arith, ints, here, before.0, worth.least),
        omega (arith, ints, here, before.1, worth.most),
      );
}

-- with all of them they are the points of the proposed finish
pub with_all_matches : (asked : ProposedView) (i : ℕ) (points : List ℤ)
    → IsSeasonOf (sheet_asked asked) (season_asked asked)
    → has_finish asked.setting.sheet asked.setting.season asked.setting.zone ≡ true
    → length (unplayed_in (season_asked asked).scores) ≤ i
    → ArePointsWith asked (unplayed_in (season_asked asked).scores) i points
    → ArePointsOver (sheet_asked asked) (finish_asked asked) points
with_all_matches asked i points of_sheet some past all club below =
    let season = season_asked asked in
    let sums = all.sums club below in
    let whole = ap (total_of (points_proposed asked club))
    (take_all i (unplayed_in season.scores) past) in
    let split = sum_proposed asked of_sheet some (worth_to match_points club) in
    let off = ap (λ (deductions : List ℕ). pos (slice_index deductions club))
    (deductions_stay asked.setting.sheet season asked.question asked.setting.zone) in
    omega (arith, ints, sums, whole, split, off)

-- points are no farther from zero than a wider bound
pub points_wider : (bound more : ℕ) (points : List ℤ) → bound ≤ more → ArePointsNear bound points
    → ArePointsNear more points
points_wider bound more points fewer near club =
    let here = near club in (omega (arith, ints, here.0), omega (arith, ints, here.1))

-- no points are near zero
pub no_points_near : (bound : ℕ) (points : List ℤ) → ((club : ℕ) → end_at points club ≡ pos 0)
    → ArePointsNear bound points
no_points_near bound points none club =
    let here = none club in (omega (arith, ints, here), omega (arith, ints, here))

-- points that are put at a club's place, if the clubs before it have theirs
pub put_points : (sheet : Sheet) (season : Results) (points : List ℤ) (club : ℕ) (value : ℤ)
    → club < length points → value ≡ points_of sheet season club
    → ((x : ℕ) → x < club → end_at points x ≡ points_of sheet season x)
    → (x : ℕ) → x < club + 1 → end_at (set points club value) x ≡ points_of sheet season x
put_points sheet season points club value within is before x below =
    elim (eq-or-lt_of_le {n = x} {m = club} (omega arith)) as
    (λ _. end_at (set points club value) x ≡ points_of sheet season x) [
      | inl same ↦
          subst (λ (k : ℕ). end_at (set points club value) k ≡ points_of sheet season k) (sym same)
          (get_or-set_same points club value (pos 0) within ∙ is)
      | inr earlier ↦
          get_or-set_other points club x value (pos 0) (λ e. absurd (omega arith))
          ∙ before x earlier
    ]

-- if all others are near zero, and these too
pub put_near : (bound : ℕ) (points : List ℤ) (club : ℕ) (value : ℤ) → club < length points
    → ArePointsNear bound points → (neg_ℤ (pos bound) ≤ℤ value) × (value ≤ℤ pos bound)
    → ArePointsNear bound (set points club value)
put_near bound points club value within near here x =
    elim (cases_eq x club) as (λ _. (neg_ℤ (pos bound) ≤ℤ end_at (set points club value) x)
    × (end_at (set points club value) x ≤ℤ pos bound)) [
      | inl same ↦
          subst (λ (k : ℕ). (neg_ℤ (pos bound) ≤ℤ end_at (set points club value) k)
          × (end_at (set points club value) k ≤ℤ pos bound)) (sym same)
          (subst (λ (n : ℤ). (neg_ℤ (pos bound) ≤ℤ n) × (n ≤ℤ pos bound))
          (sym (get_or-set_same points club value (pos 0) within)) here)
      | inr other ↦
          subst (λ (n : ℤ). (neg_ℤ (pos bound) ≤ℤ n) × (n ≤ℤ pos bound))
          (sym (get_or-set_other points club x value (pos 0) other)) (near x)
    ]

-- so many zeros have no points at any place
abbrev pub zeros_of : ℕ → List ℤ
zeros_of zero = []
zeros_of (suc n) = pos 0 ∷ zeros_of n

pub at_zeros : (n club : ℕ) → end_at (zeros_of n) club ≡ pos 0
at_zeros zero club = refl
at_zeros (suc n) zero = refl
at_zeros (suc n) (suc club) = at_zeros n club
