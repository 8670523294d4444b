-- What fixtures come to for a club alone: by its sides, within bounds, and when the options of one
-- fixture change.
use Rattle.std.proofs.Common.{◌≡◌, ◌≢◌, ◌⊎◌, ℕ, zero, suc, ◌+◌, ◌*◌, ◌<◌, ◌≤◌, ℤ, pos, ◌+ℤ◌, ◌-ℤ◌}
use Rattle.std.proofs.Common.{◌≤ℤ◌, Bool, true, false, not, eqb, cond, List, [], ◌∷◌, length}
use Rattle.std.proofs.Common.{get_or, set, take, count_by, refl, sym, ap, ◌∙◌, inl, inr, arith}
use Rattle.std.specs.List.{All}
use Rattle.std.proofs.lemmas.Bool.{eq-eqb, ne_eqb, false≢true, cases_lt, cases_eq, eqb-true}
use Rattle.std.proofs.lemmas.Bool.{false_from_ne_true}
use Rattle.league_core.specs.declared.sheet.Sheet.{Sheet}
use Rattle.league_core.specs.game.Sheets.{IsWithinLimits}
use Rattle.std.proofs.lemmas.Int.{ints, clamps}
use Rattle.std.proofs.lemmas.List.{ext_get_or, get_or-set_same, get_or-set_other, get_or_past}
use Rattle.std.proofs.lemmas.List.{length-set}
use Rattle.std.proofs.lemmas.List.Sums.{sum_by-set, get_or-le-sum_by, count_by_more_no}
use Rattle.std.proofs.lemmas.List.Sums.{count_by_more_yes}
use Rattle.league_core.specs.declared.sheet.Fixture.{Fixture}
use Rattle.league_core.specs.declared.season.Score.{Score}
use Rattle.league_core.specs.game.Sums.{match_points}
use Rattle.league_core.specs.search.Options.{has_option, has_one_outcome}
use Rattle.league_core.specs.search.PointRanges.{Range, one_value, range_of, range_from}
use Rattle.league_core.specs.search.PointRanges.{points_together, points_of_sides}
use Rattle.league_core.proofs.OptionLemmas.{has_score-first}
use Rattle.league_core.proofs.PointRangeLemmas.{range_of-same}
use Rattle.league_core.proofs.PointsLemmas.{match_worth}
use Rattle.league_core.proofs.RangeLemmas.{range_of-none}
use Rattle.league_core.proofs.FixtureLemmas.{fixture_of_sheet}
use Rattle.score_box.specs.declared.cell.Cell.{Cell}
use Rattle.score_box.specs.declared.points.outcomes.MatchPoints.{MatchPoints}
use Rattle.score_box.specs.inside.Cells.{IsCellOf, IsEmptyCell, HasOneOutcome}
use Rattle.score_box.specs.inside.Points.{IsPointsOf}
use Rattle.score_box.specs.inside.Boxes.{open_outcomes_in}
use Rattle.score_box.specs.inside.Ends.{alone_in, alone_over, empty_in, end_at, IsMatch, AreRanges}
use Rattle.score_box.specs.inside.Ends.{MovesRanges}
use Rattle.score_box.proofs.OutcomeLemmas.{one_outcome_of, outcome_of_cell}

-- ---- bounds

-- no match gives a club more than three points
abbrev pub IsSmall : ℤ → Type 0
IsSmall value = (pos 0 ≤ℤ value) × (value ≤ℤ pos 3)

alone_small : (club : ℕ) (match : Fixture) (score : Score)
    → IsSmall (points_together (club ∷ []) match score)
alone_small club match score =
    let one = match_worth club match score in
    (omega (arith, ints, one.least), omega (arith, ints, one.most))

-- both ends of a range of small values are small
pub range_small : (value : Score → ℤ) → ((score : Score) → IsSmall (value score))
    → (options : List Score) → IsSmall (range_of value options).least
    × IsSmall (range_of value options).greatest
range_small value small [] = (
  (omega (arith, ints), omega (arith, ints)),
  (omega (arith, ints), omega (arith, ints)),
)
range_small value small (score ∷ []) = (small score, small score)
range_small value small (score ∷ other ∷ options) =
    let rest = range_small value small (other ∷ options) in
    let one = small score in (
      (
        omega (arith, ints, clamps, one.0, rest.0.0),
        omega (arith, ints, clamps, one.1, rest.0.1),
      ),
      (
        omega (arith, ints, clamps, one.0, rest.1.0),
        omega (arith, ints, clamps, one.1, rest.1.1),
      ),
    )

-- three points a fixture at most
pub ends_small : (club : ℕ) (fixtures : List Fixture) (options : List (List Score))
    → ((pos 0 ≤ℤ (alone_over fixtures options club).least)
    × ((alone_over fixtures options club).least ≤ℤ pos (3 * length fixtures)))
    × ((pos 0 ≤ℤ (alone_over fixtures options club).greatest)
    × ((alone_over fixtures options club).greatest ≤ℤ pos (3 * length fixtures)))
ends_small club [] options = (
  (omega (arith, ints), omega (arith, ints)),
  (omega (arith, ints), omega (arith, ints)),
)
ends_small club (match ∷ fixtures) [] = (
  (omega (arith, ints), omega (arith, ints)),
  (omega (arith, ints), omega (arith, ints)),
)
ends_small club (match ∷ fixtures) (scores ∷ options) =
    let rest = ends_small club fixtures options in
    let here = range_small (points_together (club ∷ []) match)
    (λ score. alone_small club match score) scores in (
      (
        omega (arith, ints, here.0.0, rest.0.0),
        omega (arith, ints, here.0.1, rest.0.1),
      ),
      (
        omega (arith, ints, here.1.0, rest.1.0),
        omega (arith, ints, here.1.1, rest.1.1),
      ),
    )

-- one match alone
pub one_small : (club : ℕ) (match : Fixture) (options : List Score)
    → IsSmall (alone_in club match options).least × IsSmall (alone_in club match options).greatest
one_small club match options =
    range_small (points_together (club ∷ []) match) (λ score. alone_small club match score) options

-- so the numbers of ranges are small too
pub ranges_small : (fixtures : List Fixture) (options : List (List Score)) (lows highs : List ℤ)
    → length fixtures ≤ 600 → AreRanges fixtures options lows highs → (club : ℕ)
    → ((pos 0 ≤ℤ end_at lows club) × (end_at lows club ≤ℤ pos 1800))
    × ((pos 0 ≤ℤ end_at highs club) × (end_at highs club ≤ℤ pos 1800))
ranges_small fixtures options lows highs few are club = at (cases_lt club 24)
  where
    at : (club < 24) ⊎ (24 ≤ club)
        → ((pos 0 ≤ℤ end_at lows club) × (end_at lows club ≤ℤ pos 1800))
        × ((pos 0 ≤ℤ end_at highs club) × (end_at highs club ≤ℤ pos 1800))
    at (inl below) =
        let least = are.least club below in
        let most = are.most club below in
        let small = ends_small club fixtures options in (
          (omega (arith, ints, least, small.0.0), omega (arith, ints, least, small.0.1)),
          (omega (arith, ints, most, small.1.0), omega (arith, ints, most, small.1.1)),
        )
    at (inr past) =
        let low : end_at lows club ≡ pos 0 = get_or_past lows club (pos 0)
        (omega (arith, are.many_lows)) in
        let high : end_at highs club ≡ pos 0 = get_or_past highs club (pos 0)
        (omega (arith, are.many_highs)) in (
          (omega (arith, ints, low), omega (arith, ints, low)),
          (omega (arith, ints, high), omega (arith, ints, high)),
        )

-- ---- one match, by its two sides

pub alone_sides : (club : ℕ) (match : Fixture) (score : Score) → match.home ≢ match.away
    → points_together (club ∷ []) match score
    ≡ points_of_sides (eqb match.home club) (eqb match.away club) score
alone_sides club match score apart =
    at (eqb match.home club) (eqb match.away club) (match_points score.home score.away false)
    (match_points score.away score.home true)
    (λ home away. apart (eqb-true match.home club home ∙ sym (eqb-true match.away club away)))
  where
    at : (h a : Bool) (home away : ℤ) → (h ≡ true → a ≡ true → ⊥)
        → (cond h home (cond a away (pos 0)) +ℤ pos 0)
        ≡ (cond h home (pos 0) +ℤ cond a away (pos 0))
    at true true home away not_both = absurd (not_both refl refl)
    at true false home away not_both = omega (arith, ints)
    at false true home away not_both = omega (arith, ints)
    at false false home away not_both = omega (arith, ints)

-- what a cell leaves a club, from what it leaves each side
pub alone_is : (club : ℕ) (match : Fixture) (cell : Cell) (options : List Score)
    (home away : MatchPoints) → match.home ≢ match.away → IsCellOf cell options
    → IsPointsOf cell true false home → IsPointsOf cell false true away
    → ((alone_in club match options).least
    ≡ cond (eqb match.home club) (pos home.least) (cond (eqb match.away club) (pos away.least)
    (pos 0)))
    × ((alone_in club match options).greatest
    ≡ cond (eqb match.home club) (pos home.most) (cond (eqb match.away club) (pos away.most)
    (pos 0)))
alone_is club match cell options home away apart is home_is away_is =
    let sides = range_of-same (points_together (club ∷ []) match)
    (points_of_sides (eqb match.home club) (eqb match.away club)) options
    (λ score. alone_sides club match score apart) in
    let both = at (eqb match.home club) (eqb match.away club)
    (λ h a. apart (eqb-true match.home club h ∙ sym (eqb-true match.away club a))) in (
      ap (λ (r : Range). r.least) sides ∙ both.0,
      ap (λ (r : Range). r.greatest) sides ∙ both.1,
    )
  where
    at : (h a : Bool) → (h ≡ true → a ≡ true → ⊥)
        → ((range_of (points_of_sides h a) options).least
        ≡ cond h (pos home.least) (cond a (pos away.least) (pos 0)))
        × ((range_of (points_of_sides h a) options).greatest
        ≡ cond h (pos home.most) (cond a (pos away.most) (pos 0)))
    at true true not_both = absurd (not_both refl refl)
    at true false not_both = (sym (home_is.least options is), sym (home_is.most options is))
    at false true not_both = (sym (away_is.least options is), sym (away_is.most options is))
    at false false not_both = (
      ap (λ (r : Range). r.least) (range_of-none options),
      ap (λ (r : Range). r.greatest) (range_of-none options),
    )

-- a cell without a score leaves no points
pub empty_points : (cell : Cell) (home away : Bool) → IsEmptyCell cell
    → IsPointsOf cell home away (record { least = 0; most = 0 })
empty_points cell home away none = record {
  least = λ options is. ap (λ (r : Range). r.least) (sym (nothing options is));
  most = λ options is. ap (λ (r : Range). r.greatest) (sym (nothing options is));
  at_most = omega arith;
  in_order = omega arith;
}
  where
    nothing : (options : List Score) → IsCellOf cell options
        → range_of (points_of_sides home away) options ≡ one_value (pos 0)
    nothing [] is = refl
    nothing (score ∷ options) is = absurd (false≢true
        (sym (none score) ∙ is score ∙ has_score-first score options))

-- ---- the options of one fixture change

pub range_set : (value : Fixture → Score → ℤ) (matches : List Fixture)
    (options : List (List Score)) (f : ℕ) (after : List Score) (d : Fixture) → f < length matches
    → length options ≡ length matches
    → ((range_from value matches (set options f after)).least
    +ℤ (range_of (value (get_or matches f d)) (get_or options f [])).least
    ≡ (range_from value matches options).least
    +ℤ (range_of (value (get_or matches f d)) after).least)
    × ((range_from value matches (set options f after)).greatest
    +ℤ (range_of (value (get_or matches f d)) (get_or options f [])).greatest
    ≡ (range_from value matches options).greatest
    +ℤ (range_of (value (get_or matches f d)) after).greatest)
range_set value [] options f after d within many = absurd (omega arith)
range_set value (match ∷ matches) [] f after d within many = absurd (omega arith)
range_set value (match ∷ matches) (scores ∷ options) zero after d within many =
    (omega (arith, ints), omega (arith, ints))
range_set value (match ∷ matches) (scores ∷ options) (suc f) after d within many =
    let rest = range_set value matches options f after d (omega arith) (omega arith) in
    (omega (arith, ints, rest.0), omega (arith, ints, rest.1))

-- the numbers of ranges move with them
pub ranges_moved : (fixtures : List Fixture) (options : List (List Score)) (f : ℕ) (d : Fixture)
    (was now : Cell) (after : List Score) (lows lows_new highs highs_new : List ℤ)
    → f < length fixtures → length options ≡ length fixtures
    → AreRanges fixtures options lows highs
    → MovesRanges (get_or fixtures f d) was now lows lows_new highs highs_new
    → IsCellOf was (get_or options f []) → IsCellOf now after
    → length lows_new ≡ length lows → length highs_new ≡ length highs
    → AreRanges fixtures (set options f after) lows_new highs_new
ranges_moved fixtures options f d was now after lows lows_new highs highs_new within many are moves
    was_is now_is same_lows same_highs = record {
      many_lows = same_lows ∙ are.many_lows;
      many_highs = same_highs ∙ are.many_highs;
      least = λ club below.
          let move = (moves club (get_or options f []) after was_is now_is).0 in
          let change = (range_set (points_together (club ∷ [])) fixtures options f after d within
          many).0
          in
          omega (arith, ints, move, change, are.least club below);
      most = λ club below.
          let move = (moves club (get_or options f []) after was_is now_is).1 in
          let change = (range_set (points_together (club ∷ [])) fixtures options f after d within
          many).1
          in
          omega (arith, ints, move, change, are.most club below);
    }

-- and so do the counts
pub empty_set : (options : List (List Score)) (f : ℕ) (after : List Score) → f < length options
    → empty_in (set options f after) + cond (not (has_option (get_or options f []))) 1 0
    ≡ empty_in options + cond (not (has_option after)) 1 0
empty_set options f after within =
    sum_by-set (λ (scores : List Score). cond (not (has_option scores)) 1 0) options f after []
    within

pub several_set : (options : List (List Score)) (f : ℕ) (after : List Score) → f < length options
    → open_outcomes_in (set options f after)
    + cond (not (has_one_outcome (get_or options f []))) 1 0
    ≡ open_outcomes_in options + cond (not (has_one_outcome after)) 1 0
several_set options f after within =
    sum_by-set (λ (scores : List Score). cond (not (has_one_outcome scores)) 1 0) options f after []
    within

-- one that counts is counted
pub empty_counts : (options : List (List Score)) (f : ℕ) → f < length options
    → cond (not (has_option (get_or options f []))) 1 0 ≤ empty_in options
empty_counts options f within =
    get_or-le-sum_by (λ (scores : List Score). cond (not (has_option scores)) 1 0) options f []
    within

pub several_counts : (options : List (List Score)) (f : ℕ) → f < length options
    → cond (not (has_one_outcome (get_or options f []))) 1 0 ≤ open_outcomes_in options
several_counts options f within =
    get_or-le-sum_by (λ (scores : List Score). cond (not (has_one_outcome scores)) 1 0) options f []
    within

-- options that differ in one place are those with that place written
pub set_is : (old new : List (List Score)) (f : ℕ) → f < length old → length old ≡ length new
    → ((k : ℕ) → k ≢ f → get_or new k [] ≡ get_or old k []) → set old f (get_or new f []) ≡ new
set_is old new f within many same =
    ext_get_or [] (set old f (get_or new f [])) new (length-set old f (get_or new f []) ∙ many)
    (λ k below. at k (cases_eq k f))
  where
    at : (k : ℕ) → (k ≡ f) ⊎ (k ≢ f) → get_or (set old f (get_or new f [])) k [] ≡ get_or new k []
    at k (inl here) =
        ap (λ n. get_or (set old f (get_or new f [])) n []) here
        ∙ get_or-set_same old f (get_or new f []) [] within
        ∙ ap (λ n. get_or new n []) (sym here)
    at k (inr other) = get_or-set_other old f k (get_or new f []) [] other ∙ sym (same k other)

-- ---- what a cell says of its options

-- how many of the lists pass
abbrev count_of : (List Score → Bool) → List (List Score) → ℕ
count_of test options = count_by test options

pub empty_is : (cell : Cell) (options : List Score) (empty : Bool) → IsCellOf cell options
    → (empty ≡ true → IsEmptyCell cell) → (IsEmptyCell cell → empty ≡ true)
    → empty ≡ not (has_option options)
empty_is cell [] true is gives from = refl
empty_is cell [] false is gives from = from is
empty_is cell (score ∷ options) true is gives from =
    absurd (false≢true (sym (gives refl score) ∙ is score ∙ has_score-first score options))
empty_is cell (score ∷ options) false is gives from = refl

pub outcome_is : (cell : Cell) (options : List Score) (one : Bool) → IsCellOf cell options
    → (one ≡ true → HasOneOutcome cell) → (HasOneOutcome cell → one ≡ true)
    → one ≡ has_one_outcome options
outcome_is cell options true is gives from = sym (outcome_of_cell cell options is (gives refl))
outcome_is cell options false is gives from =
    sym (false_from_ne_true (has_one_outcome options)
    (λ has. false≢true (from (one_outcome_of cell options is has))))

-- one fixture more counts if it passes
pub count_more : (test : List Score → Bool) (options : List (List Score)) (k : ℕ) (b : Bool)
    → k < length options → b ≡ test (get_or options k [])
    → count_of test (take (k + 1) options) ≡ count_of test (take k options) + cond b 1 0
count_more test options k true within is =
    count_by_more_yes test options k [] within (sym is)
count_more test options k false within is =
    let same = count_by_more_no test options k [] within (sym is) in omega (arith, same)

-- ---- numbers of clubs

-- a number written at a club's place
pub one_moved : (numbers : List ℤ) (club : ℕ) (value by : ℤ) → club < length numbers
    → value ≡ end_at numbers club +ℤ by → (other : ℕ)
    → end_at (set numbers club value) other
    ≡ end_at numbers other +ℤ cond (eqb club other) by (pos 0)
one_moved numbers club value by within is other = at (cases_eq other club)
  where
    at : (other ≡ club) ⊎ (other ≢ club) → end_at (set numbers club value) other
        ≡ end_at numbers other +ℤ cond (eqb club other) by (pos 0)
    at (inl here) =
        ap (λ n. end_at (set numbers club value) n) here
        ∙ get_or-set_same numbers club value (pos 0) within ∙ is
        ∙ ap (λ n. end_at numbers n +ℤ by) (sym here)
        ∙ ap (λ b. end_at numbers other +ℤ cond b by (pos 0))
        (sym (eq-eqb club other (sym here)))
    at (inr away) =
        let none : end_at numbers other ≡ end_at numbers other +ℤ pos 0 =
        omega (arith, ints) in
        get_or-set_other numbers club other value (pos 0) away ∙ none
        ∙ ap (λ b. end_at numbers other +ℤ cond b by (pos 0))
        (sym (ne_eqb club other (λ e. away (sym e))))

-- both clubs of a match, one after the other
pub two_moved : (h a : Bool) (old middle new x x_new y y_new : ℤ) → (h ≡ true → a ≡ true → ⊥)
    → middle ≡ old +ℤ cond h (x_new -ℤ x) (pos 0) → new ≡ middle +ℤ cond a (y_new -ℤ y) (pos 0)
    → new +ℤ cond h x (cond a y (pos 0)) ≡ old +ℤ cond h x_new (cond a y_new (pos 0))
two_moved true true old middle new x x_new y y_new not_both first second =
    absurd (not_both refl refl)
two_moved true false old middle new x x_new y y_new not_both first second = omega (arith, ints)
two_moved false true old middle new x x_new y y_new not_both first second = omega (arith, ints)
two_moved false false old middle new x x_new y y_new not_both first second = omega (arith, ints)

-- ---- sheets

-- each fixture of a sheet is a match
pub matches_of : (sheet : Sheet) → IsWithinLimits sheet → All IsMatch sheet.fixtures
matches_of sheet limits i d within =
    let ends = fixture_of_sheet sheet i d limits within in
    record { home = ends.0; away = ends.1; apart = ends.2 }
