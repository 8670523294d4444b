-- What a fixture is worth to a cut: the points of both sides together lie beyond those of each side
-- alone, and what lies beyond is the surplus.
use Rattle.std.proofs.Common.{◌≡◌, ℕ, ◌+◌, ◌-◌, ◌≤◌, max, pos, ◌-ℤ◌, ◌≤ℤ◌, Bool, true, false, ◌&&◌}
use Rattle.std.proofs.Common.{◌==◌, nat_le, nat_lt, cond, List, [], ◌∷◌, filter, sym, ap, refl, ◌∙◌}
use Rattle.std.proofs.Common.{subst, arith}
use Rattle.std.specs.Int.{int_min, int_max}
use Rattle.std.proofs.lemmas.Int.{ints}
use Rattle.std.proofs.lemmas.Bool.{and_parts, and_from, leb-true, le-leb}
use Rattle.std.proofs.lemmas.Map.Views.{any-filter_same}
use Rattle.league_core.specs.declared.season.Score.{Score}
use Rattle.league_core.specs.game.Finishes.{same_score}
use Rattle.league_core.specs.search.Options.{scores_up_to}
use Rattle.league_core.specs.search.PointRanges.{Range, one_value, range_of, points_of_sides}
use Rattle.league_core.specs.game.Sums.{match_points}
use Rattle.league_core.proofs.OptionLemmas.{has_score-scores_up_to, same_score-true}
use Rattle.league_core.proofs.PointRangeLemmas.{least_reached, greatest_reached, range_bounds}
use Rattle.score_box.specs.declared.cell.Cell.{Cell}
use Rattle.score_box.specs.declared.points.outcomes.MatchPoints.{MatchPoints}
use Rattle.score_box.specs.inside.Cells.{is_within, keeps_outcome, allows, IsCellOf, IsEmptyCell}
use Rattle.score_box.specs.inside.Points.{IsPointsOf}
use Rattle.score_box.proofs.BoxLemmas.{option_of_cell}
use Rattle.flow_bound.specs.declared.cut.Cut.{Cut}
use Rattle.flow_bound.specs.declared.cut.Cut.TheVariants.{Floor, Ceiling}
use Rattle.flow_bound.specs.inside.Fixtures.{MatchWorth, end_of, worth_of_sides, IsWorthOf}
use Rattle.league_core.proofs.plain.TruthValues.{and_implied}

-- the scores of a cell, listed
options_for : Cell → List Score
options_for cell = filter (allows cell) (scores_up_to (max cell.home_most cell.away_most))

-- goals in a range are at most its end
within_most : (least most limit goals : ℕ) → most ≤ limit → is_within least most goals ≡ true
    → nat_le goals limit ≡ true
within_most least most limit goals below is =
    let parts = and_parts (nat_le least goals) (nat_le goals most) is in
    let at_most = leb-true goals most parts.1 in
    le-leb goals limit (omega arith)

-- they are the cell's scores, and no others
is_cell-options : (cell : Cell) → IsCellOf cell (options_for cell)
unfolding options_for
is_cell-options cell score =
    let limit = max cell.home_most cell.away_most in
    and_implied (allows cell score) (nat_le score.home limit && nat_le score.away limit) up_to
    ∙ sym (ap (λ b. allows cell score && b) (has_score-scores_up_to limit score))
    ∙ sym (any-filter_same (same_score score) (allows cell) (allows cell score)
    (λ other same. ap (allows cell) (sym (same_score-true score other same)))
    (scores_up_to limit))
  where
    up_to : allows cell score ≡ true
        → (nat_le score.home (max cell.home_most cell.away_most)
        && nat_le score.away (max cell.home_most cell.away_most)) ≡ true
    up_to allowed =
        let limit = max cell.home_most cell.away_most in
        let home = is_within cell.home_least cell.home_most score.home in
        let away = is_within cell.away_least cell.away_most score.away in
        let all = and_parts (home && away) (keeps_outcome cell score) allowed in
        let sides = and_parts home away all.0 in
        and_from _ _
        (within_most cell.home_least cell.home_most limit score.home (omega arith) sides.0)
        (within_most cell.away_least cell.away_most limit score.away (omega arith) sides.1)

-- a match takes no points away
no_less : (scored conceded : ℕ) (away : Bool) → pos 0 ≤ℤ match_points scored conceded away
no_less scored conceded away = by_outcome (nat_lt conceded scored) (scored == conceded)
  where
    by_outcome : (b c : Bool) → pos 0 ≤ℤ cond b (pos 3) (cond c (pos 1) (pos 0))
    by_outcome true c = omega (arith, ints)
    by_outcome false true = omega (arith, ints)
    by_outcome false false = omega (arith, ints)

-- both sides together, beside each alone
pub record AddUp (home away both : MatchPoints) : Type 0 where
  pub least : home.least + away.least ≤ both.least
  pub most : both.most ≤ home.most + away.most
  pub home_most : home.most ≤ both.most

-- the least and the most of both together lie between the sums of each alone
pub sides_add_up : (cell : Cell) (home away both : MatchPoints) → IsPointsOf cell true false home
    → IsPointsOf cell false true away → IsPointsOf cell true true both → ¬ IsEmptyCell cell
    → AddUp home away both
sides_add_up cell home away both at_home on_tour together some =
    let options = options_for cell in
    let is = is_cell-options cell in
    let option = option_of_cell cell options is some in
    let low = least_reached (points_of_sides true true) options option in
    let high = greatest_reached (points_of_sides true true) options option in
    let top = greatest_reached (points_of_sides true false) options option in
    let at_low = range_bounds (points_of_sides true false) options low.0 low.1 in
    let on_low = range_bounds (points_of_sides false true) options low.0 low.1 in
    let at_high = range_bounds (points_of_sides true false) options high.0 high.1 in
    let on_high = range_bounds (points_of_sides false true) options high.0 high.1 in
    let by_both = range_bounds (points_of_sides true true) options top.0 top.1 in
    let gained = no_less top.0.away top.0.home true in
    let home_least = at_home.least options is in
    let home_most = at_home.most options is in
    let away_least = on_tour.least options is in
    let away_most = on_tour.most options is in
    let both_least = together.least options is in
    let both_most = together.most options is in
    record {
      least = omega (arith, ints, low.2, at_low.0, on_low.0);
      most = omega (arith, ints, high.2, at_high.1, on_high.1);
      home_most = omega (arith, ints, top.2, by_both.1);
    }

-- a fixture without a side that counts has nothing to add
no_points : (options : List Score)
    → range_of (points_of_sides false false) options ≡ one_value (pos 0)
no_points [] = refl
no_points (score ∷ []) = refl
no_points (score ∷ other ∷ options) =
    ap (λ (r : Range). record {
      least = int_min (pos 0) r.least;
      greatest = int_max (pos 0) r.greatest;
    })
    (no_points (other ∷ options))

-- a side that does not count adds nothing
pub no_side : (cut : Cut) (options : List Score) (home away : Bool) → home ≡ false → away ≡ false
    → end_of cut (range_of (points_of_sides home away) options) ≡ pos 0
no_side cut options home away no_home no_away =
    ap (λ h. end_of cut (range_of (points_of_sides h away) options)) no_home
    ∙ ap (λ a. end_of cut (range_of (points_of_sides false a) options)) no_away
    ∙ ap (end_of cut) (no_points options)
    ∙ at cut
  where
    at : (cut : Cut) → end_of cut (one_value (pos 0)) ≡ pos 0
    at Floor = refl
    at Ceiling = refl

-- what a fixture is worth to a floor cut
floor_is : (cell : Cell) (home away both : MatchPoints) (worth : MatchWorth)
    → IsPointsOf cell true false home → IsPointsOf cell false true away
    → IsPointsOf cell true true both → AddUp home away both → worth.home ≡ pos home.least
    → worth.away ≡ pos away.least → worth.surplus ≡ both.least - (home.least + away.least)
    → IsWorthOf Floor cell worth
floor_is cell home away both worth at_home on_tour together adds home_is away_is surplus_is =
    record {
      value = value;
      home_least = omega (arith, ints, home_is);
      home_most = omega (arith, ints, home_is, at_home.in_order, at_home.at_most);
      away_least = omega (arith, ints, away_is);
      away_most = omega (arith, ints, away_is, on_tour.in_order, on_tour.at_most);
      surplus_most = omega (arith, surplus_is, together.in_order, together.at_most);
    }
  where
    value : (options : List Score) → IsCellOf cell options → (home_in away_in : Bool)
        → end_of Floor (range_of (points_of_sides home_in away_in) options)
        ≡ worth_of_sides worth home_in away_in
    value options is true true =
        omega (arith, ints, together.least options is, home_is, away_is, surplus_is, adds.least)
    value options is true false = omega (arith, ints, at_home.least options is, home_is)
    value options is false true = omega (arith, ints, on_tour.least options is, away_is)
    value options is false false = no_side Floor options false false refl refl

-- and to a ceiling cut
ceiling_is : (cell : Cell) (home away both : MatchPoints) (worth : MatchWorth)
    → IsPointsOf cell true false home → IsPointsOf cell false true away
    → IsPointsOf cell true true both → AddUp home away both
    → worth.home ≡ pos 0 -ℤ pos home.most → worth.away ≡ pos 0 -ℤ pos away.most
    → worth.surplus ≡ home.most + away.most - both.most → IsWorthOf Ceiling cell worth
ceiling_is cell home away both worth at_home on_tour together adds home_is away_is surplus_is =
    record {
      value = value;
      home_least = omega (arith, ints, home_is, at_home.at_most);
      home_most = omega (arith, ints, home_is);
      away_least = omega (arith, ints, away_is, on_tour.at_most);
      away_most = omega (arith, ints, away_is);
      surplus_most = omega (arith, surplus_is, adds.home_most, on_tour.at_most);
    }
  where
    value : (options : List Score) → IsCellOf cell options → (home_in away_in : Bool)
        → end_of Ceiling (range_of (points_of_sides home_in away_in) options)
        ≡ worth_of_sides worth home_in away_in
    value options is true true =
        omega (arith, ints, together.most options is, home_is, away_is, surplus_is, adds.most)
    value options is true false = omega (arith, ints, at_home.most options is, home_is)
    value options is false true = omega (arith, ints, on_tour.most options is, away_is)
    value options is false false = no_side Ceiling options false false refl refl

-- the same if the kind of cut is known
pub floor_worth : (cut : Cut) (cell : Cell) (home away both : MatchPoints) (worth : MatchWorth)
    → cut ≡ Floor → IsPointsOf cell true false home → IsPointsOf cell false true away
    → IsPointsOf cell true true both → ¬ IsEmptyCell cell → worth.home ≡ pos home.least
    → worth.away ≡ pos away.least → worth.surplus ≡ both.least - (home.least + away.least)
    → IsWorthOf cut cell worth
floor_worth cut cell home away both worth is at_home on_tour together some h a s =
    let adds = sides_add_up cell home away both at_home on_tour together some in
    subst (λ (kind : Cut). IsWorthOf kind cell worth) (sym is)
    (floor_is cell home away both worth at_home on_tour together adds h a s)

pub ceiling_worth : (cut : Cut) (cell : Cell) (home away both : MatchPoints) (worth : MatchWorth)
    → cut ≡ Ceiling → IsPointsOf cell true false home → IsPointsOf cell false true away
    → IsPointsOf cell true true both → ¬ IsEmptyCell cell
    → worth.home ≡ pos 0 -ℤ pos home.most → worth.away ≡ pos 0 -ℤ pos away.most
    → worth.surplus ≡ home.most + away.most - both.most → IsWorthOf cut cell worth
ceiling_worth cut cell home away both worth is at_home on_tour together some h a s =
    let adds = sides_add_up cell home away both at_home on_tour together some in
    subst (λ (kind : Cut). IsWorthOf kind cell worth) (sym is)
    (ceiling_is cell home away both worth at_home on_tour together adds h a s)
