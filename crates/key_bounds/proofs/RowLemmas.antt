-- What a match is worth to a side that wins, draws or loses at all scores of a cell: the ends of
-- each column.
use Rattle.std.proofs.Common.{◌≡◌, ℕ, ◌≤◌, ℤ, pos, neg_ℤ, Bool, true, false, not, cond}
use Rattle.std.proofs.Common.{refl, sym, subst, arith}
use Rattle.std.proofs.lemmas.Int.{ints}
use Rattle.league_core.specs.declared.season.Score.{Score}
use Rattle.league_core.specs.game.Sums.{match_points, goal_difference, goals, away_goals, wins}
use Rattle.league_core.specs.game.Sums.{away_wins}
use Rattle.league_core.specs.inside.Extents.{IsExtent, IsNearZero}
use Rattle.league_core.specs.search.PointRanges.{one_value}
use Rattle.league_core.proofs.ExtentLemmas.{one_extent}
use Rattle.league_core.proofs.WorthLemmas.{points_won, points_drawn, points_lost, one_win, no_win}
use Rattle.score_box.specs.declared.cell.Cell.{Cell}
use Rattle.score_box.specs.declared.totals.Totals.{Totals}
use Rattle.score_box.specs.inside.Cells.{allows}
use Rattle.score_box.specs.inside.Totals.{Column, points_column, difference_column, goals_column}
use Rattle.score_box.specs.inside.Totals.{away_goals_column, wins_column, away_wins_column}
use Rattle.score_box.specs.inside.Totals.{worth_in, AreTotalsNear}
use Rattle.tie_bound.specs.inside.IntRanges.{IsMargin}
use Rattle.tie_bound.specs.inside.Sides.{goals_by, to_side, AreGoalsOf, Wins as WinsAll}
use Rattle.tie_bound.specs.inside.Sides.{Draws as DrawsAll, Loses as LosesAll}
use Rattle.tie_bound.proofs.ExtentLemmas.{goals_extent}
use Rattle.tie_bound.proofs.MarginLemmas.{lost_extent, margin_extent}
use Rattle.key_bounds.specs.declared.goal_ends.GoalEnds.{GoalEnds}
use Rattle.key_bounds.specs.declared.row_ends.RowEnds.{RowEnds}
use Rattle.key_bounds.specs.inside.RowEnds.{ends_in, totals_row, as_goals, AreGoals}
use Rattle.key_bounds.specs.inside.RowEnds.{AreEndsOf}

-- the two rows that differ in the difference and in the goals alone
abbrev pub both_rows : ℤ → ℤ → ℤ → ℕ → ℕ → ℤ → Bool → RowEnds
both_rows points low high least most won away = record {
  least = totals_row points low least won away;
  greatest = totals_row points high most won away;
}

-- the four columns that the others follow from
pub record AreFour (allowed : Score → Bool) (away : Bool) (points low high : ℤ) (least most : ℕ)
    (won : ℤ) : Type 0 where
  pub points_are : IsExtent allowed (to_side match_points away) (one_value points)
  pub difference_is : IsExtent allowed (to_side goal_difference away)
      (record { least = low; greatest = high })
  pub goals_are : IsExtent allowed (to_side goals away)
      (record { least = pos least; greatest = pos most })
  pub wins_are : IsExtent allowed (to_side wins away) (one_value won)

-- goals and wins count for the away side once more, and not for the home side
six_columns : (allowed : Score → Bool) (away : Bool) (points low high : ℤ) (least most : ℕ)
    (won : ℤ) → AreFour allowed away points low high least most won → (column : Column)
    → IsExtent allowed (to_side (worth_in column) away)
    (ends_in (both_rows points low high least most won away) column)
six_columns allowed away points low high least most won are points_column = are.points_are
six_columns allowed away points low high least most won are difference_column = are.difference_is
six_columns allowed away points low high least most won are goals_column = are.goals_are
six_columns allowed true points low high least most won are away_goals_column = are.goals_are
six_columns allowed false points low high least most won are away_goals_column =
    one_extent allowed (to_side away_goals false) (pos 0) are.goals_are.least.0
    are.goals_are.least.1 (λ score is. refl)
six_columns allowed away points low high least most won are wins_column = are.wins_are
six_columns allowed true points low high least most won are away_wins_column = are.wins_are
six_columns allowed false points low high least most won are away_wins_column =
    one_extent allowed (to_side away_wins false) (pos 0) are.goals_are.least.0
    are.goals_are.least.1 (λ score is. refl)

cond_near : (away : Bool) (number : ℤ) → IsNearZero 255 number
    → IsNearZero 255 (cond away number (pos 0))
cond_near true number near = near
cond_near false number near = (omega (arith, ints), omega (arith, ints))

row_near : (points difference : ℤ) (scored : ℕ) (won : ℤ) (away : Bool) → IsNearZero 255 points
    → IsNearZero 255 difference → scored ≤ 255 → IsNearZero 255 won
    → AreTotalsNear 255 (totals_row points difference scored won away)
row_near points difference scored won away p d few w points_column = p
row_near points difference scored won away p d few w difference_column = d
row_near points difference scored won away p d few w goals_column =
    (omega (arith, ints), omega (arith, ints))
row_near points difference scored won away p d few w away_goals_column =
    cond_near away (pos scored) (omega (arith, ints), omega (arith, ints))
row_near points difference scored won away p d few w wins_column = w
row_near points difference scored won away p d few w away_wins_column = cond_near away won w

-- the rows of four such columns
ends_from : (allowed : Score → Bool) (away : Bool) (points low high : ℤ) (least most : ℕ)
    (won : ℤ) → AreFour allowed away points low high least most won → IsNearZero 255 points
    → IsNearZero 255 low → IsNearZero 255 high → least ≤ 255 → most ≤ 255 → IsNearZero 255 won
    → AreEndsOf allowed away (both_rows points low high least most won away)
ends_from allowed away points low high least most won are p l h few_least few_most w = record {
  each = six_columns allowed away points low high least most won are;
  near = (
    row_near points low least won away p l few_least w,
    row_near points high most won away p h few_most w,
  );
}

few : (number : ℕ) → number ≤ 255 → IsNearZero 255 (pos number)
few number at_most = (omega (arith, ints), omega (arith, ints))

-- no side has fewer goals at the most than at the least
least_few : (cell : Cell) (away : Bool) (own : GoalEnds) → AreGoalsOf cell away (as_goals own)
    → own.most ≤ 255 → own.least ≤ 255
least_few cell away own are most =
    let between = are.within are.least.0 are.least.1 in omega (arith, between.1, are.least.2)

pub won_ends : (cell : Cell) (away : Bool) (own other : GoalEnds) (closest widest : ℤ)
    → WinsAll cell away → AreGoals cell away own other → own.most ≤ 255
    → IsMargin (as_goals own) (as_goals other) (record { least = closest; greatest = widest })
    → IsNearZero 255 closest → IsNearZero 255 widest
    → AreEndsOf (allows cell) away
    (both_rows (pos 3) closest widest own.least own.most (pos 1) away)
won_ends cell away own other closest widest wins_all are own_few margin low high =
    let some = are.own_goals.least.0 in
    let there = are.own_goals.least.1 in
    ends_from (allows cell) away (pos 3) closest widest own.least own.most (pos 1)
    (record {
      points_are = one_extent (allows cell) (to_side match_points away) (pos 3) some there
          (λ score is. points_won (goals_by away score) (goals_by (not away) score) away
          (wins_all score is));
      difference_is = margin_extent cell away (as_goals own) (as_goals other)
          (record { least = closest; greatest = widest }) wins_all are.own_goals are.other_goals
          margin;
      goals_are = goals_extent cell away (as_goals own) are.own_goals;
      wins_are = one_extent (allows cell) (to_side wins away) (pos 1) some there
          (λ score is. one_win (goals_by away score) (goals_by (not away) score) away
          (wins_all score is));
    })
    (few 3 (omega arith)) low high (least_few cell away own are.own_goals own_few) own_few
    (few 1 (omega arith))

pub drawn_ends : (cell : Cell) (away : Bool) (own : GoalEnds) → DrawsAll cell away
    → AreGoalsOf cell away (as_goals own) → own.most ≤ 255
    → AreEndsOf (allows cell) away
    (both_rows (pos 1) (pos 0) (pos 0) own.least own.most (pos 0) away)
drawn_ends cell away own draws are own_few =
    let some = are.least.0 in
    let there = are.least.1 in
    ends_from (allows cell) away (pos 1) (pos 0) (pos 0) own.least own.most (pos 0)
    (record {
      points_are = one_extent (allows cell) (to_side match_points away) (pos 1) some there
          (λ score is. points_drawn (goals_by away score) (goals_by (not away) score) away
          (draws score is));
      difference_is = one_extent (allows cell) (to_side goal_difference away) (pos 0) some there
          (λ score is. let level = draws score is in omega (arith, ints));
      goals_are = goals_extent cell away (as_goals own) are;
      wins_are = one_extent (allows cell) (to_side wins away) (pos 0) some there
          (λ score is. let level = draws score is in
          no_win (goals_by away score) (goals_by (not away) score) away (omega arith));
    })
    (few 1 (omega arith)) (few 0 (omega arith)) (few 0 (omega arith))
    (least_few cell away own are own_few) own_few (few 0 (omega arith))

pub lost_ends : (cell : Cell) (away : Bool) (own other : GoalEnds) (closest widest : ℤ)
    → LosesAll cell away → AreGoals cell away own other → own.most ≤ 255
    → IsMargin (as_goals other) (as_goals own) (record { least = closest; greatest = widest })
    → IsNearZero 255 closest → IsNearZero 255 widest
    → AreEndsOf (allows cell) away
    (both_rows (pos 0) (neg_ℤ widest) (neg_ℤ closest) own.least own.most (pos 0) away)
lost_ends cell away own other closest widest loses are own_few margin low high =
    let some = are.own_goals.least.0 in
    let there = are.own_goals.least.1 in
    ends_from (allows cell) away (pos 0) (neg_ℤ widest) (neg_ℤ closest) own.least own.most (pos 0)
    (record {
      points_are = one_extent (allows cell) (to_side match_points away) (pos 0) some there
          (λ score is. points_lost (goals_by away score) (goals_by (not away) score) away
          (loses score is));
      difference_is = lost_extent cell away (as_goals own) (as_goals other)
          (record { least = closest; greatest = widest }) loses are.own_goals are.other_goals
          margin;
      goals_are = goals_extent cell away (as_goals own) are.own_goals;
      wins_are = one_extent (allows cell) (to_side wins away) (pos 0) some there
          (λ score is. let below = loses score is in
          no_win (goals_by away score) (goals_by (not away) score) away (omega arith));
    })
    (few 0 (omega arith)) (omega (arith, ints, high.0, high.1), omega (arith, ints, high.0, high.1))
    (omega (arith, ints, low.0, low.1), omega (arith, ints, low.0, low.1))
    (least_few cell away own are.own_goals own_few) own_few (few 0 (omega arith))

-- rows that are these rows have their ends
pub ends_at : (allowed : Score → Bool) (away : Bool) (least greatest low high : Totals)
    → least ≡ low → greatest ≡ high
    → AreEndsOf allowed away (record { least = low; greatest = high })
    → AreEndsOf allowed away (record { least = least; greatest = greatest })
ends_at allowed away least greatest low high is_low is_high are =
    let Low : Totals → Type 0 = λ row. AreEndsOf allowed away
    (record { least = row; greatest = greatest }) in
    let High : Totals → Type 0 = λ row. AreEndsOf allowed away
    (record { least = low; greatest = row }) in
    subst Low (sym is_low) (subst High (sym is_high) are)
