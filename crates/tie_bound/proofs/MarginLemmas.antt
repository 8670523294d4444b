-- The margins of wins over all scores of a cell: the least and the greatest, and that each is
-- reached.
use Rattle.std.proofs.Common.{◌≡◌, ℕ, ◌+◌, ◌<◌, ◌≤◌, ◌⊎◌, pos, ◌-ℤ◌, Bool, true, false, not}
use Rattle.std.proofs.Common.{nat_lt, cond, refl, sym, ap, ◌∙◌, inl, inr, arith}
use Rattle.std.proofs.lemmas.Int.{ints}
use Rattle.std.proofs.lemmas.Bool.{lt-ltb, le-ltb, cases_lt}
use Rattle.league_core.specs.declared.season.Score.{Score}
use Rattle.league_core.specs.game.Sums.{goal_difference}
use Rattle.league_core.specs.search.Options.{score_of}
use Rattle.league_core.specs.search.PointRanges.{Range, negated}
use Rattle.league_core.specs.inside.Extents.{IsExtent}
use Rattle.league_core.proofs.ExtentLemmas.{negated_extent}
use Rattle.score_box.specs.declared.cell.Cell.{Cell}
use Rattle.score_box.specs.inside.Cells.{allows}
use Rattle.score_box.proofs.CellLemmas.{IsInRanges, allows_from, keeps_away_win}
use Rattle.score_box.proofs.CellLemmas.{keeps_home_win, ranges_of}
use Rattle.tie_bound.specs.declared.int_range.GoalRange.{GoalRange}
use Rattle.tie_bound.specs.inside.IntRanges.{IsMargin}
use Rattle.tie_bound.specs.inside.Sides.{goals_by, to_side, AreGoalsOf, Wins as WinsAll}
use Rattle.tie_bound.specs.inside.Sides.{Loses as LosesAll}

-- a side wins by these goals where it has no more at one score, no fewer at another, and the other
-- side its goals at a third: all wins of a side have one outcome
win_at : (cell : Cell) (away : Bool) (least most rival : Score) (own other : ℕ)
    → WinsAll cell away → allows cell least ≡ true → allows cell most ≡ true
    → allows cell rival ≡ true → goals_by away least ≤ own → own ≤ goals_by away most
    → goals_by (not away) rival ≡ other → other < own
    → (score : Score) × (allows cell score ≡ true) × (goals_by away score ≡ own)
    × (goals_by (not away) score ≡ other)
win_at cell false least most rival own other all_won low high there above below is reach =
    let least_in = ranges_of cell least low in
    let most_in = (ranges_of cell most high).0 in
    let rival_in = (ranges_of cell rival there).0 in
    let inside : IsInRanges cell (score_of own other) = record {
      home_least = omega (arith, least_in.0.home_least);
      home_most = omega (arith, most_in.home_most);
      away_least = omega (arith, rival_in.away_least);
      away_most = omega (arith, rival_in.away_most);
    } in (
      score_of own other,
      allows_from cell (score_of own other) inside (keeps_home_win cell (score_of own other) reach
          ∙ sym (keeps_home_win cell least (all_won least low)) ∙ least_in.1),
      refl,
      refl,
    )
win_at cell true least most rival own other all_won low high there above below is reach =
    let least_in = ranges_of cell least low in
    let most_in = (ranges_of cell most high).0 in
    let rival_in = (ranges_of cell rival there).0 in
    let inside : IsInRanges cell (score_of other own) = record {
      home_least = omega (arith, rival_in.home_least);
      home_most = omega (arith, rival_in.home_most);
      away_least = omega (arith, least_in.0.away_least);
      away_most = omega (arith, most_in.away_most);
    } in (
      score_of other own,
      allows_from cell (score_of other own) inside (keeps_away_win cell (score_of other own) reach
          ∙ sym (keeps_away_win cell least (all_won least low)) ∙ least_in.1),
      refl,
      refl,
    )

-- the closest win is by the least margin that the goals leave, and by one goal if they overlap
closest_by : (b : Bool) (winner loser : GoalRange) (range : Range) → nat_lt loser.most winner.least
    ≡ b → IsMargin winner loser range → range.least ≡ cond b (pos winner.least -ℤ pos loser.most)
    (pos 1)
closest_by b winner loser range test margin = margin.closest
    ∙ ap (λ t. cond t (pos winner.least -ℤ pos loser.most) (pos 1)) test

-- the margins of the wins of a side
pub margin_extent : (cell : Cell) (away : Bool) (own other : GoalRange) (range : Range)
    → WinsAll cell away → AreGoalsOf cell away own → AreGoalsOf cell (not away) other
    → IsMargin own other range → IsExtent (allows cell) (to_side goal_difference away) range
margin_extent cell away own other range all_won own_goals other_goals margin =
    by_gap (cases_lt other.most own.least)
  where
    -- what a score says of the ends
    said : (score : Score) → allows cell score ≡ true
        → (own.least ≤ goals_by away score) × (goals_by away score ≤ own.most)
        × (other.least ≤ goals_by (not away) score) × (goals_by (not away) score ≤ other.most)
        × (goals_by (not away) score < goals_by away score)
    said score is =
        let mine = own_goals.within score is in
        let theirs = other_goals.within score is in
        (mine.0, mine.1, theirs.0, theirs.1, all_won score is)

    widest : (score : Score) × (allows cell score ≡ true)
        × (to_side goal_difference away score ≡ range.greatest)
    widest =
        let most = own_goals.most in
        let least = other_goals.least in
        let w = said most.0 most.1 in
        let at = win_at cell away most.0 most.0 least.0 own.most other.least all_won most.1 most.1
        least.1 (omega (arith, most.2)) (omega (arith, most.2)) least.2 (omega (arith, most.2)) in
        (at.0, at.1, omega (arith, ints, at.2, at.3, margin.widest))

    by_gap : (other.most < own.least) ⊎ (own.least ≤ other.most) → IsExtent (allows cell)
        (to_side goal_difference away) range
    by_gap (inl gap) =
        let closest : range.least ≡ (pos own.least -ℤ pos other.most) = closest_by true own other
        range (lt-ltb other.most own.least gap) margin in
        let low = own_goals.least in
        let high = other_goals.most in
        let at = win_at cell away low.0 low.0 high.0 own.least other.most all_won low.1 low.1 high.1
        (omega (arith, low.2)) (omega (arith, low.2)) high.2 gap in
        record {
          within = λ score is. let w = said score is
              in (omega (arith, ints), omega (arith, ints, margin.widest));
          least = (at.0, at.1, omega (arith, ints, at.2, at.3));
          greatest = widest;
        }
    by_gap (inr overlap) =
        let closest : range.least ≡ pos 1 = closest_by false own other range
        (le-ltb other.most own.least overlap) margin in
        let low = own_goals.least in
        let high = other_goals.most in
        let beats = all_won high.0 high.1 in
        let at = win_at cell away low.0 high.0 high.0 (other.most + 1) other.most all_won low.1
        high.1
        high.1 (omega (arith, low.2)) (omega (arith, high.2)) high.2 (omega arith) in
        record {
          within = λ score is. let w = said score is
              in (omega (arith, ints), omega (arith, ints, margin.widest));
          least = (at.0, at.1, omega (arith, ints, at.2, at.3));
          greatest = widest;
        }

-- a defeat is the other side's win
pub lost_extent : (cell : Cell) (away : Bool) (own other : GoalRange) (range : Range)
    → LosesAll cell away → AreGoalsOf cell away own → AreGoalsOf cell (not away) other
    → IsMargin other own range → IsExtent (allows cell) (to_side goal_difference away)
    (negated range)
lost_extent cell true own other range loses own_goals other_goals margin =
    negated_extent (allows cell) (to_side goal_difference false) (to_side goal_difference true)
    range (λ score. omega (arith, ints))
    (margin_extent cell false other own range loses other_goals own_goals margin)
lost_extent cell false own other range loses own_goals other_goals margin =
    negated_extent (allows cell) (to_side goal_difference true) (to_side goal_difference false)
    range (λ score. omega (arith, ints))
    (margin_extent cell true other own range loses other_goals own_goals margin)
