-- The sums that a match leaves to one of its sides, by the outcome that all its scores have.
use Rattle.std.proofs.Common.{◌≡◌, ◌≤◌, ℤ, pos, Bool, true, false, not}
use Rattle.std.proofs.Common.{cond, [], refl, sym, ap, ◌∙◌, arith}
use Rattle.std.proofs.lemmas.Int.{ints}
use Rattle.league_core.specs.declared.season.Score.{Score}
use Rattle.league_core.specs.game.Sums.{match_points, goal_difference, goals, away_goals, wins}
use Rattle.league_core.specs.game.Sums.{Worth, away_wins}
use Rattle.league_core.specs.search.PointRanges.{Range, one_value, negated, range_of}
use Rattle.league_core.specs.inside.Extents.{IsExtent}
use Rattle.league_core.proofs.ExtentLemmas.{extent-is, extent_at, one_extent}
use Rattle.league_core.proofs.WorthLemmas.{points_won, points_drawn, points_lost}
use Rattle.league_core.proofs.WorthLemmas.{one_win, no_win, one_away_win, no_away_win}
use Rattle.tie_criteria.specs.declared.measure.Measure.{Measure}
use Rattle.tie_criteria.specs.declared.measure.Measure.TheVariants.{Points, Difference, Goals}
use Rattle.tie_criteria.specs.declared.measure.Measure.TheVariants.{AwayGoals, Wins, AwayWins}
use Rattle.tie_criteria.specs.inside.Measures.{worth_of}
use Rattle.score_box.specs.declared.cell.Cell.{Cell}
use Rattle.score_box.specs.inside.Cells.{allows, IsEmptyCell}
use Rattle.tie_bound.specs.declared.int_range.GoalRange.{GoalRange}
use Rattle.tie_bound.specs.declared.sums.Sums.{Sums}
use Rattle.tie_bound.specs.inside.IntRanges.{as_range, IsRangeNear, IsMargin}
use Rattle.tie_bound.specs.inside.Sums.{range_by, no_sums}
use Rattle.tie_bound.specs.inside.Sides.{goals_by, to_side, AreGoalsOf, Wins as WinsAll}
use Rattle.tie_bound.specs.inside.Sides.{Draws as DrawsAll, Loses as LosesAll, AreSumsOf}
use Rattle.tie_bound.proofs.ExtentLemmas.{goals_extent, near_extent, worth_near, no_options}
use Rattle.tie_bound.proofs.MarginLemmas.{lost_extent, margin_extent}

-- what all the sums of a side need: the goals of each side, which are no more than 255
pub record IsMatchOf (cell : Cell) (away : Bool) (own other : GoalRange) : Type 0 where
  pub own_goals : AreGoalsOf cell away own
  pub other_goals : AreGoalsOf cell (not away) other
  pub own_few : own.most ≤ 255
  pub other_few : other.most ≤ 255

-- ranges that the scores of a cell reach, measure by measure, are the sums of the side
sums_from : (cell : Cell) (away : Bool) (own other : GoalRange) (sums : Sums)
    → IsMatchOf cell away own other
    → ((measure : Measure) → IsExtent (allows cell) (to_side (worth_of measure) away)
    (range_by sums measure))
    → AreSumsOf cell away sums
sums_from cell away own other sums match extents = record {
  each = λ options is measure. extent-is (allows cell) (to_side (worth_of measure) away)
      (range_by sums measure) options (extents measure) is;
  near = λ measure.
      near_extent cell (to_side (worth_of measure) away) (range_by sums measure) (extents measure)
      (λ score is.
      let mine = match.own_goals.within score is in
      let theirs = match.other_goals.within score is in
      worth_near measure (goals_by away score) (goals_by (not away) score) away
      (omega (arith, match.own_few)) (omega (arith, match.other_few)));
}

-- away goals count for the away side alone
away_goals_extent : (cell : Cell) (away : Bool) (goals : GoalRange) → AreGoalsOf cell away goals
    → IsExtent (allows cell) (to_side away_goals away)
    (cond away (record { least = pos goals.least; greatest = pos goals.most }) (one_value (pos 0)))
away_goals_extent cell true own are = goals_extent cell true own are
away_goals_extent cell false own are =
    one_extent (allows cell) (to_side away_goals false) (pos 0) are.least.0 are.least.1
    (λ score is. refl)

-- a win counts as an away win for the away side alone
away_win_extent : (cell : Cell) (away : Bool) (score : Score) → allows cell score ≡ true
    → WinsAll cell away → IsExtent (allows cell) (to_side away_wins away)
    (cond away (one_value (pos 1)) (one_value (pos 0)))
away_win_extent cell true score allowed all_won =
    one_extent (allows cell) (to_side away_wins true) (pos 1) score allowed
    (λ s is. one_away_win s.away s.home (all_won s is))
away_win_extent cell false score allowed all_won =
    one_extent (allows cell) (to_side away_wins false) (pos 0) score allowed (λ s is. refl)

-- what the code gives for a side that has so many points and wins at all scores of a cell
pub record AreEarned (own : GoalRange) (away : Bool) (sums : Sums) (earned won : ℤ)
    (away_won : Range) : Type 0 where
  pub points : as_range sums.points ≡ one_value earned
  pub goals : as_range sums.goals ≡ record { least = pos own.least; greatest = pos own.most }
  pub away_goals : as_range sums.away_goals ≡ cond away
      (record { least = pos own.least; greatest = pos own.most }) (one_value (pos 0))
  pub wins : as_range sums.wins ≡ one_value won
  pub away_wins : as_range sums.away_wins ≡ away_won

earned_sums : (cell : Cell) (away : Bool) (own other : GoalRange) (sums : Sums) (earned won : ℤ)
    (away_won : Range) → IsMatchOf cell away own other
    → AreEarned own away sums earned won away_won
    → ((score : Score) → allows cell score ≡ true → to_side match_points away score ≡ earned)
    → ((score : Score) → allows cell score ≡ true → to_side wins away score ≡ won)
    → IsExtent (allows cell) (to_side away_wins away) away_won
    → IsExtent (allows cell) (to_side goal_difference away) (as_range sums.difference)
    → AreSumsOf cell away sums
earned_sums cell away own other sums earned won away_won match are gives counts away_extent
    difference = sums_from cell away own other sums match extents
  where
    all_are : (worth : Worth) (value : ℤ)
        → ((score : Score) → allows cell score ≡ true → to_side worth away score ≡ value)
        → IsExtent (allows cell) (to_side worth away) (one_value value)
    all_are worth value is =
        one_extent (allows cell) (to_side worth away) value match.own_goals.least.0
        match.own_goals.least.1 is

    extents : (measure : Measure) → IsExtent (allows cell) (to_side (worth_of measure) away)
        (range_by sums measure)
    extents Points = extent_at (allows cell) (to_side match_points away) (as_range sums.points)
        (one_value earned) are.points (all_are match_points earned gives)
    extents Difference = difference
    extents Goals = extent_at (allows cell) (to_side goals away) (as_range sums.goals)
        (record { least = pos own.least; greatest = pos own.most }) are.goals
        (goals_extent cell away own match.own_goals)
    extents AwayGoals = extent_at (allows cell) (to_side away_goals away) (as_range sums.away_goals)
        (cond away (record { least = pos own.least; greatest = pos own.most }) (one_value (pos 0)))
        are.away_goals (away_goals_extent cell away own match.own_goals)
    extents Wins = extent_at (allows cell) (to_side wins away) (as_range sums.wins)
        (one_value won) are.wins (all_are wins won counts)
    extents AwayWins = extent_at (allows cell) (to_side away_wins away) (as_range sums.away_wins)
        away_won are.away_wins away_extent

pub won_sums : (cell : Cell) (away : Bool) (own other : GoalRange) (sums : Sums)
    → IsMatchOf cell away own other → WinsAll cell away
    → IsMargin own other (as_range sums.difference)
    → AreEarned own away sums (pos 3) (pos 1) (cond away (one_value (pos 1)) (one_value (pos 0)))
    → AreSumsOf cell away sums
won_sums cell away own other sums match wins_all margin are =
    earned_sums cell away own other sums (pos 3) (pos 1)
    (cond away (one_value (pos 1)) (one_value (pos 0))) match are
    (λ score is. points_won (goals_by away score) (goals_by (not away) score) away
    (wins_all score is))
    (λ score is. one_win (goals_by away score) (goals_by (not away) score) away
    (wins_all score is))
    (away_win_extent cell away match.own_goals.least.0 match.own_goals.least.1 wins_all)
    (margin_extent cell away own other (as_range sums.difference) wins_all match.own_goals
    match.other_goals margin)

-- a side that wins at no score has no wins
unwon_sums : (cell : Cell) (away : Bool) (own other : GoalRange) (sums : Sums) (earned : ℤ)
    → IsMatchOf cell away own other
    → AreEarned own away sums earned (pos 0) (one_value (pos 0))
    → ((score : Score) → allows cell score ≡ true → to_side match_points away score ≡ earned)
    → ((score : Score) → allows cell score ≡ true
    → goals_by away score ≤ goals_by (not away) score)
    → IsExtent (allows cell) (to_side goal_difference away) (as_range sums.difference)
    → AreSumsOf cell away sums
unwon_sums cell away own other sums earned match are gives no_more difference =
    earned_sums cell away own other sums earned (pos 0) (one_value (pos 0)) match are gives
    (λ score is. no_win (goals_by away score) (goals_by (not away) score) away (no_more score is))
    (one_extent (allows cell) (to_side away_wins away) (pos 0) match.own_goals.least.0
    match.own_goals.least.1 (λ score is. no_away_win (goals_by away score)
    (goals_by (not away) score) away (no_more score is)))
    difference

-- in a draw the other side has the same goals
pub drawn_match : (cell : Cell) (away : Bool) (own : GoalRange) → own.most ≤ 255
    → DrawsAll cell away
    → AreGoalsOf cell away own → IsMatchOf cell away own own
drawn_match cell away own few draws are = record {
  own_goals = are;
  other_goals = record {
    within = λ score is. let between = are.within score is in let level = draws score is
        in (omega arith, omega arith);
    least = (are.least.0, are.least.1, sym (draws are.least.0 are.least.1) ∙ are.least.2);
    most = (are.most.0, are.most.1, sym (draws are.most.0 are.most.1) ∙ are.most.2);
  };
  own_few = few;
  other_few = few;
}

pub drawn_sums : (cell : Cell) (away : Bool) (own other : GoalRange) (sums : Sums)
    → IsMatchOf cell away own other → DrawsAll cell away
    → as_range sums.difference ≡ one_value (pos 0)
    → AreEarned own away sums (pos 1) (pos 0) (one_value (pos 0)) → AreSumsOf cell away sums
drawn_sums cell away own other sums match draws level are =
    unwon_sums cell away own other sums (pos 1) match are
    (λ score is. points_drawn (goals_by away score) (goals_by (not away) score) away
    (draws score is))
    (λ score is. let same = draws score is in omega arith)
    (extent_at (allows cell) (to_side goal_difference away) (as_range sums.difference)
    (one_value (pos 0)) level
    (one_extent (allows cell) (to_side goal_difference away) (pos 0) match.own_goals.least.0
    match.own_goals.least.1 (λ score is. let same = draws score is in omega (arith, ints))))

pub lost_sums : (cell : Cell) (away : Bool) (own other : GoalRange) (sums : Sums) (range : Range)
    → IsMatchOf cell away own other → LosesAll cell away → IsMargin other own range
    → as_range sums.difference ≡ negated range
    → AreEarned own away sums (pos 0) (pos 0) (one_value (pos 0)) → AreSumsOf cell away sums
lost_sums cell away own other sums range match loses margin turned are =
    unwon_sums cell away own other sums (pos 0) match are
    (λ score is. points_lost (goals_by away score) (goals_by (not away) score) away
    (loses score is))
    (λ score is. let below = loses score is in omega arith)
    (extent_at (allows cell) (to_side goal_difference away) (as_range sums.difference)
    (negated range) turned
    (lost_extent cell away own other range loses match.own_goals match.other_goals margin))

-- if no score is open, the match adds nothing
pub none_sums : (cell : Cell) (away : Bool) → IsEmptyCell cell → AreSumsOf cell away no_sums
none_sums cell away empty = record {
  each = λ options is measure. sym (ap (range_of (to_side (worth_of measure) away))
      (no_options cell options is empty) ∙ nothing measure);
  near = near;
}
  where
    nothing : (measure : Measure) → range_of (to_side (worth_of measure) away) []
        ≡ range_by no_sums measure
    nothing Points = refl
    nothing Difference = refl
    nothing Goals = refl
    nothing AwayGoals = refl
    nothing Wins = refl
    nothing AwayWins = refl

    zero : IsRangeNear 255 (one_value (pos 0))
    zero = record {
      least_above = omega (arith, ints);
      least_below = omega (arith, ints);
      greatest_above = omega (arith, ints);
      greatest_below = omega (arith, ints);
    }

    near : (measure : Measure) → IsRangeNear 255 (range_by no_sums measure)
    near Points = zero
    near Difference = zero
    near Goals = zero
    near AwayGoals = zero
    near Wins = zero
    near AwayWins = zero
