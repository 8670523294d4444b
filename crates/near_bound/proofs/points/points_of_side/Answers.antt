use Rattle.std.proofs.Common.{◌≡◌, Bool, true, false, sym, subst}
use Rattle.league_core.specs.search.PointRanges.{range_of}
use Rattle.near_bound.specs.inside.Points.{range_of_ends, side_points}
use Rattle.near_bound.proofs.OutcomeLemmas.{home_given, away_given}
use Rattle.near_bound.proofs.GivenPointLemmas.{given_range, given_within}
use Rattle.near_bound.proofs.points.points_of_side.Goals as goal

pub returns-then-away-clause-range : goal.returns-then-away-clause-range
returns-then-away-clause-range c = λ options left_of.
    let left = c.args.left.now in
    let won = c.has_away_win in
    let drawn = c.has_draw in
    let lost = c.has_home_win in
    let ends = c.ends_given in
    subst (λ (away : Bool). range_of_ends ends.result ≡ range_of (side_points away) options)
    (sym c.if-away.true)
    (given_range left true won.result drawn.result lost.result options ends.result
    (away_given left won.result drawn.result lost.result won.ensures drawn.ensures lost.ensures)
    ends.ensures.least ends.ensures.most left_of)

pub returns-then-away-clause-within : goal.returns-then-away-clause-within
returns-then-away-clause-within c =
    let ends = c.ends_given in
    given_within c.has_away_win.result c.has_draw.result
    c.has_home_win.result ends.result ends.ensures.least ends.ensures.most

pub returns-else-away-clause-range : goal.returns-else-away-clause-range
returns-else-away-clause-range c = λ options left_of.
    let left = c.args.left.now in
    let won = c.has_home_win-else-away in
    let drawn = c.has_draw-else-away in
    let lost = c.has_away_win-else-away in
    let ends = c.ends_given-else-away in
    subst (λ (away : Bool). range_of_ends ends.result ≡ range_of (side_points away) options)
    (sym c.if-away.false)
    (given_range left false won.result drawn.result lost.result options ends.result
    (home_given left won.result drawn.result lost.result won.ensures drawn.ensures lost.ensures)
    ends.ensures.least ends.ensures.most left_of)

pub returns-else-away-clause-within : goal.returns-else-away-clause-within
returns-else-away-clause-within c =
    let ends = c.ends_given-else-away in
    given_within c.has_home_win-else-away.result c.has_draw-else-away.result
    c.has_away_win-else-away.result ends.result ends.ensures.least ends.ensures.most
