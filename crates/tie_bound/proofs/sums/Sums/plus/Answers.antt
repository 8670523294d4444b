-- Each sum by itself.
use Rattle.std.proofs.Common.{◌≡◌}
use Rattle.tie_criteria.specs.declared.measure.Measure.TheVariants.{Points, Difference, Goals}
use Rattle.tie_criteria.specs.declared.measure.Measure.TheVariants.{AwayGoals, Wins, AwayWins}
use Rattle.tie_criteria.proofs.SumLemmas.{each_measure}
use Rattle.league_core.specs.search.PointRanges.{added}
use Rattle.tie_bound.specs.declared.sums.Sums.{Sums}
use Rattle.tie_bound.specs.inside.Sums.{range_by}
use Rattle.tie_bound.proofs.sums.Sums.plus.Goals as goal

pub plus-requires-clause-near : goal.plus-requires-clause-near
plus-requires-clause-near c = c.requires.near Points

pub plus-requires-clause-other_near : goal.plus-requires-clause-other_near
plus-requires-clause-other_near c = c.requires.other_near Points

pub plus-requires-2-clause-near : goal.plus-requires-2-clause-near
plus-requires-2-clause-near c = c.requires.near Difference

pub plus-requires-2-clause-other_near : goal.plus-requires-2-clause-other_near
plus-requires-2-clause-other_near c = c.requires.other_near Difference

pub plus-requires-3-clause-near : goal.plus-requires-3-clause-near
plus-requires-3-clause-near c = c.requires.near Goals

pub plus-requires-3-clause-other_near : goal.plus-requires-3-clause-other_near
plus-requires-3-clause-other_near c = c.requires.other_near Goals

pub plus-requires-4-clause-near : goal.plus-requires-4-clause-near
plus-requires-4-clause-near c = c.requires.near AwayGoals

pub plus-requires-4-clause-other_near : goal.plus-requires-4-clause-other_near
plus-requires-4-clause-other_near c = c.requires.other_near AwayGoals

pub plus-requires-5-clause-near : goal.plus-requires-5-clause-near
plus-requires-5-clause-near c = c.requires.near Wins

pub plus-requires-5-clause-other_near : goal.plus-requires-5-clause-other_near
plus-requires-5-clause-other_near c = c.requires.other_near Wins

pub plus-requires-6-clause-near : goal.plus-requires-6-clause-near
plus-requires-6-clause-near c = c.requires.near AwayWins

pub plus-requires-6-clause-other_near : goal.plus-requires-6-clause-other_near
plus-requires-6-clause-other_near c = c.requires.other_near AwayWins

pub returns : goal.returns
returns c =
    let sums : Sums = record {
      points = c.plus.result;
      difference = c.plus-2.result;
      goals =
          c.plus-3.result;
      away_goals = c.plus-4.result;
      wins = c.plus-5.result;
      away_wins =
          c.plus-6.result;
    } in
    each_measure (λ measure. range_by sums measure ≡ added (range_by c.args.self.now measure)
    (range_by c.args.other.now measure))
    c.plus.ensures c.plus-2.ensures c.plus-3.ensures c.plus-4.ensures c.plus-5.ensures
    c.plus-6.ensures
