use Rattle.std.proofs.Common.{arith}
use Rattle.near_bound.proofs.MarginLemmas.{within_gap, margin_wider}
use Rattle.near_bound.proofs.margin.margin_at.Goals as goal

pub less-requires-clause-near : goal.less-requires-clause-near
less-requires-clause-near c =
    margin_wider 255 100000000 c.worth_to.result (omega arith) c.worth_to.ensures.near

pub less-requires-clause-other_near : goal.less-requires-clause-other_near
less-requires-clause-other_near c =
    margin_wider 255 100000000 c.worth_to-2.result (omega arith) c.worth_to-2.ensures.near

pub returns-clause-near : goal.returns-clause-near
returns-clause-near c =
    let near = c.worth_to.ensures.near in
    let also = c.worth_to-2.ensures.near in record {
      points = within_gap 255 255 _ _ _ c.less.ensures.points near.points also.points;
      difference = within_gap 255 255 _ _ _ c.less.ensures.difference near.difference
          also.difference;
      goals = within_gap 255 255 _ _ _ c.less.ensures.goals near.goals also.goals;
      away_goals = within_gap 255 255 _ _ _ c.less.ensures.away_goals near.away_goals
          also.away_goals;
      wins = within_gap 255 255 _ _ _ c.less.ensures.wins near.wins also.wins;
      away_wins = within_gap 255 255 _ _ _ c.less.ensures.away_wins near.away_wins also.away_wins;
    }
