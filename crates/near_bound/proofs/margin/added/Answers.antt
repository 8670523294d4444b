use Rattle.std.proofs.Common.{Option, subst}
use Rattle.near_bound.specs.declared.margin.Margin.{Margin}
use Rattle.near_bound.specs.inside.Margins.{IsLeadWithin}
use Rattle.near_bound.proofs.MarginLemmas.{within_sum}
use Rattle.near_bound.proofs.margin.added.Goals as goal

pub returns-in-Some-other-clause-near : goal.returns-in-Some-other-clause-near
returns-in-Some-other-clause-near c = λ bound more lead_near other_near.
    let near = subst (λ (lead : Option Margin). IsLeadWithin bound lead) c.in-Some.is lead_near in
    let also = subst (λ (lead : Option Margin). IsLeadWithin more lead) c.in-Some-other.is
    other_near
    in record {
      points = within_sum bound more _ _ _ c.plus.ensures.points near.points also.points;
      difference = within_sum bound more _ _ _ c.plus.ensures.difference near.difference
          also.difference;
      goals = within_sum bound more _ _ _ c.plus.ensures.goals near.goals also.goals;
      away_goals = within_sum bound more _ _ _ c.plus.ensures.away_goals near.away_goals
          also.away_goals;
      wins = within_sum bound more _ _ _ c.plus.ensures.wins near.wins also.wins;
      away_wins = within_sum bound more _ _ _ c.plus.ensures.away_wins near.away_wins
          also.away_wins;
    }
