use Rattle.std.proofs.Common.{cond, ap, ◌∙◌, pos, arith}
use Rattle.league_core.specs.search.PointRanges.{Range, one_value}
use Rattle.tie_bound.specs.declared.sums.Sums.{Sums}
use Rattle.tie_bound.specs.inside.IntRanges.{as_range}
use Rattle.tie_bound.proofs.SideLemmas.{lost_sums}
use Rattle.tie_bound.proofs.sides.lost.Goals as goal

pub returns : goal.returns
returns c = λ cell loses own other.
    let away = c.args.away in
    let sums : Sums = record {
      points = c.only.result;
      difference = c.negated.result;
      goals =
          c.as_int_range.result;
      away_goals = c.only_if.result;
      wins = c.only-2.result;
      away_wins =
          c.only-3.result;
    } in
    lost_sums cell away c.args.own c.args.other sums (as_range c.margin.result)
    (record {
      own_goals = own;
      other_goals = other;
      own_few = omega arith;
      other_few = omega arith;
    })
    loses c.margin.ensures c.negated.ensures
    (record {
      points = c.only.ensures;
      goals = c.as_int_range.ensures;
      away_goals = c.only_if.ensures ∙ ap (λ (r : Range). cond away r (one_value (pos 0)))
          c.as_int_range-2.ensures;
      wins = c.only-2.ensures;
      away_wins = c.only-3.ensures;
    })
