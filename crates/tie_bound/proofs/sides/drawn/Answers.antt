use Rattle.std.proofs.Common.{cond, ap, ◌∙◌, pos, arith}
use Rattle.league_core.specs.search.PointRanges.{Range, one_value}
use Rattle.tie_bound.specs.declared.sums.Sums.{Sums}
use Rattle.tie_bound.proofs.SideLemmas.{drawn_match, drawn_sums}
use Rattle.tie_bound.proofs.sides.drawn.Goals as goal

pub returns : goal.returns
returns c = λ cell draws own.
    let away = c.args.away in
    let sums : Sums = record {
      points = c.only.result;
      difference = c.only-2.result;
      goals =
          c.as_int_range.result;
      away_goals = c.only_if.result;
      wins = c.only-3.result;
      away_wins =
          c.only-4.result;
    } in
    drawn_sums cell away c.args.own c.args.own sums
    (drawn_match cell away c.args.own (omega arith) draws own)
    draws c.only-2.ensures
    (record {
      points = c.only.ensures;
      goals = c.as_int_range.ensures;
      away_goals = c.only_if.ensures ∙ ap (λ (r : Range). cond away r (one_value (pos 0)))
          c.as_int_range-2.ensures;
      wins = c.only-3.ensures;
      away_wins = c.only-4.ensures;
    })
