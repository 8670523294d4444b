use Rattle.score_box.proofs.CellLemmas.{away_wins_range}
use Rattle.score_box.proofs.cell.Cell.away_wins.Goals as goal

pub returns-then-self-4-clause-goals : goal.returns-then-self-4-clause-goals
returns-then-self-4-clause-goals c =
    away_wins_range c.args.self.now c.max.result c.min.result c.if-self.true c.if-self-2.true
    c.if-self-3.true c.if-self-4.true c.min.ensures c.max.ensures
