use Rattle.score_box.proofs.CellLemmas.{draws_range}
use Rattle.score_box.proofs.cell.Cell.draws.Goals as goal

pub returns-then-least-most-clause-goals : goal.returns-then-least-most-clause-goals
returns-then-least-most-clause-goals c =
    draws_range c.args.self.now c.max-least.result c.min-most.result c.if-self.true
    c.if-least-most.true c.max-least.ensures c.min-most.ensures
