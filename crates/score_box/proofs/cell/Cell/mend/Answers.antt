-- The outcomes that are kept are those that the cell has a score of.
use Rattle.score_box.proofs.LeftLemmas.{mended_exact}
use Rattle.score_box.proofs.cell.Cell.mend.Goals as goal

pub returns-clause-exact : goal.returns-clause-exact
returns-clause-exact c = mended_exact c.args.self.now c.of-left.result c.of-left.ensures
