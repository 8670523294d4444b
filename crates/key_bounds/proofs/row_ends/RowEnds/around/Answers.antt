-- Row by row.
use Rattle.league_core.proofs.RangeLemmas.{same_range}
use Rattle.key_bounds.proofs.row_ends.RowEnds.around.Goals as goal

pub returns : goal.returns
returns c = λ column. same_range _ _ (c.lesser.ensures column) (c.greater.ensures column)
