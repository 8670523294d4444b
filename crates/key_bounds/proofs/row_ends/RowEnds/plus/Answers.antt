-- Row by row.
use Rattle.std.proofs.Common.{arith}
use Rattle.league_core.proofs.RangeLemmas.{same_range}
use Rattle.score_box.proofs.TotalLemmas.{near_wider}
use Rattle.key_bounds.proofs.row_ends.RowEnds.plus.Goals as goal

pub with-requires-clause-near : goal.with-requires-clause-near
with-requires-clause-near c = near_wider 1000000 100000000 _ (omega arith) c.requires.near.0

pub with-requires-clause-other_near : goal.with-requires-clause-other_near
with-requires-clause-other_near c =
    near_wider 255 100000000 _ (omega arith) c.requires.other_near.0

pub with-requires-2-clause-near : goal.with-requires-2-clause-near
with-requires-2-clause-near c = near_wider 1000000 100000000 _ (omega arith) c.requires.near.1

pub with-requires-2-clause-other_near : goal.with-requires-2-clause-other_near
with-requires-2-clause-other_near c =
    near_wider 255 100000000 _ (omega arith) c.requires.other_near.1

pub returns : goal.returns
returns c = λ column. same_range _ _ (c.with.ensures column) (c.with-2.ensures column)
