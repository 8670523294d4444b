use Rattle.std.proofs.Common.{pos, arith}
use Rattle.score_box.specs.inside.Cells.{allows}
use Rattle.key_bounds.specs.inside.RowEnds.{totals_row}
use Rattle.key_bounds.proofs.RowLemmas.{drawn_ends, ends_at}
use Rattle.key_bounds.proofs.goal_ends.drawn.Goals as goal

pub returns : goal.returns
returns c = λ cell draws are.
    ends_at (allows cell) c.args.away c.row.result c.row-2.result
    (totals_row (pos 1) (pos 0) c.args.own.least (pos 0) c.args.away)
    (totals_row (pos 1) (pos 0) c.args.own.most (pos 0) c.args.away) c.row.ensures c.row-2.ensures
    (drawn_ends cell c.args.away c.args.own draws are (omega arith))
