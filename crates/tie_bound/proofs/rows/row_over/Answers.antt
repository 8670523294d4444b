use Rattle.std.proofs.Common.{arith}
use Rattle.league_core.specs.game.Sums.{worth_to}
use Rattle.tie_bound.proofs.RowLemmas.{row_of_totals}
use Rattle.tie_bound.proofs.rows.row_over.Goals as goal

pub returns : goal.returns
returns c =
    let box = c.args.zone_box.now in
    row_of_totals worth_to box.sheet.fixtures box.season.scores c.args.club 153000 c.totals.result
    c.only.result (omega arith) c.only.ensures c.totals.ensures.sums c.totals.ensures.near
