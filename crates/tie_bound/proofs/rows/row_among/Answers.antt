use Rattle.std.proofs.Common.{arith}
use Rattle.league_core.specs.game.Sums.{worth_among}
use Rattle.league_core.specs.game.ClubSets.{clubs_in}
use Rattle.tie_bound.proofs.RowLemmas.{row_of_totals}
use Rattle.tie_bound.proofs.rows.row_among.Goals as goal

pub returns : goal.returns
returns c =
    let box = c.args.zone_box.now in
    row_of_totals (worth_among (clubs_in c.args.group)) box.sheet.fixtures box.season.scores
    c.args.club 5000000 c.totals_among.result c.only.result (omega arith) c.only.ensures
    c.totals_among.ensures.sums c.totals_among.ensures.near
