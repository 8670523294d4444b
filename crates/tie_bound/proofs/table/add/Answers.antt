use Rattle.std.proofs.Common.{true, false, arith}
use Rattle.tie_bound.specs.inside.Sums.{sums_at}
use Rattle.tie_bound.proofs.TableLemmas.{wider, side_grows, table_grows}
use Rattle.tie_bound.proofs.table.add.Goals as goal

pub plus-home-requires-clause-other_near : goal.plus-home-requires-clause-other_near
plus-home-requires-clause-other_near c = wider 255 10000000 c.of-sides.result.home (omega arith)
    c.of-sides.ensures.home.near

pub plus-away-requires-clause-other_near : goal.plus-away-requires-clause-other_near
plus-away-requires-clause-other_near c = wider 255 10000000 c.of-sides.result.away (omega arith)
    c.of-sides.ensures.away.near

pub returns : goal.returns
returns c = λ options is.
    let table = c.args.table.now in
    let cell = c.args.cell.now in
    let match = c.args.fixture in
    table_grows table match options c.plus-home.result c.plus-away.result c.requires.different
    c.requires.home c.requires.away
    (side_grows cell false options c.of-sides.result.home (sums_at table match.home)
    c.plus-home.result c.of-sides.ensures.home is c.plus-home.ensures)
    (side_grows cell true options c.of-sides.result.away (sums_at table match.away)
    c.plus-away.result c.of-sides.ensures.away is c.plus-away.ensures)
