use Rattle.std.proofs.Common.{◌<◌, length, arith}
use Rattle.pool_tests.proofs.AdoptedLemmas.{taken_asked}
use Rattle.pool_tests.proofs.adopted.first_tree.Goals as goal

pub returns : goal.returns
returns c =
    let below : 0 < length c.into_seats-seats.result.items = grind arith in
    taken_asked c.args.pool c.into_seats-seats.result.items 0 c.remove-seat.result
    c.tree_of-tree.result c.into_seats-seats.ensures.sound c.into_seats-seats.ensures.seats below
    c.remove-seat.ensures.value c.tree_of-tree.ensures
