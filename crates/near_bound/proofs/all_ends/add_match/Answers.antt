use Rattle.std.proofs.Common.{arith}
use Rattle.near_bound.proofs.AllEndsLemmas.{adds_match}
use Rattle.near_bound.proofs.all_ends.add_match.Goals as goal

pub returns : goal.returns
returns c =
    adds_match c.args.left.now c.args.fixture c.args.won.now c.plus-home.result c.plus-away.result
    c.points_left.result c.points_left-2.result (omega arith)
    c.requires.home c.requires.away c.requires.apart
    (record { within = c.points_left.ensures.within; range = c.points_left.ensures.range })
    (record { within = c.points_left-2.ensures.within; range = c.points_left-2.ensures.range })
    (record { least = c.plus-home.ensures.least; most = c.plus-home.ensures.most })
    (record { least = c.plus-away.ensures.least; most = c.plus-away.ensures.most })
