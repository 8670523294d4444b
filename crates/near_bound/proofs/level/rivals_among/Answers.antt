use Rattle.std.proofs.Common.{arith}
use Rattle.near_bound.proofs.LevelLemmas.{able_rivals_are, are_rivals}
use Rattle.near_bound.proofs.level.rivals_among.Goals as goal

pub returns-clause-able : goal.returns-clause-able
returns-clause-able c =
    let most = c.requires.tie.left.league.limits.most_clubs in
    able_rivals_are c.args.tie.now c.args.able c.others-others.result c.single.result
    c.intersection.result c.len-clubs.result c.args.club c.len-clubs.ensures
    (omega (arith, most, c.len-clubs.ensures)) c.single.ensures c.others-others.ensures
    c.intersection.ensures c.requires.able

pub returns-clause-rivals : goal.returns-clause-rivals
returns-clause-rivals c =
    are_rivals c.args.tie.now c.args.able c.others-others.result c.single.result
    c.intersection.result c.len-clubs.result c.args.club c.len-clubs.ensures c.requires.in_range
    c.single.ensures c.others-others.ensures c.intersection.ensures
