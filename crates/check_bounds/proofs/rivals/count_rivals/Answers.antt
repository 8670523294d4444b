use Rattle.std.proofs.Common.{◌∙◌, arith}
use Rattle.check_bounds.proofs.RivalLemmas.{count_rivals-is}
use Rattle.check_bounds.proofs.rivals.count_rivals.Goals as goal

pub returns : goal.returns
returns c =
    c.len.ensures
    ∙ count_rivals-is c.args.clubs c.args.club c.intersection.result.bits c.args.chosen.bits
    c.without.result.bits c.first.result.bits c.single.result.bits (omega (arith, c.requires.few))
    c.first.ensures c.single.ensures c.without.ensures c.intersection.ensures
