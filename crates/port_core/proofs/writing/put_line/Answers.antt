use Rattle.std.proofs.Common.{◌∙◌}
use Rattle.std.proofs.lemmas.List.{take_rest}
use Rattle.port_core.proofs.RowLemmas.{Writes-more, AppendsPrefix-take}
use Rattle.port_core.proofs.writing.put_line.Goals as goal

pub offers-preserved : goal.offers-preserved
offers-preserved g c =
    let more =
    Writes-more _ _ _ c.args.line.now _ c.offers.done c.in-Took.count c.offers.invariant.0
    c.offers.invariant.1 (take_rest c.args.line.now c.offers.done) c.in-Took.ensures.bytes in
    (more.0, more.1, c.in-Took.ensures.cause ∙ c.offers.invariant.2)

pub returns-in-Failed-clause-err : goal.returns-in-Failed-clause-err
returns-in-Failed-clause-err g c =
    AppendsPrefix-take _ _ _ c.args.line.now c.offers.done c.offers.invariant.1
    c.in-Failed.ensures.bytes
