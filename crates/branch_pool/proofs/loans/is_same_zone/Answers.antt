-- Equal lists of literals are the same list.
use Rattle.std.proofs.lemmas.Slice.Eq.{slice_eq-Decides}
use Rattle.reason_core.proofs.LiteralLemmas.{literals_decided}
use Rattle.branch_pool.proofs.loans.is_same_zone.Goals as goal

pub returns : goal.returns
returns c =
    slice_eq-Decides literals_decided c.args.literals.now c.args.others.now c.eq.result c.eq.ensures
