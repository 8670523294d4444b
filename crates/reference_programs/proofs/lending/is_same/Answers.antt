-- Equal lists of literals are the same list.
use Rattle.std.proofs.lemmas.Slice.Eq.{slice_eq-Decides}
use Rattle.reason_core.proofs.LiteralLemmas.{literals_decided}
use Rattle.reference_programs.proofs.lending.is_same.Goals as goal

pub returns : goal.returns
returns c =
    slice_eq-Decides literals_decided c.args.way.now c.args.zone.now c.eq.result c.eq.ensures
