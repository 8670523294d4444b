use Rattle.std.proofs.lemmas.Bool.Decides.{Decides-at}
use Rattle.reason_core.proofs.LiteralLemmas.{literals_decided}
use Rattle.branch_rules.proofs.worker.are_same.Goals as goal

pub returns : goal.returns
returns c =
    Decides-at c.eq.result _ c.eq.ensures
    (literals_decided c.args.literal.now c.args.other.now)
