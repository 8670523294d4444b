use Rattle.std.proofs.Common.{refl, ap, codes}
use Rattle.league_core.specs.declared.zone.Reason.TheVariants.{Count}
use Rattle.cert_text.specs.inside.PlainForms.{next_named}
use Rattle.cert_text.proofs.PlainFormLemmas.{bare_at_end}
use Rattle.cert_text.proofs.plain_node.count.Goals as goal

pub returns-then-is_all : goal.returns-then-is_all
returns-then-is_all c =
    bare_at_end Count _ (next_named (codes "count") c.args.text.now) refl refl refl refl
    (ap (next_named (codes "count")) (c.is_all.ensures c.if-is_all.true))
