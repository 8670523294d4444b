use Rattle.std.proofs.Common.{refl, ap, false, codes}
use Rattle.cert_text.specs.declared.proof_line.ProofLine.TheVariants as line
use Rattle.cert_text.specs.inside.PlainForms.{node_named}
use Rattle.cert_text.proofs.PlainFormLemmas.{line_in-own}
use Rattle.cert_text.proofs.plain_node.open_leaf.Goals as goal

pub returns-then-is_all : goal.returns-then-is_all
returns-then-is_all c =
    line_in-own line.OpenLeaf (node_named false (codes "open") c.args.text.now) refl refl
    (ap (node_named false (codes "open")) (c.is_all.ensures c.if-is_all.true))
