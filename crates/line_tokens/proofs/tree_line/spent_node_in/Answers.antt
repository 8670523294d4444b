use Rattle.std.proofs.Common.{◌∙◌, sym}
use Rattle.line_tokens.proofs.NodeLemmas.{spent_node_found}
use Rattle.line_tokens.proofs.tree_line.spent_node_in.Goals as goal

pub returns-then-begins_proof : goal.returns-then-begins_proof
returns-then-begins_proof c =
    spent_node_found c.args.text.now c.node_in_line.result
    (sym c.begins_proof.ensures ∙ c.if-begins_proof.true) c.node_in_line.ensures
