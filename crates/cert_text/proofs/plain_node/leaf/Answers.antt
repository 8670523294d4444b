use Rattle.cert_text.proofs.PlainFormLemmas.{node_leaf}
use Rattle.cert_text.proofs.plain_node.leaf.Goals as goal

pub returns : goal.returns
returns c = node_leaf c.args.fresh c.in_ok-reason.reason c.args.text.now c.in_ok-reason.ensures
