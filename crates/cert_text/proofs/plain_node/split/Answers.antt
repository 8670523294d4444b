use Rattle.cert_text.proofs.PlainFormLemmas.{node_split}
use Rattle.cert_text.proofs.plain_node.split.Goals as goal

pub returns : goal.returns
returns c = node_split c.args.fresh c.in_ok-test.test c.args.text.now c.in_ok-test.ensures
