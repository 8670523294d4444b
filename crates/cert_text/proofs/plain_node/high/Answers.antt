use Rattle.cert_text.proofs.PlainFormLemmas.{high_at_end}
use Rattle.cert_text.proofs.plain_node.high.Goals as goal

pub returns : goal.returns
returns c = high_at_end c.args.text.now c.in_ok-set.set c.in_ok-set.ensures
