use Rattle.cert_text.proofs.PlainFormLemmas.{low_at_end}
use Rattle.cert_text.proofs.plain_node.low.Goals as goal

pub returns : goal.returns
returns c = low_at_end c.args.text.now c.in_ok-set.set c.in_ok-set.ensures
