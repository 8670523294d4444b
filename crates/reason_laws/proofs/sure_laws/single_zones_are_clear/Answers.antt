use Rattle.reason_laws.proofs.SingleLemmas.{order_clear, order_is}
use Rattle.reason_laws.proofs.sure_laws.single_zones_are_clear.Goals as goal

pub returns-clause-known : goal.returns-clause-known
returns-clause-known c = order_clear

pub returns-clause-ranked : goal.returns-clause-ranked
returns-clause-ranked c = order_is
