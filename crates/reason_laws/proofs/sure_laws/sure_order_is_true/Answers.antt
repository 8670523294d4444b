use Rattle.reason_laws.proofs.SureOrderLemmas.{above_is, below_is, level_is}
use Rattle.reason_laws.proofs.sure_laws.sure_order_is_true.Goals as goal

pub returns-clause-above : goal.returns-clause-above
returns-clause-above c = above_is

pub returns-clause-below : goal.returns-clause-below
returns-clause-below c = below_is

pub returns-clause-level : goal.returns-clause-level
returns-clause-level c = level_is
