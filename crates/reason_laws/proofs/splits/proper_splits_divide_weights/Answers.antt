use Rattle.reason_laws.proofs.WeightLemmas.{weights_divided, halves_weigh_less}
use Rattle.reason_laws.proofs.splits.proper_splits_divide_weights.Goals as goal

pub returns-clause-divided : goal.returns-clause-divided
returns-clause-divided c = weights_divided

pub returns-clause-less : goal.returns-clause-less
returns-clause-less c = halves_weigh_less
