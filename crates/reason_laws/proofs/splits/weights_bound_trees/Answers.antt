use Rattle.reason_laws.proofs.ChoiceLemmas.{root_finishes}
use Rattle.reason_laws.proofs.WeightLemmas.{nodes_below, nodes_below_finishes, spent_below_finishes}
use Rattle.reason_laws.proofs.splits.weights_bound_trees.Goals as goal

pub returns-clause-root : goal.returns-clause-root
returns-clause-root c = root_finishes

pub returns-clause-zone : goal.returns-clause-zone
returns-clause-zone c =
    λ sheet season question zone tree. nodes_below sheet season question tree zone

pub returns-clause-season : goal.returns-clause-season
returns-clause-season c = nodes_below_finishes

pub returns-clause-spent : goal.returns-clause-spent
returns-clause-spent c = spent_below_finishes
