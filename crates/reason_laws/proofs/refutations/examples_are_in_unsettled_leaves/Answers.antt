use Rattle.reason_laws.proofs.RefutationLemmas.{example_unsettled}
use Rattle.reason_laws.proofs.refutations.examples_are_in_unsettled_leaves.Goals as goal

pub returns : goal.returns
returns c = λ sheet season question zone tree. example_unsettled sheet season question tree zone
