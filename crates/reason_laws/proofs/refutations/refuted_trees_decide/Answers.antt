use Rattle.reason_laws.proofs.RefutationLemmas.{refutation_shows, refutation_below, refuted_parts}
use Rattle.reason_laws.proofs.RefutationLemmas.{refuted_from}
use Rattle.reason_laws.proofs.refutations.refuted_trees_decide.Goals as goal

pub returns-clause-season : goal.returns-clause-season
returns-clause-season c = refutation_shows

pub returns-clause-zone : goal.returns-clause-zone
returns-clause-zone c = refutation_below

pub returns-clause-reasons : goal.returns-clause-reasons
returns-clause-reasons c = λ sheet season question zone tree. (
  refuted_parts sheet season question tree zone,
  λ both. refuted_from sheet season question tree zone both.0 both.1,
)
