use Rattle.reason_laws.proofs.HalfMarkLemmas.{proper_trees}
use Rattle.reason_laws.proofs.splits.proper_trees_name_rivals.Goals as goal

pub returns : goal.returns
returns c = proper_trees
