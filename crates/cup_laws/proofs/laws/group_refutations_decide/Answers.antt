use Rattle.cup_laws.proofs.GroupTruthLemmas.{group_refuted}
use Rattle.cup_laws.proofs.laws.group_refutations_decide.Goals as goal

pub returns : goal.returns
returns c = group_refuted
