use Rattle.cup_laws.proofs.ChosenLemmas.{chosen_joint}
use Rattle.cup_laws.proofs.laws.chosen_ends_are_joint.Goals as goal

pub returns : goal.returns
returns c = chosen_joint
