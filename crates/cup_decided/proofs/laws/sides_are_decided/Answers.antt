use Rattle.cup_decided.proofs.SideDecidedLemmas.{side_decided}
use Rattle.cup_decided.proofs.laws.sides_are_decided.Goals as goal

pub returns : goal.returns
returns c = side_decided
