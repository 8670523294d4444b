use Rattle.runners_up.proofs.SideLawLemmas.{sides_are_refuted}
use Rattle.runners_up.proofs.laws.refuted_sides_are_refuted.Goals as goal

pub returns : goal.returns
returns c = sides_are_refuted
