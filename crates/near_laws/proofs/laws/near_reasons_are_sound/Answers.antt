use Rattle.near_laws.proofs.NearLemmas.{near_says}
use Rattle.near_laws.proofs.laws.near_reasons_are_sound.Goals as goal

pub returns : goal.returns
returns c = near_says
