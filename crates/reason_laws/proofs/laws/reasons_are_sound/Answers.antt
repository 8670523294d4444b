use Rattle.reason_laws.proofs.TieLemmas.{reason_says}
use Rattle.reason_laws.proofs.laws.reasons_are_sound.Goals as goal

pub returns : goal.returns
returns c = reason_says
