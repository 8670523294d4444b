use Rattle.branch_pool.proofs.GoodLemmas.{sound_is_good}
use Rattle.branch_pool.proofs.RunLemmas.{steps_are_good}
use Rattle.branch_pool.proofs.laws.pools_stay_good.Goals as goal

pub returns : goal.returns
returns c = record { steps = steps_are_good; sound = sound_is_good }
