use Rattle.branch_pool.proofs.GoodLemmas.{sound_is_good}
use Rattle.branch_pool.proofs.pool.Pool.example.Goals as goal

pub returns-in-Some-clause-good : goal.returns-in-Some-clause-good
returns-in-Some-clause-good c = rw (← c.self.view_is) (sound_is_good _ c.self.invariant.0)

pub returns-in-None-clause-good : goal.returns-in-None-clause-good
returns-in-None-clause-good c = rw (← c.self.view_is) (sound_is_good _ c.self.invariant.0)
