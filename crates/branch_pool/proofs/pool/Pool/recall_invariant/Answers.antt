use Rattle.branch_pool.proofs.GoodLemmas.{sound_is_good}
use Rattle.branch_pool.proofs.pool.Pool.recall_invariant.Goals as goal

pub returns-clause-good : goal.returns-clause-good
returns-clause-good c = rw (← c.self.view_is) (sound_is_good _ c.self.invariant.0)
