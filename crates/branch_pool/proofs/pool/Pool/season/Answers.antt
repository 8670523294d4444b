use Rattle.branch_pool.proofs.GoodLemmas.{sound_season}
use Rattle.branch_pool.proofs.pool.Pool.season.Goals as goal

pub returns-clause-of_sheet : goal.returns-clause-of_sheet
returns-clause-of_sheet c = rw (← c.self.view_is) (sound_season _ c.self.invariant.0)
