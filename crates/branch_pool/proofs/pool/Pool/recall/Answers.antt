use Rattle.branch_pool.specs.inside.Views.{state_of}
use Rattle.branch_pool.proofs.FromLemmas.{work_from_start}
use Rattle.branch_pool.proofs.StepLemmas.{recalled_sound}
use Rattle.branch_pool.proofs.pool.Pool.recall.Goals as goal

pub invariant_of-self : goal.invariant_of-self
invariant_of-self c = (
  rw (c.recall_seats.ensures, c.new.ensures)
      (recalled_sound (state_of c.self.inside) c.self.invariant.0),
  work_from_start _ _,
)
