-- Work in turns is made of a pool's steps. The statement is the contract of a function of
-- src/work_laws.rt that does nothing.
use Rattle.branch_pool.specs.inside.States.{PoolView}
use Rattle.branch_pool.specs.inside.Runs.{ComesByWork}
use Rattle.verdict_run.specs.inside.Working.{WorksTo}

-- whatever turns lead from a pool to another, steps that take and give lead there too, and nothing
-- is reported, recalled or adopted meanwhile
abbrev pub TurnsAreSteps : Type 0
TurnsAreSteps = (old new : PoolView) → WorksTo old new → ComesByWork old new
