-- What becomes of a pool to which events are reported, and nothing else is done.
use Rattle.league_core.specs.declared.season.Event.{Event}
use Rattle.branch_pool.specs.inside.States.{PoolView}
use Rattle.branch_pool.specs.inside.Steps.{Changes}

-- any number of events were reported to the pool, one after another, and nothing else was done
pub data ReportsTo : PoolView → PoolView → Type 0 where
  nothing_reported : (pool : PoolView) → ReportsTo pool pool
  one_report_more : (old between new : PoolView) (event : Event) → ReportsTo old between
      → Changes between event new → ReportsTo old new
