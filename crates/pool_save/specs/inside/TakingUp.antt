-- What a pool becomes that goes on from saved trees.
use Rattle.std.specs.Prelude.{◌≡◌, List, Option}
use Rattle.league_core.specs.search.Trees.{Tree}
use Rattle.branch_pool.specs.inside.States.{PoolView}
use Rattle.branch_pool.specs.inside.Adoptions.{pool_adopted}

-- the saved trees are taken up: each question goes on from its own, if it has one, and all else is
-- as before
abbrev pub TakesUp : PoolView → List (Option Tree) → PoolView → Type 0
TakesUp old trees new = new ≡ pool_adopted old trees
