-- How many leaves of a tree are open.
use Rattle.std.specs.Prelude.{ℕ, ◌+◌}
use Rattle.league_core.specs.search.Trees.{Tree, open_leaf, lent_leaf, refuted_leaf, branch}

-- how many leaves no one has worked on, nor works on
abbrev pub open_count : Tree → ℕ
open_count open_leaf = 1
open_count (lent_leaf number) = 0
open_count (refuted_leaf reason fresh) = 0
open_count (branch test fresh yes_half no_half) = open_count yes_half + open_count no_half
