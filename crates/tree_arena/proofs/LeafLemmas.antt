-- Trees of one node.
use Rattle.std.proofs.Common.{◌≡◌, ◌≤◌, true, refl, arith}
use Rattle.std.proofs.lemmas.Bool.{false≢true}
use Rattle.league_core.specs.search.Trees.{Tree, open_leaf, lent_leaf, refuted_leaf, branch}
use Rattle.league_core.specs.search.Trees.{node_count, has_open}

-- a tree has a node
pub node_count-some : (tree : Tree) → 1 ≤ node_count tree
node_count-some open_leaf = omega arith
node_count-some (lent_leaf number) = omega arith
node_count-some (refuted_leaf reason fresh) = omega arith
node_count-some (branch test fresh yes_half no_half) = omega arith

-- a tree of one node that has an open leaf is one
pub open_leaf_is : (tree : Tree) → node_count tree ≡ 1 → has_open tree ≡ true → tree ≡ open_leaf
open_leaf_is open_leaf one some = refl
open_leaf_is (lent_leaf number) one some = absurd (false≢true some)
open_leaf_is (refuted_leaf reason fresh) one some = absurd (false≢true some)
open_leaf_is (branch test fresh yes_half no_half) one some =
    let first = node_count-some yes_half in
    let second = node_count-some no_half in
    absurd (omega arith)
