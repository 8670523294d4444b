-- A tree lends a number as often as the list of its nodes does, and lends no more leaves than it
-- has nodes.
use Rattle.std.proofs.Common.{◌≡◌, ℕ, ◌+◌, ◌≤◌, Bool, true, false, ◌==◌, cond, ◌++◌}
use Rattle.std.proofs.Common.{refl, arith}
use Rattle.std.specs.List.{count_by}
use Rattle.std.specs.Prelude.{if◌then◌else◌}
use Rattle.std.proofs.lemmas.List.Sums.{sum_by-cons, sum_by-append}
use Rattle.league_core.specs.declared.tree.TreeNode.{TreeNode}
use Rattle.league_core.specs.declared.tree.TreeNode.TheVariants.{Split}
use Rattle.league_core.specs.search.Trees.{Tree, open_leaf, lent_leaf, refuted_leaf, branch}
use Rattle.league_core.specs.search.Trees.{preorder, node_count}
use Rattle.league_core.specs.inside.Lending.{times_lent, lent_count}
use Rattle.tree_tests.specs.inside.LentNodes.{is_lent_node}

-- one leaf counts once or not at all
counted_leaf : (is : Bool) → (if is then 1 else 0) ≡ 0 + cond is 1 0
counted_leaf true = refl
counted_leaf false = refl

-- how often a number is lent
pub counted : (number : ℕ) (tree : Tree)
    → times_lent number tree ≡ count_by (is_lent_node number) (preorder tree)
counted number open_leaf = refl
counted number (lent_leaf other) = counted_leaf (other == number)
counted number (refuted_leaf reason fresh) = refl
counted number (branch test fresh yes_half no_half) =
    let count : TreeNode → ℕ = λ node. cond (is_lent_node number node) 1 0 in
    omega (
      arith,
      counted number yes_half,
      counted number no_half,
      sum_by-cons count (Split test fresh) (preorder yes_half ++ preorder no_half),
      sum_by-append count (preorder yes_half) (preorder no_half),
    )

-- each lent leaf is a node
pub lent_are_nodes : (tree : Tree) → lent_count tree ≤ node_count tree
lent_are_nodes open_leaf = omega arith
lent_are_nodes (lent_leaf number) = omega arith
lent_are_nodes (refuted_leaf reason fresh) = omega arith
lent_are_nodes (branch test fresh yes_half no_half) =
    omega (arith, lent_are_nodes yes_half, lent_are_nodes no_half)
