-- What a look at the first node of a tree tells of it, among the trees below all nodes.
use Rattle.std.specs.Prelude.{ℕ, suc, ◌+◌, List, slice_index_or}
use Rattle.league_core.specs.declared.tree.TreeNode.{TreeNode}
use Rattle.league_core.specs.declared.tree.TreeNode.TheVariants.{Open as open_node}
use Rattle.league_core.specs.declared.tree.TreeNode.TheVariants.{Lent as lent_node}
use Rattle.league_core.specs.declared.tree.TreeNode.TheVariants.{Refuted as refuted_node}
use Rattle.league_core.specs.declared.tree.TreeNode.TheVariants.{Split as split_node}
use Rattle.league_core.specs.search.Trees.{Tree, open_leaf, lent_leaf, refuted_leaf, branch}
use Rattle.tree_arena.specs.declared.node.Kind.{Kind}
use Rattle.tree_arena.specs.declared.node.Kind.TheVariants.{Open, Lent, Refuted, Split}
use Rattle.tree_arena.specs.declared.subtrees.Look.{Look}

-- the tree under a number
abbrev pub subtree_at : List Tree → ℕ → Tree
subtree_at trees at = slice_index_or trees at open_leaf

-- the tree with this first node, over two halves if it is a split
abbrev pub tree_over : TreeNode → Tree → Tree → Tree
tree_over open_node yes_half no_half = open_leaf
tree_over (lent_node number) yes_half no_half = lent_leaf number
tree_over (refuted_node reason fresh) yes_half no_half = refuted_leaf reason fresh
tree_over (split_node test fresh) yes_half no_half = branch test fresh yes_half no_half

-- the tree of which this is a look at the first node
abbrev pub seen_by : List Tree → Look → Tree
seen_by trees look =
    tree_over look.node (subtree_at trees look.yes_half) (subtree_at trees look.no_half)

-- the look at a node of the arena
abbrev pub look_under : Kind → ℕ → Look
look_under Open at = record { node = open_node; yes_half = at; no_half = at }
look_under (Lent number) at = record { node = lent_node number; yes_half = at; no_half = at }
look_under (Refuted reason fresh) at =
    record { node = refuted_node reason fresh; yes_half = at; no_half = at }
look_under (Split test fresh half) at = record {
  node = split_node test fresh;
  yes_half = suc (at + half);
  no_half = suc (suc (at + half));
}
