-- Trees of cases whose reasons are a season's, as trees of zones.
use Rattle.std.specs.Prelude.{true}
use Rattle.league_core.specs.declared.tree.TreeNode.{TreeNode}
use Rattle.league_core.specs.declared.tree.TreeNode.TheVariants as tree_node
use Rattle.league_core.specs.declared.zone.Reason.{Reason}
use Rattle.league_core.specs.search.Trees.{Tree, open_leaf, refuted_leaf, branch}
use Rattle.depth_search.specs.declared.kind.CaseNode.{CaseNode}
use Rattle.depth_search.specs.declared.kind.CaseNode.TheVariants as node
use Rattle.depth_search.specs.inside.Cases.{Cases, left_open, refuted, split}

-- the tree of zones with these cases, all of whose splits and refuted leaves are new
abbrev pub new_tree : Cases Reason → Tree
new_tree left_open = open_leaf
new_tree (refuted reason) = refuted_leaf reason true
new_tree (split test yes_half no_half) = branch test true (new_tree yes_half) (new_tree no_half)

-- a node of it
abbrev pub new_node : CaseNode Reason → TreeNode
new_node (node.Split test) = tree_node.Split test true
new_node (node.Refuted reason) = tree_node.Refuted reason true
new_node node.Open = tree_node.Open
