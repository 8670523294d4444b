-- The lent leaves in the list of a tree's nodes.
use Rattle.std.specs.Prelude.{ℕ, Bool, false, ◌==◌}
use Rattle.league_core.specs.declared.tree.TreeNode.{TreeNode}
use Rattle.league_core.specs.declared.tree.TreeNode.TheVariants.{Split, Open, Lent, Refuted}

-- the node is a leaf that is lent under this number
abbrev pub is_lent_node : ℕ → TreeNode → Bool
is_lent_node number Open = false
is_lent_node number (Lent other) = other == number
is_lent_node number (Refuted reason fresh) = false
is_lent_node number (Split test fresh) = false
