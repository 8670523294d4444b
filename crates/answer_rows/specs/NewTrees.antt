-- Trees that were made in one epoch.
use Rattle.std.specs.Prelude.{Bool, true, ◌&&◌}
use Rattle.league_core.specs.declared.tree.TreeNode.{TreeNode}
use Rattle.league_core.specs.declared.tree.TreeNode.TheVariants.{Split, Open, Lent, Refuted}
use Rattle.league_core.specs.search.Trees.{Tree, open_leaf, lent_leaf, refuted_leaf, branch}

-- each split and each refuted leaf of the tree is marked new, so that all of it was made in the
-- present epoch
abbrev pub is_all_new : Tree → Bool
is_all_new open_leaf = true
is_all_new (lent_leaf number) = true
is_all_new (refuted_leaf reason fresh) = fresh
is_all_new (branch test fresh yes_half no_half) =
    fresh && is_all_new yes_half && is_all_new no_half

-- the node is no split and no refuted leaf of an earlier epoch
abbrev pub is_not_old : TreeNode → Bool
is_not_old (Split test fresh) = fresh
is_not_old Open = true
is_not_old (Lent number) = true
is_not_old (Refuted reason fresh) = fresh
