-- The leaves of a tree, each with its zone and its kind.
use Rattle.std.specs.Prelude.{ℕ, Bool, true, false, ◌==◌, List, [], ◌∷◌, ◌++◌}
use Rattle.league_core.specs.declared.zone.Literal.{Literal}
use Rattle.league_core.specs.declared.tree.TreeNode.{TreeNode}
use Rattle.league_core.specs.declared.tree.TreeNode.TheVariants.{Split, Open, Lent, Refuted}
use Rattle.league_core.specs.search.Zones.{with_test}
use Rattle.league_core.specs.search.Trees.{Tree, open_leaf, lent_leaf, refuted_leaf, branch}

-- a leaf as a node, with the zone in which it stands
pub record Leaf : Type 0 where
  pub zone : List Literal
  pub node : TreeNode

-- the leaves of a tree whose root has this zone, the half where a test is true first
abbrev pub leaves_from : List Literal → Tree → List Leaf
leaves_from zone open_leaf = record { zone = zone; node = Open } ∷ []
leaves_from zone (lent_leaf number) = record { zone = zone; node = Lent number } ∷ []
leaves_from zone (refuted_leaf reason fresh) =
    record { zone = zone; node = Refuted reason fresh } ∷ []
leaves_from zone (branch test fresh yes_half no_half) =
    leaves_from (with_test zone test true) yes_half
    ++ leaves_from (with_test zone test false) no_half

-- the leaves of a whole tree
abbrev pub leaves_of : Tree → List Leaf
leaves_of tree = leaves_from [] tree

-- the node is an open leaf
abbrev pub is_open_leaf : TreeNode → Bool
is_open_leaf Open = true
is_open_leaf (Split test fresh) = false
is_open_leaf (Lent number) = false
is_open_leaf (Refuted reason fresh) = false

-- the node is a leaf that is lent under this number
abbrev pub is_lent_under : ℕ → TreeNode → Bool
is_lent_under number (Lent other) = other == number
is_lent_under number Open = false
is_lent_under number (Split test fresh) = false
is_lent_under number (Refuted reason fresh) = false

-- the node is a refuted leaf
abbrev pub is_refuted_leaf : TreeNode → Bool
is_refuted_leaf (Refuted reason fresh) = true
is_refuted_leaf Open = false
is_refuted_leaf (Lent number) = false
is_refuted_leaf (Split test fresh) = false

-- the tree is one leaf
abbrev pub is_leaf : Tree → Bool
is_leaf open_leaf = true
is_leaf (lent_leaf number) = true
is_leaf (refuted_leaf reason fresh) = true
is_leaf (branch test fresh yes_half no_half) = false
