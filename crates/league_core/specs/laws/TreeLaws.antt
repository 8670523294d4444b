-- What holds of trees by the definitions alone, of their nodes, their leaves and their lists: each
-- statement is the contract of a function of src/tree_laws.rt that does nothing.
use Rattle.std.specs.Prelude.{◌≡◌, ◌↔◌, ◌≤◌, ◌+◌, ◌*◌, ℕ, Bool, IsTrue, List, length, map, filter}
use Rattle.std.specs.Prelude.{All, Some, None}
use Rattle.std.specs.List.{list_any, list_all}
use Rattle.league_core.specs.declared.zone.Literal.{Literal}
use Rattle.league_core.specs.declared.tree.TreeNode.{TreeNode}
use Rattle.league_core.specs.search.Trees.{Tree, zones_from, preorder, node_count, NodesMeet}
use Rattle.league_core.specs.search.Trees.{new_count, has_open, is_refuted}
use Rattle.league_core.specs.inside.Leaves.{Leaf, leaves_from, is_open_leaf, is_lent_under}
use Rattle.league_core.specs.inside.Leaves.{is_refuted_leaf}
use Rattle.league_core.specs.inside.Lending.{lent_zones}
use Rattle.league_core.specs.search.TreeLists.{tree_of}

-- the zones of a tree are those of its leaves
abbrev pub ZonesAreOfLeaves : Type 0
ZonesAreOfLeaves =
    (tree : Tree) (zone : List Literal)
    → map (λ (leaf : Leaf). leaf.zone) (leaves_from zone tree) ≡ zones_from zone tree

-- the zones lent under a number are those of the leaves that are lent under it
abbrev pub LentZonesAreOfLeaves : Type 0
LentZonesAreOfLeaves =
    (number : ℕ) (tree : Tree) (zone : List Literal)
    → lent_zones number zone tree
    ≡ map (λ (leaf : Leaf). leaf.zone)
    (filter (λ (leaf : Leaf). is_lent_under number leaf.node) (leaves_from zone tree))

-- a tree has an open leaf exactly when one of its leaves is open
abbrev pub OpenTreesHaveAnOpenLeaf : Type 0
OpenTreesHaveAnOpenLeaf =
    (tree : Tree) (zone : List Literal)
    → has_open tree ≡ list_any (λ (leaf : Leaf). is_open_leaf leaf.node) (leaves_from zone tree)

-- a tree is refuted exactly when each of its leaves is
abbrev pub RefutedTreesHaveRefutedLeaves : Type 0
RefutedTreesHaveRefutedLeaves =
    (tree : Tree) (zone : List Literal)
    → is_refuted tree
    ≡ list_all (λ (leaf : Leaf). is_refuted_leaf leaf.node) (leaves_from zone tree)

-- a fact of each node that a `Bool` decides is one of each leaf
abbrev pub FactsOfNodesAreOfLeaves : Type 0
FactsOfNodesAreOfLeaves =
    (fact : List Literal → TreeNode → Bool) (tree : Tree) (zone : List Literal)
    → NodesMeet (λ z node. IsTrue (fact z node)) zone tree
    → All (λ (leaf : Leaf). IsTrue (fact leaf.zone leaf.node)) (leaves_from zone tree)

-- the list of a tree has each of its nodes
abbrev pub ListsHaveEachNode : Type 0
ListsHaveEachNode = (tree : Tree) → length (preorder tree) ≡ node_count tree

-- a tree has one leaf more than it has splits
abbrev pub LeavesAreOneMoreThanSplits : Type 0
LeavesAreOneMoreThanSplits =
    (tree : Tree) (zone : List Literal)
    → node_count tree + 1 ≡ 2 * length (leaves_from zone tree)

-- no more nodes are new than there are
abbrev pub NewNodesAreNodes : Type 0
NewNodesAreNodes = (tree : Tree) → new_count tree ≤ node_count tree

-- a list is read as a tree exactly when it is the tree's list
abbrev pub ReadingIsExact : Type 0
ReadingIsExact =
    (nodes : List TreeNode) (tree : Tree) → (tree_of nodes ≡ Some tree) ↔ (preorder tree ≡ nodes)

-- nothing is read exactly when no tree has the list
abbrev pub UnreadListsHaveNoTree : Type 0
UnreadListsHaveNoTree =
    (nodes : List TreeNode)
    → (tree_of nodes ≡ None) ↔ ((tree : Tree) → ¬ (preorder tree ≡ nodes))

-- two trees with one list are one tree
abbrev pub ListsDetermineTrees : Type 0
ListsDetermineTrees = (tree other : Tree) → preorder tree ≡ preorder other → tree ≡ other
