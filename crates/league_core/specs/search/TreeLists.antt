-- A tree as the list of its nodes from the root on, and the tree that is read back from a list. The
-- list is read from its end: a leaf is a tree, and a split joins the first two trees after it.
use Rattle.std.specs.Prelude.{◌≡◌, List, [], ◌∷◌, ◌++◌, Option, Some, None}
use Rattle.std.specs.List.{flat_map}
use Rattle.std.specs.Coded.{Coded, code_by, coded_list}
use Rattle.std.proofs.Common.{refl, sym, ap, ◌∙◌, append_assoc, append-nil}
use Rattle.league_core.specs.contracts.tree.TreeNode as node
use Rattle.league_core.specs.declared.tree.TreeNode.{TreeNode}
use Rattle.league_core.specs.declared.tree.TreeNode.TheVariants.{Split, Open, Lent, Refuted}
use Rattle.league_core.specs.search.Trees.{Tree, open_leaf, lent_leaf, refuted_leaf, branch}
use Rattle.league_core.specs.search.Trees.{preorder}

-- the trees of what follows a node, with the tree that begins with the node; none if a split has
-- fewer than two trees after it
abbrev pub with_node : TreeNode → Option (List Tree) → Option (List Tree)
with_node node None = None
with_node Open (Some trees) = Some (open_leaf ∷ trees)
with_node (Lent number) (Some trees) = Some (lent_leaf number ∷ trees)
with_node (Refuted reason fresh) (Some trees) = Some (refuted_leaf reason fresh ∷ trees)
with_node (Split test fresh) (Some []) = None
with_node (Split test fresh) (Some (tree ∷ [])) = None
with_node (Split test fresh) (Some (yes_half ∷ no_half ∷ trees)) =
    Some (branch test fresh yes_half no_half ∷ trees)

-- the trees whose nodes stand in the list one after another
abbrev pub trees_of : List TreeNode → Option (List Tree)
trees_of [] = Some []
trees_of (node ∷ nodes) = with_node node (trees_of nodes)

-- the one tree of a list, if there is one and no other after it
abbrev pub only_tree : Option (List Tree) → Option Tree
only_tree None = None
only_tree (Some []) = None
only_tree (Some (tree ∷ [])) = Some tree
only_tree (Some (tree ∷ other ∷ trees)) = None

-- the tree whose nodes are this list
abbrev pub tree_of : List TreeNode → Option Tree
tree_of nodes = only_tree (trees_of nodes)

-- the nodes of trees that stand one after another
abbrev pub preorders : List Tree → List TreeNode
preorders trees = flat_map preorder trees

-- some tree of any list; if the list is that of a tree, this tree
abbrev pub tree_or_leaf : Option Tree → Tree
tree_or_leaf None = open_leaf
tree_or_leaf (Some tree) = tree

-- a tree before trees that were read
abbrev pub in_front : Tree → Option (List Tree) → Option (List Tree)
in_front tree None = None
in_front tree (Some trees) = Some (tree ∷ trees)

-- a tree's nodes before a list are read as the tree before what is read there
pub trees_of-preorder : (tree : Tree) (rest : List TreeNode)
    → trees_of (preorder tree ++ rest) ≡ in_front tree (trees_of rest)
trees_of-preorder open_leaf rest = leaf (trees_of rest)
  where
    leaf : (read : Option (List Tree)) → with_node Open read ≡ in_front open_leaf read
    leaf None = refl
    leaf (Some trees) = refl
trees_of-preorder (lent_leaf number) rest = leaf (trees_of rest)
  where
    leaf : (read : Option (List Tree))
        → with_node (Lent number) read ≡ in_front (lent_leaf number) read
    leaf None = refl
    leaf (Some trees) = refl
trees_of-preorder (refuted_leaf reason fresh) rest = leaf (trees_of rest)
  where
    leaf : (read : Option (List Tree))
        → with_node (Refuted reason fresh) read ≡ in_front (refuted_leaf reason fresh) read
    leaf None = refl
    leaf (Some trees) = refl
trees_of-preorder (branch test fresh yes_half no_half) rest =
    ap (λ nodes. with_node (Split test fresh) (trees_of nodes))
    (append_assoc (preorder yes_half) (preorder no_half) rest)
    ∙ ap (with_node (Split test fresh)) (trees_of-preorder yes_half (preorder no_half ++ rest))
    ∙ ap (λ read. with_node (Split test fresh) (in_front yes_half read))
    (trees_of-preorder no_half rest)
    ∙ joined (trees_of rest)
  where
    joined : (read : Option (List Tree))
        → with_node (Split test fresh) (in_front yes_half (in_front no_half read))
        ≡ in_front (branch test fresh yes_half no_half) read
    joined None = refl
    joined (Some trees) = refl

-- a tree's list is read as the tree
pub tree_of-preorder : (tree : Tree) → tree_of (preorder tree) ≡ Some tree
tree_of-preorder tree =
    ap tree_of (sym (append-nil (preorder tree))) ∙ ap only_tree (trees_of-preorder tree [])

-- a tree is stored as its list
abbrev pub coded_tree : Coded Tree
coded_tree =
    code_by (List TreeNode) (coded_list node.the_row.coded) preorder
    (λ nodes. tree_or_leaf (tree_of nodes)) (λ tree. ap tree_or_leaf (tree_of-preorder tree))
