-- Lists of nodes that are read from their end, one node after the other.
use Rattle.std.proofs.Common.{◌≡◌, ℕ, ◌+◌, ◌<◌, List, [], ◌∷◌, ◌++◌, length, drop, get_or}
use Rattle.std.proofs.Common.{reverse, Option, Some, None, sym, ap, ◌∙◌, add-one, drop-cons, arith}
use Rattle.league_core.specs.declared.tree.TreeNode.{TreeNode}
use Rattle.league_core.specs.search.Trees.{Tree, preorder}
use Rattle.league_core.specs.search.TreeLists.{with_node, trees_of, only_tree, tree_of}
use Rattle.league_core.proofs.TreeListLemmas.{preorder-tree_of}
use Rattle.tree_arena.proofs.ListLemmas.{trees_of-none}

-- a node that cannot stand before the trees after it makes the list that of no tree
pub unread_at : (at : ℕ) (nodes : List TreeNode) (default : TreeNode)
    (read : Option (List Tree)) → at < length nodes → trees_of (drop (at + 1) nodes) ≡ read
    → with_node (get_or nodes at default) read ≡ None → tree_of nodes ≡ None
unread_at at nodes default read within behind unread =
    ap only_tree (trees_of-none at nodes
    (ap trees_of (drop-cons nodes at default within)
    ∙ ap (λ n. with_node (get_or nodes at default) (trees_of (drop n nodes))) (sym (add-one at))
    ∙ ap (with_node (get_or nodes at default)) behind ∙ unread))

-- the one tree that was read has the list
pub read_whole : (nodes : List TreeNode) (tree : Tree) → trees_of nodes ≡ Some (tree ∷ [])
    → preorder tree ≡ nodes
read_whole nodes tree read = preorder-tree_of nodes tree (ap only_tree read)

-- so it is if one tree was taken off a stack that then was empty
pub read_last : (nodes : List TreeNode) (trees rest : List Tree) (tree : Tree) (at : ℕ)
    → at ≡ 0 → trees_of (drop at nodes) ≡ Some (reverse trees) → trees ≡ rest ++ tree ∷ []
    → length rest ≡ 0 → preorder tree ≡ nodes
read_last nodes trees [] tree at start read taken none =
    let from_start : trees_of nodes ≡ Some (reverse trees) = rw start at read in
    read_whole nodes tree (from_start ∙ ap (λ list. Some (reverse list)) taken)
read_last nodes trees (other ∷ rest) tree at start read taken none = absurd (omega arith)
