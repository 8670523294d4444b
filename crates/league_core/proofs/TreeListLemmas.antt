-- A tree and the list of its nodes: each list is the list of one tree, or of none.
use Rattle.std.proofs.Common.{◌≡◌, List, [], ◌∷◌, Option, Some, None, refl, sym, ap, ◌∙◌}
use Rattle.std.proofs.Common.{append_assoc, append-nil}
use Rattle.std.specs.Prelude.{◌↔◌}
use Rattle.std.proofs.lemmas.Option.{none-some, same_Some}
use Rattle.league_core.specs.declared.tree.TreeNode.{TreeNode}
use Rattle.league_core.specs.declared.tree.TreeNode.TheVariants.{Split, Open, Lent, Refuted}
use Rattle.league_core.specs.search.Trees.{Tree, open_leaf, lent_leaf, refuted_leaf, branch}
use Rattle.league_core.specs.search.Trees.{preorder}
use Rattle.league_core.specs.search.TreeLists.{with_node, trees_of, only_tree, tree_of, preorders}
use Rattle.league_core.specs.search.TreeLists.{tree_of-preorder}

-- trees that were read give the list back, one node more at a time
more_read : (node : TreeNode) (read : Option (List Tree)) (nodes : List TreeNode)
    (trees : List Tree) → ((front : List Tree) → read ≡ Some front → preorders front ≡ nodes)
    → with_node node read ≡ Some trees → preorders trees ≡ node ∷ nodes
more_read node None nodes trees back is = absurd (none-some trees is)
more_read Open (Some front) nodes trees back is =
    ap preorders (sym (same_Some (open_leaf ∷ front) trees is))
    ∙ ap (λ rest. Open ∷ rest) (back front refl)
more_read (Lent number) (Some front) nodes trees back is =
    ap preorders (sym (same_Some (lent_leaf number ∷ front) trees is))
    ∙ ap (λ rest. Lent number ∷ rest) (back front refl)
more_read (Refuted reason fresh) (Some front) nodes trees back is =
    ap preorders (sym (same_Some (refuted_leaf reason fresh ∷ front) trees is))
    ∙ ap (λ rest. Refuted reason fresh ∷ rest) (back front refl)
more_read (Split test fresh) (Some []) nodes trees back is = absurd (none-some trees is)
more_read (Split test fresh) (Some (tree ∷ [])) nodes trees back is = absurd (none-some trees is)
more_read (Split test fresh) (Some (yes_half ∷ no_half ∷ front)) nodes trees back is =
    ap preorders (sym (same_Some (branch test fresh yes_half no_half ∷ front) trees is))
    ∙ ap (λ rest. Split test fresh ∷ rest)
    (append_assoc (preorder yes_half) (preorder no_half) (preorders front)
    ∙ back (yes_half ∷ no_half ∷ front) refl)

-- trees that were read from a list have this list
pub preorders-trees_of : (nodes : List TreeNode) (trees : List Tree) → trees_of nodes ≡ Some trees
    → preorders trees ≡ nodes
preorders-trees_of [] trees is = ap preorders (sym (same_Some [] trees is))
preorders-trees_of (node ∷ nodes) trees is =
    more_read node (trees_of nodes) nodes trees (λ front. preorders-trees_of nodes front) is

-- a tree that was read from a list has this list
pub preorder-tree_of : (nodes : List TreeNode) (tree : Tree) → tree_of nodes ≡ Some tree
    → preorder tree ≡ nodes
preorder-tree_of nodes tree is =
    alone (trees_of nodes) (λ trees. preorders-trees_of nodes trees) is
  where
    alone : (read : Option (List Tree))
        → ((trees : List Tree) → read ≡ Some trees → preorders trees ≡ nodes)
        → only_tree read ≡ Some tree → preorder tree ≡ nodes
    alone None back one = absurd (none-some tree one)
    alone (Some []) back one = absurd (none-some tree one)
    alone (Some (first ∷ [])) back one =
        ap preorder (sym (same_Some first tree one))
        ∙ sym (append-nil (preorder first))
        ∙ back (first ∷ []) refl
    alone (Some (first ∷ second ∷ trees)) back one = absurd (none-some tree one)

-- a list is read as a tree exactly when it is the tree's list
pub reading_exact : (nodes : List TreeNode) (tree : Tree) → (tree_of nodes ≡ Some tree)
    ↔ (preorder tree ≡ nodes)
reading_exact nodes tree =
    (preorder-tree_of nodes tree, λ same. ap tree_of (sym same) ∙ tree_of-preorder tree)

-- two trees with one list are one
pub preorder_injective : (tree other : Tree) → preorder tree ≡ preorder other → tree ≡ other
preorder_injective tree other same =
    same_Some tree other (sym (tree_of-preorder tree) ∙ ap tree_of same ∙ tree_of-preorder other)

-- nothing is read exactly when no tree has the list
pub unread_exact : (nodes : List TreeNode) → (tree_of nodes ≡ None)
    ↔ ((tree : Tree) → ¬ (preorder tree ≡ nodes))
unread_exact nodes = (
  λ unread tree same. none-some tree (sym unread ∙ (reading_exact nodes tree).1 same),
  λ none. nothing (tree_of nodes) (λ tree is. none tree (preorder-tree_of nodes tree is)),
)
  where
    nothing : (read : Option Tree) → ((tree : Tree) → read ≡ Some tree → ⊥) → read ≡ None
    nothing None never = refl
    nothing (Some tree) never = absurd (never tree refl)
