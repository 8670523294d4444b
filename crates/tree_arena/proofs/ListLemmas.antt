-- Lists of nodes that are read from their end, one node after the other.
use Rattle.std.proofs.Common.{◌≡◌, ℕ, zero, suc, ◌+◌, ◌-◌, ◌<◌, ◌≤◌, true, false, List, []}
use Rattle.std.proofs.Common.{◌∷◌, length, drop, get_or, Some, None, refl, sym, ap, ◌∙◌}
use Rattle.std.proofs.Common.{add-one, drop-cons, arith}
use Rattle.std.specs.Option.{is_some}
use Rattle.league_core.specs.declared.tree.TreeNode.{TreeNode}
use Rattle.league_core.specs.declared.tree.TreeNode.TheVariants.{Split, Open, Lent, Refuted}
use Rattle.league_core.specs.search.Trees.{Tree, open_leaf, lent_leaf, refuted_leaf, branch}
use Rattle.league_core.specs.search.TreeLists.{with_node, trees_of, only_tree, tree_of}
use Rattle.tree_arena.specs.inside.Arena.{is_split_node}

-- what stands from here on is so many trees
pub record ReadsTrees (nodes : List TreeNode) (at count : ℕ) : Type 0 where
  pub trees : List Tree
  pub read : trees_of (drop at nodes) ≡ Some trees
  pub many : length trees ≡ count

-- before what is no trees nothing is read
with_node-none : (node : TreeNode) → with_node node None ≡ None
with_node-none Open = refl
with_node-none (Lent number) = refl
with_node-none (Refuted reason fresh) = refl
with_node-none (Split test fresh) = refl

-- a list whose end is no trees is none
pub trees_of-none : (at : ℕ) (nodes : List TreeNode) → trees_of (drop at nodes) ≡ None
    → trees_of nodes ≡ None
trees_of-none zero nodes unread = unread
trees_of-none (suc at) [] unread = unread
trees_of-none (suc at) (node ∷ nodes) unread =
    ap (with_node node) (trees_of-none at nodes unread) ∙ with_node-none node

-- the list from a node on, by what comes after it
read_at : (nodes : List TreeNode) (at from : ℕ) (default : TreeNode) → at < length nodes
    → from ≡ at + 1
    → trees_of (drop at nodes) ≡ with_node (get_or nodes at default) (trees_of (drop from nodes))
read_at nodes at from default within next =
    ap trees_of (drop-cons nodes at default within)
    ∙ ap (λ n. with_node (get_or nodes at default) (trees_of (drop n nodes)))
    (sym (add-one at) ∙ sym next)

-- a leaf is one tree more
leaf_more : (node : TreeNode) (trees : List Tree) → is_split_node node ≡ false
    → (more : List Tree) × (with_node node (Some trees) ≡ Some more)
    × (length more ≡ suc (length trees))
leaf_more Open trees leaf = (open_leaf ∷ trees, refl, refl)
leaf_more (Lent number) trees leaf = (lent_leaf number ∷ trees, refl, refl)
leaf_more (Refuted reason fresh) trees leaf = (refuted_leaf reason fresh ∷ trees, refl, refl)
leaf_more (Split test fresh) trees leaf = cc

pub reads_leaf : (nodes : List TreeNode) (at from count : ℕ) (node default : TreeNode)
    → at < length nodes → from ≡ at + 1 → node ≡ get_or nodes at default
    → is_split_node node ≡ false → ReadsTrees nodes from count → ReadsTrees nodes at (count + 1)
reads_leaf nodes at from count node default within next is leaf reads =
    let more = leaf_more node reads.trees leaf in
    let many = reads.many in
    let size = more.2 in
    record {
      trees = more.0;
      read = read_at nodes at from default within next
          ∙ ap (λ n. with_node n (trees_of (drop from nodes))) (sym is)
          ∙ ap (with_node node) reads.read ∙ more.1;
      many = omega arith;
    }

-- a split joins two
split_less : (node : TreeNode) (trees : List Tree) → is_split_node node ≡ true
    → 2 ≤ length trees → (less : List Tree) × (with_node node (Some trees) ≡ Some less)
    × (suc (length less) ≡ length trees)
split_less Open trees splits two = cc
split_less (Lent number) trees splits two = cc
split_less (Refuted reason fresh) trees splits two = cc
split_less (Split test fresh) [] splits two = absurd (omega arith)
split_less (Split test fresh) (tree ∷ []) splits two = absurd (omega arith)
split_less (Split test fresh) (yes_half ∷ no_half ∷ trees) splits two =
    (branch test fresh yes_half no_half ∷ trees, refl, refl)

pub reads_split : (nodes : List TreeNode) (at from count : ℕ) (node default : TreeNode)
    → at < length nodes → from ≡ at + 1 → node ≡ get_or nodes at default
    → is_split_node node ≡ true → 2 ≤ count → ReadsTrees nodes from count
    → ReadsTrees nodes at (count - 1)
reads_split nodes at from count node default within next is splits two reads =
    let many = reads.many in
    let less = split_less node reads.trees splits (omega arith) in
    let size = less.2 in
    record {
      trees = less.0;
      read = read_at nodes at from default within next
          ∙ ap (λ n. with_node n (trees_of (drop from nodes))) (sym is)
          ∙ ap (with_node node) reads.read ∙ less.1;
      many = omega arith;
    }

-- if there are fewer than two the list is that of no tree
split_none : (node : TreeNode) (trees : List Tree) → is_split_node node ≡ true
    → length trees < 2 → with_node node (Some trees) ≡ None
split_none Open trees splits few = cc
split_none (Lent number) trees splits few = cc
split_none (Refuted reason fresh) trees splits few = cc
split_none (Split test fresh) [] splits few = refl
split_none (Split test fresh) (tree ∷ []) splits few = refl
split_none (Split test fresh) (yes_half ∷ no_half ∷ trees) splits few = absurd (omega arith)

pub reads_none : (nodes : List TreeNode) (at from count : ℕ) (node default : TreeNode)
    → at < length nodes → from ≡ at + 1 → node ≡ get_or nodes at default
    → is_split_node node ≡ true → count < 2 → ReadsTrees nodes from count
    → false ≡ is_some (tree_of nodes)
reads_none nodes at from count node default within next is splits few reads =
    let many = reads.many in
    sym (ap (λ read. is_some (only_tree read)) (trees_of-none at nodes
    (read_at nodes at from default within next
    ∙ ap (λ n. with_node n (trees_of (drop from nodes))) (sym is)
    ∙ ap (with_node node) reads.read
    ∙ split_none node reads.trees splits (omega arith))))
