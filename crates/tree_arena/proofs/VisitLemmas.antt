-- The list of an arena's tree, node by node with a stack, and looks at its nodes.
use Rattle.std.proofs.Common.{◌≡◌, ℕ, zero, suc, ◌+◌, ◌<◌, ◌≤◌, Bool, true, List, [], ◌∷◌, ◌++◌}
use Rattle.std.proofs.Common.{length, Option, Some}
use Rattle.std.proofs.Common.{get_or, drop, refl, sym, ap, ◌∙◌, subst, arith, append_assoc}
use Rattle.league_core.specs.declared.tree.TreeNode.{TreeNode}
use Rattle.league_core.specs.declared.zone.Test.{Test}
use Rattle.league_core.specs.search.Trees.{branch, preorder, node_count}
use Rattle.tree_arena.specs.declared.node.Kind.{Kind}
use Rattle.tree_arena.specs.declared.node.Kind.TheVariants.{Open, Lent, Refuted, Split}
use Rattle.tree_arena.specs.declared.node.Node.{Node}
use Rattle.tree_arena.specs.inside.Arena.{shape_over, shapes, tree_below, AllWithin}
use Rattle.tree_arena.specs.inside.Arena.{AreHalvesWithin, listed_kind, stack_after, pending}
use Rattle.tree_arena.specs.inside.Arena.{pending_count, AreNodes, HasRoomFor}
use Rattle.tree_arena.specs.inside.Steps.{from_next}
use Rattle.tree_arena.specs.inside.Subtrees.{look_under, seen_by}
use Rattle.tree_arena.specs.declared.node.TheConstants.{MOST_NUMBERS}
use Rattle.tree_arena.proofs.ShapeLemmas.{shapes-at, length-shapes}
use Rattle.tree_arena.proofs.LinkLemmas.{half_tree}

-- the halves of a split are nodes
pub halves_within : (nodes : List Node) (at : ℕ) (default : Node) (test : Test) (fresh : Bool)
    (half : ℕ) → AllWithin nodes → at < length nodes
    → (get_or nodes at default).kind ≡ Split test fresh half
    → suc (suc (at + half)) < length nodes
halves_within [] at default test fresh half within here is = absurd (omega arith)
halves_within (node ∷ nodes) zero default test fresh half within here is =
    by_kind node.kind is within.0
  where
    by_kind : (kind : Kind) → kind ≡ Split test fresh half
        → AreHalvesWithin kind (length nodes) → suc (suc (0 + half)) < suc (length nodes)
    by_kind kind same inside =
        let there = subst (λ (k : Kind). AreHalvesWithin k (length nodes)) same inside in omega
        arith
halves_within (node ∷ nodes) (suc at) default test fresh half within here is =
    let rest = halves_within nodes at default test fresh half within.1 (omega arith) is in
    omega arith

-- what a look at the node on top makes of the list, the count and the stack
pub record Visits (nodes : List Node) (at : ℕ) (kind : Kind) (stack : List ℕ) : Type 0 where
  pub same : listed_kind kind ∷ pending nodes (stack_after kind at stack)
      ≡ preorder (tree_below nodes at) ++ pending nodes stack
  pub less : suc (pending_count nodes (stack_after kind at stack))
      ≡ node_count (tree_below nodes at) + pending_count nodes stack
  pub are : AreNodes (length nodes) (stack_after kind at stack)

pub visits : (nodes : List Node) (at : ℕ) (kind : Kind) (default : Node) (stack : List ℕ)
    → AllWithin nodes → at < length nodes → AreNodes (length nodes) stack
    → (get_or nodes at default).kind ≡ kind → Visits nodes at kind stack
visits nodes at Open default stack within here are is =
    let tree = shapes-at nodes at default here
    ∙ ap (λ k. shape_over k (drop (suc at) (shapes nodes))) is in
    record {
      same = ap (λ t. preorder t ++ pending nodes stack) (sym tree);
      less = let count = ap node_count tree in omega arith;
      are = are;
    }
visits nodes at (Lent number) default stack within here are is =
    let tree = shapes-at nodes at default here
    ∙ ap (λ k. shape_over k (drop (suc at) (shapes nodes))) is in
    record {
      same = ap (λ t. preorder t ++ pending nodes stack) (sym tree);
      less = let count = ap node_count tree in omega arith;
      are = are;
    }
visits nodes at (Refuted reason fresh) default stack within here are is =
    let tree = shapes-at nodes at default here
    ∙ ap (λ k. shape_over k (drop (suc at) (shapes nodes))) is in
    record {
      same = ap (λ t. preorder t ++ pending nodes stack) (sym tree);
      less = let count = ap node_count tree in omega arith;
      are = are;
    }
visits nodes at (Split test fresh half) default stack within here are is =
    let yes_half = tree_below nodes (suc (at + half)) in
    let no_half = tree_below nodes (suc (suc (at + half))) in
    let tree : tree_below nodes at ≡ branch test fresh yes_half no_half =
    half_tree nodes at (suc (at + half)) true test fresh half default here is refl in
    let last = halves_within nodes at default test fresh half within here is in
    let count = ap node_count tree in
    record {
      same = ap (λ list. listed_kind (Split test fresh half) ∷ list)
          (sym (append_assoc (preorder yes_half) (preorder no_half) (pending nodes stack)))
          ∙ ap (λ t. preorder t ++ pending nodes stack) (sym tree);
      less = omega arith;
      are = (omega arith, (last, are));
    }

-- how far the list has come
pub record ListsNodes (nodes : List Node) (stack : List ℕ) (found wanted : List TreeNode)
    : Type 0 where
  pub are : AreNodes (length nodes) stack
  pub become : found ++ pending nodes stack ≡ wanted

-- the node that comes next is the first of them
pub lists_next : (nodes : List Node) (next : Option ℕ) (at : ℕ) (stack : List ℕ)
    (found wanted : List TreeNode) → ListsNodes nodes (from_next next stack) found wanted
    → next ≡ Some at → ListsNodes nodes (at ∷ stack) found wanted
lists_next nodes next at stack found wanted lists is =
    subst (λ (one : Option ℕ). ListsNodes nodes (from_next one stack) found wanted) is lists

-- it goes on with the node that comes next
pub lists_on : (nodes : List Node) (rest next : List ℕ) (at : ℕ) (default : Node)
    (found more wanted : List TreeNode) → AllWithin nodes
    → ListsNodes nodes (at ∷ rest) found wanted
    → next ≡ stack_after (get_or nodes at default).kind at rest
    → more ≡ found ++ listed_kind (get_or nodes at default).kind ∷ []
    → ListsNodes nodes next more wanted
lists_on nodes rest next at default found more wanted within lists next_is more_is =
    let kind = (get_or nodes at default).kind in
    let step = visits nodes at kind default rest within lists.are.0 lists.are.1 refl in
    rw (next_is, more_is) (record {
      are = step.are;
      become = append_assoc found (listed_kind kind ∷ [])
          (pending nodes (stack_after kind at rest))
          ∙ ap (λ list. found ++ list) step.same ∙ lists.become;
    })

-- fewer nodes are to come
pub lists_less : (nodes : List Node) (rest next : List ℕ) (at : ℕ) (default : Node)
    (found wanted : List TreeNode) → AllWithin nodes
    → ListsNodes nodes (at ∷ rest) found wanted
    → next ≡ stack_after (get_or nodes at default).kind at rest
    → pending_count nodes next < pending_count nodes (at ∷ rest)
lists_less nodes rest next at default found wanted within lists next_is =
    let kind = (get_or nodes at default).kind in
    let step = visits nodes at kind default rest within lists.are.0 lists.are.1 refl in
    let less = step.less in
    let after = ap (pending_count nodes) next_is in
    omega arith

-- the halves of a node have numbers
pub room_for : (nodes : List Node) (at : ℕ) (default : Node) → AllWithin nodes
    → at < length nodes → length nodes ≤ MOST_NUMBERS
    → HasRoomFor (get_or nodes at default).kind at
room_for nodes at default within here few = by_kind (get_or nodes at default).kind refl
  where
    by_kind : (kind : Kind) → (get_or nodes at default).kind ≡ kind → HasRoomFor kind at
    by_kind Open is = tt
    by_kind (Lent number) is = tt
    by_kind (Refuted reason fresh) is = tt
    by_kind (Split test fresh half) is =
        let last = halves_within nodes at default test fresh half within here is in omega arith

-- a look at a node is one at the first node of the tree below it
pub record SeesTree (nodes : List Node) (at : ℕ) (kind : Kind) : Type 0 where
  pub tree : tree_below nodes at ≡ seen_by (shapes nodes) (look_under kind at)
  pub yes_half : (look_under kind at).yes_half < length (shapes nodes)
  pub no_half : (look_under kind at).no_half < length (shapes nodes)

pub sees : (nodes : List Node) (at : ℕ) (kind : Kind) (default : Node) → AllWithin nodes
    → at < length nodes → (get_or nodes at default).kind ≡ kind → SeesTree nodes at kind
sees nodes at Open default within here is =
    let many = length-shapes nodes in
    record {
      tree = shapes-at nodes at default here
          ∙ ap (λ k. shape_over k (drop (suc at) (shapes nodes))) is;
      yes_half = omega arith;
      no_half = omega arith;
    }
sees nodes at (Lent number) default within here is =
    let many = length-shapes nodes in
    record {
      tree = shapes-at nodes at default here
          ∙ ap (λ k. shape_over k (drop (suc at) (shapes nodes))) is;
      yes_half = omega arith;
      no_half = omega arith;
    }
sees nodes at (Refuted reason fresh) default within here is =
    let many = length-shapes nodes in
    record {
      tree = shapes-at nodes at default here
          ∙ ap (λ k. shape_over k (drop (suc at) (shapes nodes))) is;
      yes_half = omega arith;
      no_half = omega arith;
    }
sees nodes at (Split test fresh half) default within here is =
    let many = length-shapes nodes in
    let last = halves_within nodes at default test fresh half within here is in
    record {
      tree = half_tree nodes at (suc (at + half)) true test fresh half default here is refl;
      yes_half = omega arith;
      no_half = omega arith;
    }
