-- In an arena that is being made from a list, the leaves so far and then the places, the next one
-- first, stand in the order of the list.
use Rattle.std.proofs.Common.{◌≡◌, ℕ, suc, ◌+◌, ◌-◌, ◌<◌, true, List, [], ◌∷◌, ◌++◌, length}
use Rattle.std.proofs.Common.{reverse}
use Rattle.std.proofs.Common.{get_or, set, refl, sym, ap, ◌∙◌, subst, arith, append_assoc}
use Rattle.std.proofs.Common.{append-nil}
use Rattle.std.proofs.lemmas.List.{reverse-append, reverse-reverse}
use Rattle.league_core.specs.declared.tree.TreeNode.{TreeNode}
use Rattle.league_core.specs.declared.tree.TreeNode.TheVariants.{Open as open_node}
use Rattle.league_core.specs.declared.tree.TreeNode.TheVariants.{Lent as lent_node}
use Rattle.league_core.specs.declared.tree.TreeNode.TheVariants.{Refuted as refuted_node}
use Rattle.league_core.specs.declared.tree.TreeNode.TheVariants.{Split as split_node}
use Rattle.league_core.specs.search.Trees.{Tree}
use Rattle.tree_arena.specs.declared.node.Kind.{Kind}
use Rattle.tree_arena.specs.declared.node.Kind.TheVariants.{Open, Lent, Refuted}
use Rattle.tree_arena.specs.declared.node.Node.{Node}
use Rattle.tree_arena.specs.inside.Arena.{AllWithin, IsArena, IsLeafKind, IsLiveKind, open_mark}
use Rattle.tree_arena.specs.inside.Arena.{lent_mark, times_in, with_kind, nodes_taken}
use Rattle.tree_arena.specs.inside.Arena.{places_taken, open_taken, live_taken, lent_taken}
use Rattle.tree_arena.specs.inside.Order.{live_over, live_in, replaced}
use Rattle.tree_arena.proofs.MarkLemmas.{one_if-same, times_in-push, times_in-reverse}
use Rattle.tree_arena.proofs.ArenaLemmas.{any_node, marked_at}
use Rattle.tree_arena.proofs.LiveLemmas.{live_leaf, live_halves, replaced_between}
use Rattle.tree_arena.proofs.BuildLemmas.{IsBuilding, place_is_open, place_once, places_count}

-- a leaf of the list that comes to its place
leaf_taken : (nodes : List Node) (live rest : List ℕ) (at : ℕ) (kind : Kind) → at < length nodes
    → (get_or nodes at any_node).kind ≡ Open → times_in at live ≡ 0 → times_in at rest ≡ 0
    → live_in nodes ≡ live ++ reverse (rest ++ at ∷ []) → IsLeafKind kind
    → live_in (set nodes at (with_kind kind (get_or nodes at any_node)) ++ [])
    ≡ live ++ (live_over kind at [] ++ reverse rest)
leaf_taken nodes live rest at kind within was_open none none_left order leaf =
    let new = live_over kind at [] in
    ap live_in (append-nil (set nodes at (with_kind kind (get_or nodes at any_node))))
    ∙ live_leaf nodes at kind any_node within
    (subst (λ (k : Kind). IsLiveKind k) (sym was_open) tt) leaf
    ∙ ap (replaced at new) (order ∙ ap (λ list. live ++ list) (reverse-append rest (at ∷ [])))
    ∙ replaced_between at new live (reverse rest) none (times_in-reverse at rest ∙ none_left)

-- whatever the node is that comes to its place
order_taken : (node : TreeNode) (nodes : List Node) (live rest : List ℕ) (at : ℕ)
    → at < length nodes → AllWithin nodes → (get_or nodes at any_node).kind ≡ Open
    → times_in at live ≡ 0 → times_in at rest ≡ 0
    → live_in nodes ≡ live ++ reverse (rest ++ at ∷ [])
    → live_in (nodes_taken node nodes at any_node)
    ≡ live_taken node at live ++ reverse (places_taken node (length nodes) rest)
order_taken open_node nodes live rest at within all was_open none none_left order =
    leaf_taken nodes live rest at Open within was_open none none_left order tt
    ∙ sym (append_assoc live (at ∷ []) (reverse rest))
order_taken (lent_node number) nodes live rest at within all was_open none none_left order =
    leaf_taken nodes live rest at (Lent number) within was_open none none_left order tt
    ∙ sym (append_assoc live (at ∷ []) (reverse rest))
order_taken (refuted_node reason fresh) nodes live rest at within all was_open none none_left
    order =
    leaf_taken nodes live rest at (Refuted reason fresh) within was_open none none_left order tt
order_taken (split_node test fresh) nodes live rest at within all was_open none none_left order =
    let size = length nodes in
    let new = size ∷ suc size ∷ [] in
    live_halves nodes at (size - at - 1) test fresh any_node within (omega arith) all
    (subst (λ (k : Kind). IsLiveKind k) (sym was_open) tt)
    ∙ ap (replaced at new) (order ∙ ap (λ list. live ++ list) (reverse-append rest (at ∷ [])))
    ∙ replaced_between at new live (reverse rest) none (times_in-reverse at rest ∙ none_left)
    ∙ ap (λ list. live ++ list) (sym (reverse-append (rest ++ suc size ∷ []) (size ∷ [])
    ∙ ap (λ list. size ∷ list) (reverse-append rest (suc size ∷ []))))

-- the leaves so far are those that are open and those that are lent
counts_taken : (node : TreeNode) (at number : ℕ) (live opens lents : List ℕ)
    → times_in number live ≡ times_in number opens + times_in number lents
    → times_in number (live_taken node at live)
    ≡ times_in number (open_taken node at opens) + times_in number (lent_taken node at lents)
counts_taken open_node at number live opens lents counts =
    let one = times_in-push number at live in
    let two = times_in-push number at opens in
    omega arith
counts_taken (lent_node other) at number live opens lents counts =
    let one = times_in-push number at live in
    let two = times_in-push number at lents in
    omega arith
counts_taken (refuted_node reason fresh) at number live opens lents counts = counts
counts_taken (split_node test fresh) at number live opens lents counts = counts

-- how far the leaves stand in order
pub record IsOrdered (nodes : List Node) (places live opens lents : List ℕ) : Type 0 where
  pub order : live_in nodes ≡ live ++ reverse places
  pub counts : (number : ℕ)
      → times_in number live ≡ times_in number opens + times_in number lents

-- the place on top is no leaf yet
live_once : (nodes : List Node) (live opens rest lents : List ℕ) (at : ℕ)
    → IsArena nodes (opens ++ (rest ++ at ∷ [])) lents
    → times_in at live ≡ times_in at opens + times_in at lents → times_in at live ≡ 0
live_once nodes live opens rest lents at arena counts =
    let count = places_count opens rest at at in
    let once = one_if-same at in
    let is = place_is_open nodes opens rest lents at arena in
    let mark = marked_at open_mark nodes at any_node is.0 ∙ ap open_mark is.1 in
    let each = arena.open_listed.each at in
    let lent = marked_at lent_mark nodes at any_node is.0 ∙ ap lent_mark is.1 in
    let each_lent = arena.lent_listed.each at in
    omega arith

-- it begins with the place of the root
pub order_starts : (nodes : List Node) (places live lents : List ℕ)
    → nodes ≡ record { kind = Open; parent = 0; yes = true } ∷ [] → places ≡ 0 ∷ []
    → live ≡ [] → lents ≡ [] → IsOrdered nodes places live [] lents
order_starts nodes places live lents nodes_are places_are none none_lent = record {
  order = rw (nodes_are, places_are, none) refl;
  counts = λ number. rw (none, none_lent) refl;
}

-- the arena and its lists with the next node of the list
pub order_on : (tree : Tree) (size : ℕ) (node : TreeNode) (list left : List TreeNode)
    (nodes new : List Node) (places live opens lents rest next more longer : List ℕ) (at : ℕ)
    → list ≡ node ∷ left → IsBuilding tree size list nodes places opens lents
    → IsOrdered nodes places live opens lents → places ≡ rest ++ at ∷ []
    → ((default : Node) → new ≡ nodes_taken node nodes at default)
    → next ≡ places_taken node (length nodes) rest → more ≡ live_taken node at live
    → longer ≡ lent_taken node at lents
    → IsOrdered new next more (open_taken node at opens) longer
order_on tree size node list left nodes new places live opens lents rest next more longer at list_is
    building ordered popped nodes_are next_is more_is longer_is =
    let arena = subst (λ (ps : List ℕ). IsArena nodes (opens ++ ps) lents) popped
    building.arena in
    let is = place_is_open nodes opens rest lents at arena in
    record {
      order = ap live_in (nodes_are any_node)
          ∙ order_taken node nodes live rest at is.0 arena.within is.1
          (live_once nodes live opens rest lents at arena (ordered.counts at))
          (place_once nodes opens rest lents at arena)
          (ordered.order ∙ ap (λ ps. live ++ reverse ps) popped)
          ∙ ap (λ ps. live_taken node at live ++ reverse ps) (sym next_is)
          ∙ ap (λ ls. ls ++ reverse next) (sym more_is);
      counts = λ number. ap (times_in number) more_is
          ∙ counts_taken node at number live opens lents (ordered.counts number)
          ∙ ap (λ ls. times_in number (open_taken node at opens) + times_in number ls)
          (sym longer_is);
    }

-- once no place waits, the leaves turned round are those of the tree with the first one last
pub order_ends : (nodes : List Node) (places live opens lents turned : List ℕ)
    → IsOrdered nodes places live opens lents → places ≡ []
    → turned ≡ places ++ reverse live → live_in nodes ≡ reverse turned
order_ends nodes places live opens lents turned ordered none is =
    ordered.order ∙ ap (λ ps. live ++ reverse ps) none ∙ append-nil live
    ∙ sym (ap reverse (is ∙ ap (λ ps. ps ++ reverse live) none) ∙ reverse-reverse live)
