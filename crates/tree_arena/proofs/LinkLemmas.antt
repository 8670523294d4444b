-- The way from a leaf of an arena up to the first node: each node stands where its parent says, and
-- what leads to it is the zone of the leaf.
use Rattle.std.proofs.Common.{◌≡◌, ℕ, zero, suc, ◌+◌, ◌<◌, ◌≤◌, Bool, true, false, ◌==◌, cond}
use Rattle.std.proofs.Common.{List}
use Rattle.std.proofs.Common.{[], ◌∷◌, ◌++◌, length, reverse, get_or, set, drop, refl, sym, ap, ◌∙◌}
use Rattle.std.proofs.Common.{subst, arith}
use Rattle.std.proofs.Common.{append_assoc, append-nil, length-append, inl, inr, get_or-set_same}
use Rattle.std.proofs.Common.{get_or-set_other}
use Rattle.std.proofs.lemmas.Bool.{cases_Bool, cases_lt, eqb-true, eqb-false, eq-eqb}
use Rattle.std.proofs.lemmas.List.{get_or_append_left, get_or-append-add, get_or-drop, length-set}
use Rattle.league_core.specs.declared.zone.Test.{Test}
use Rattle.league_core.specs.declared.zone.Literal.{Literal}
use Rattle.league_core.specs.search.Zones.{with_test}
use Rattle.league_core.specs.search.Trees.{Tree, open_leaf, lent_leaf, branch}
use Rattle.league_core.specs.inside.Lending.{times_lent, lent_zones}
use Rattle.league_core.proofs.LendingLemmas.{length-lent_zones, lent_zones_absent}
use Rattle.tree_arena.specs.declared.node.Kind.{Kind}
use Rattle.tree_arena.specs.declared.node.Kind.TheVariants.{Open, Lent, Refuted, Split}
use Rattle.tree_arena.specs.declared.node.Node.{Node}
use Rattle.tree_arena.specs.inside.Arena.{shape_over, shapes, tree_below, IsHalf, IsLinked}
use Rattle.tree_arena.specs.inside.Arena.{IsLeafKind, IsPathTo, IsLeafAt}
use Rattle.tree_arena.proofs.ShapeLemmas.{shapes-at}

-- what stands within a list is the same, whatever is said of what stands past it
get_or_same : (nodes : List Node) (at : ℕ) (default other : Node) → at < length nodes
    → get_or nodes at default ≡ get_or nodes at other
get_or_same [] at default other within = absurd (omega arith)
get_or_same (node ∷ nodes) zero default other within = refl
get_or_same (node ∷ nodes) (suc at) default other within =
    get_or_same nodes at default other (omega arith)

-- no leaf is the parent of a node
no_half_of_leaf : (kind : Kind) (side : Bool) (parent at : ℕ) → IsLeafKind kind
    → IsHalf kind side parent at → ⊥
no_half_of_leaf Open side parent at leaf half = half
no_half_of_leaf (Lent number) side parent at leaf half = half
no_half_of_leaf (Refuted reason fresh) side parent at leaf half = half
no_half_of_leaf (Split test fresh place) side parent at leaf half = leaf

-- how a node is linked
abbrev pub LinkedAt : List Node → ℕ → Node → Type 0
LinkedAt nodes at default =
    ((get_or nodes at default).parent < at)
    × IsHalf (get_or nodes (get_or nodes at default).parent default).kind
    (get_or nodes at default).yes (get_or nodes at default).parent at

-- two lists that have the node's links, and its parent's kind, link it alike
linked_alike : (nodes others : List Node) (at : ℕ) (default : Node)
    → (get_or others at default).parent ≡ (get_or nodes at default).parent
    → (get_or others at default).yes ≡ (get_or nodes at default).yes
    → (get_or others (get_or nodes at default).parent default).kind
    ≡ (get_or nodes (get_or nodes at default).parent default).kind
    → LinkedAt nodes at default → LinkedAt others at default
linked_alike nodes others at default parent side kind linked =
    let node = get_or nodes at default in
    let other = get_or others at default in (
      subst (λ (n : ℕ). n < at) (sym parent) linked.0,
      subst (λ (n : ℕ). IsHalf (get_or others n default).kind other.yes n at) (sym parent)
          (subst (λ (b : Bool). IsHalf (get_or others node.parent default).kind b node.parent at)
          (sym side)
          (subst (λ (k : Kind). IsHalf k node.yes node.parent at) (sym kind) linked.1)),
    )

-- another node in place of a leaf, with the leaf's links, leaves those of all others
set_linked : (nodes : List Node) (at : ℕ) (written default : Node) → at < length nodes
    → IsLeafKind (get_or nodes at default).kind
    → written.parent ≡ (get_or nodes at default).parent
    → written.yes ≡ (get_or nodes at default).yes → IsLinked nodes
    → (place : ℕ) → 0 < place → place < length nodes
    → LinkedAt (set nodes at written) place default
set_linked nodes at written default within leaf parent side linked place later in_list =
    let node = get_or nodes place default in
    let here = linked place default later in_list in
    linked_alike nodes (set nodes at written) place default
    (elim (cases_Bool (place == at)) as (λ _.
    (get_or (set nodes at written) place default).parent ≡ node.parent) [
      | inl same ↦
          let is : place ≡ at = eqb-true place at same in
          subst (λ (k : ℕ). (get_or (set nodes at written) k default).parent
          ≡ (get_or nodes k default).parent) (sym is)
          (ap (λ (n : Node). n.parent) (get_or-set_same nodes at written default within) ∙ parent)
      | inr different ↦ ap (λ (n : Node). n.parent)
          (get_or-set_other nodes at place written default (eqb-false place at different))
    ])
    (elim (cases_Bool (place == at)) as (λ _.
    (get_or (set nodes at written) place default).yes ≡ node.yes) [
      | inl same ↦
          let is : place ≡ at = eqb-true place at same in
          subst (λ (k : ℕ). (get_or (set nodes at written) k default).yes
          ≡ (get_or nodes k default).yes) (sym is)
          (ap (λ (n : Node). n.yes) (get_or-set_same nodes at written default within) ∙ side)
      | inr different ↦ ap (λ (n : Node). n.yes)
          (get_or-set_other nodes at place written default (eqb-false place at different))
    ])
    (elim (cases_Bool (node.parent == at)) as (λ _.
    (get_or (set nodes at written) node.parent default).kind
    ≡ (get_or nodes node.parent default).kind) [
      | inl same ↦
          let is : node.parent ≡ at = eqb-true node.parent at same in
          absurd (no_half_of_leaf (get_or nodes node.parent default).kind node.yes node.parent place
          (subst (λ (k : ℕ). IsLeafKind (get_or nodes k default).kind) (sym is) leaf) here.1)
      | inr different ↦ ap (λ (n : Node). n.kind)
          (get_or-set_other nodes at node.parent written default
          (eqb-false node.parent at different))
    ])
    here

-- the facts of a leaf's links, whatever is said of what stands past the list
leaf_facts : (nodes : List Node) (at : ℕ) (default other : Node) → at < length nodes
    → IsLeafKind (get_or nodes at default).kind → IsLeafKind (get_or nodes at other).kind
leaf_facts nodes at default other within leaf =
    subst (λ (n : Node). IsLeafKind n.kind) (get_or_same nodes at default other within) leaf

-- a leaf in place of a leaf leaves all links
pub linked-set_leaf : (nodes : List Node) (at : ℕ) (written default : Node) → at < length nodes
    → IsLeafKind (get_or nodes at default).kind
    → written.parent ≡ (get_or nodes at default).parent
    → written.yes ≡ (get_or nodes at default).yes → IsLinked nodes
    → IsLinked (set nodes at written)
linked-set_leaf nodes at written default within leaf parent side linked =
    λ place other later in_list.
    let same = get_or_same nodes at default other within in
    set_linked nodes at written other within (leaf_facts nodes at default other within leaf)
    (parent ∙ ap (λ (n : Node). n.parent) same) (side ∙ ap (λ (n : Node). n.yes) same) linked place
    later (let long = length-set nodes at written in omega arith)

-- a longer list links what it linked
longer_linked : (nodes more : List Node) (place : ℕ) (default : Node) → place < length nodes
    → LinkedAt nodes place default → LinkedAt (nodes ++ more) place default
longer_linked nodes more place default in_list linked =
    let node = get_or nodes place default in
    let before = linked.0 in
    linked_alike nodes (nodes ++ more) place default
    (ap (λ (n : Node). n.parent) (get_or_append_left nodes more default place in_list))
    (ap (λ (n : Node). n.yes) (get_or_append_left nodes more default place in_list))
    (ap (λ (n : Node). n.kind)
    (get_or_append_left nodes more default node.parent (omega arith)))
    linked

-- a split of a leaf over two nodes at the end, which name it as their parent, links all
pub linked_split : (nodes : List Node) (at : ℕ) (written default first second : Node) (test : Test)
    (fresh : Bool) (half : ℕ) → at < length nodes
    → IsLeafKind (get_or nodes at default).kind
    → written.parent ≡ (get_or nodes at default).parent
    → written.yes ≡ (get_or nodes at default).yes → written.kind ≡ Split test fresh half
    → half + suc at ≡ length nodes → first.parent ≡ at → first.yes ≡ true → second.parent ≡ at
    → second.yes ≡ false → IsLinked nodes
    → IsLinked (set nodes at written ++ first ∷ second ∷ [])
linked_split nodes at written default first second test fresh half within leaf parent side is far
    one_parent one_side two_parent two_side linked = λ place other later in_list.
    by_place place other later
    (omega (arith, long, length-append (set nodes at written) (first ∷ second ∷ [])))
  where
    long : length (set nodes at written) ≡ length nodes
    long = length-set nodes at written

    end : (more : ℕ) (other : Node)
        → get_or (set nodes at written ++ first ∷ second ∷ []) (length nodes + more) other
        ≡ get_or (first ∷ second ∷ []) more other
    end more other =
        ap (λ n. get_or (set nodes at written ++ first ∷ second ∷ []) (n + more) other) (sym long)
        ∙ get_or-append-add (set nodes at written) (first ∷ second ∷ []) more other

    kind_at : (other : Node)
        → (get_or (set nodes at written ++ first ∷ second ∷ []) at other).kind
        ≡ Split test fresh half
    kind_at other =
        ap (λ (n : Node). n.kind)
        (get_or_append_left (set nodes at written) (first ∷ second ∷ []) other at
        (omega (arith, long))
        ∙ get_or-set_same nodes at written other within) ∙ is

    new_linked : (node other : Node) (more : ℕ) (b : Bool)
        → get_or (first ∷ second ∷ []) more other ≡ node → node.parent ≡ at → node.yes ≡ b
        → IsHalf (Split test fresh half) b at (length nodes + more)
        → LinkedAt (set nodes at written ++ first ∷ second ∷ []) (length nodes + more) other
    new_linked node other more b at_end to_parent on_side half_is =
        let found = end more other ∙ at_end in
        subst (λ (n : Node). (n.parent < length nodes + more)
        × IsHalf (get_or (set nodes at written ++ first ∷ second ∷ []) n.parent other).kind n.yes
        n.parent (length nodes + more)) (sym found) (
          omega arith,
          subst (λ (p : ℕ).
              IsHalf (get_or (set nodes at written ++ first ∷ second ∷ []) p other).kind node.yes p
              (length nodes + more)) (sym to_parent)
              (subst (λ (k : Kind). IsHalf k node.yes at (length nodes + more)) (sym (kind_at
              other))
              (subst (λ (c : Bool). IsHalf (Split test fresh half) c at (length nodes + more))
              (sym on_side) half_is)),
        )

    by_place : (place : ℕ) (other : Node) → 0 < place → place < length nodes + 2
        → LinkedAt (set nodes at written ++ first ∷ second ∷ []) place other
    by_place place other later in_list = elim (cases_lt place (length nodes)) [
      | inl old ↦
          let same = get_or_same nodes at default other within in
          longer_linked (set nodes at written) (first ∷ second ∷ []) place other
          (omega (arith, long))
          (set_linked nodes at written other within (leaf_facts nodes at default other within leaf)
          (parent ∙ ap (λ (n : Node). n.parent) same) (side ∙ ap (λ (n : Node). n.yes) same) linked
          place later old)
      | inr new ↦ elim (cases_Bool (place == length nodes)) [
        | inl same ↦
            let here : length nodes + 0 ≡ place =
            let is_end = eqb-true place (length nodes) same in omega arith in
            subst (λ (k : ℕ).
            LinkedAt (set nodes at written ++ first ∷ second ∷ []) k other) here
            (new_linked first other 0 true refl one_parent one_side (omega arith))
        | inr different ↦
            let here : length nodes + 1 ≡ place =
            let apart = eqb-false place (length nodes) different in omega arith in
            subst (λ (k : ℕ).
            LinkedAt (set nodes at written ++ first ∷ second ∷ []) k other) here
            (new_linked second other 1 false refl two_parent two_side (omega arith))
      ]
    ]

-- the half of a split on a side, beside another tree
abbrev pub half_beside : Bool → Test → Bool → Tree → Tree → Tree
half_beside true test fresh here other = branch test fresh here other
half_beside false test fresh here other = branch test fresh other here

-- where the other half stands
abbrev pub other_half : Bool → ℕ → ℕ → ℕ
other_half true parent half = suc (suc (parent + half))
other_half false parent half = suc (parent + half)

-- the tree of a split is made of the trees of its halves
pub half_tree : (nodes : List Node) (parent at : ℕ) (side : Bool) (test : Test) (fresh : Bool)
    (half : ℕ) (default : Node) → parent < length nodes
    → (get_or nodes parent default).kind ≡ Split test fresh half
    → IsHalf (Split test fresh half) side parent at
    → tree_below nodes parent
    ≡ half_beside side test fresh (tree_below nodes at) (tree_below nodes (other_half side parent
    half))
half_tree nodes parent at side test fresh half default within is half_is =
    shapes-at nodes parent default within
    ∙ ap (λ kind. shape_over kind (drop (suc parent) (shapes nodes))) is
    ∙ ap (λ tree. branch test fresh tree (get_or (drop (suc parent) (shapes nodes)) (suc half)
    open_leaf)) (get_or-drop (suc parent) (shapes nodes) half open_leaf)
    ∙ ap (λ tree. branch test fresh (get_or (shapes nodes) (suc parent + half) open_leaf) tree)
    (get_or-drop (suc parent) (shapes nodes) (suc half) open_leaf)
    ∙ by_side side half_is
  where
    by_side : (b : Bool) → IsHalf (Split test fresh half) b parent at
        → branch test fresh (get_or (shapes nodes) (suc parent + half) open_leaf)
        (get_or (shapes nodes) (suc parent + suc half) open_leaf)
        ≡ half_beside b test fresh (tree_below nodes at) (tree_below nodes (other_half b parent
        half))
    by_side true place =
        let one : suc parent + half ≡ at = omega arith in
        let two : suc parent + suc half ≡ suc (suc (parent + half)) = omega arith in
        ap (λ n. branch test fresh (tree_below nodes n) (tree_below nodes (suc parent + suc half)))
        one
        ∙ ap (λ n. branch test fresh (tree_below nodes at) (tree_below nodes n)) two
    by_side false place =
        let one : suc parent + half ≡ suc (parent + half) = omega arith in
        let two : suc parent + suc half ≡ at = omega arith in
        ap (λ n. branch test fresh (tree_below nodes n) (tree_below nodes (suc parent + suc half)))
        one
        ∙ ap (λ n. branch test fresh (tree_below nodes (suc (parent + half))) (tree_below nodes n))
        two

-- a half lends no more than the split
half_lends : (number : ℕ) (side : Bool) (test : Test) (fresh : Bool) (here other : Tree)
    → times_lent number (half_beside side test fresh here other)
    ≡ times_lent number here + times_lent number other
half_lends number true test fresh here other = refl
half_lends number false test fresh here other = omega arith

-- no node lends more than the first one
below_root : (number : ℕ) (nodes : List Node) (default : Node) (fuel at : ℕ) → IsLinked nodes
    → at ≤ fuel → at < length nodes
    → times_lent number (tree_below nodes at) ≤ times_lent number (tree_below nodes 0)
below_root number nodes default fuel zero linked few within = omega arith
below_root number nodes default zero (suc at) linked few within = absurd (omega arith)
below_root number nodes default (suc fuel) (suc at) linked few within =
    let node = get_or nodes (suc at) default in
    let link = linked (suc at) default (omega arith) within in
    let before = link.0 in
    let above = below_root number nodes default fuel node.parent linked (omega arith)
    (omega arith) in
    by_kind (get_or nodes node.parent default).kind refl link.1 above
  where
    by_kind : (kind : Kind)
        → (get_or nodes (get_or nodes (suc at) default).parent default).kind ≡ kind
        → IsHalf kind (get_or nodes (suc at) default).yes
        (get_or nodes (suc at) default).parent (suc at)
        → times_lent number (tree_below nodes (get_or nodes (suc at) default).parent)
        ≤ times_lent number (tree_below nodes 0)
        → times_lent number (tree_below nodes (suc at)) ≤ times_lent number (tree_below nodes 0)
    by_kind Open is half le = absurd half
    by_kind (Lent other) is half le = absurd half
    by_kind (Refuted reason fresh) is half le = absurd half
    by_kind (Split test fresh place) is half le =
        let node = get_or nodes (suc at) default in
        let link = linked (suc at) default (omega arith) within in
        let before = link.0 in
        let tree = half_tree nodes node.parent (suc at) node.yes test fresh place default
        (omega arith) is half in
        let sum = half_lends number node.yes test fresh (tree_below nodes (suc at))
        (tree_below nodes (other_half node.yes node.parent place)) in
        let both = ap (times_lent number) tree in
        omega arith

-- the way to a leaf that is lent is empty
pub way_to_leaf : (number : ℕ) → IsPathTo number (lent_leaf number) []
way_to_leaf number = record {
  zones = λ zone. ap (λ b. cond b (zone ∷ []) []) (eq-eqb number number refl)
      ∙ ap (λ z. z ∷ []) (sym (append-nil zone));
}

-- a leaf that is lent once has one zone
lent_once : (number : ℕ) (tree : Tree) (zone_box : List Literal) → IsPathTo number tree zone_box
    → times_lent number tree ≡ 1
lent_once number tree zone_box to =
    sym (length-lent_zones number tree []) ∙ ap length (to.zones [])

-- one literal more leads from the split to the leaf
way_beside : (number : ℕ) (side : Bool) (test : Test) (fresh : Bool) (here other : Tree)
    (zone_box : List Literal) → IsPathTo number here zone_box → times_lent number other ≡ 0
    → IsPathTo number (half_beside side test fresh here other)
    (record { test = test; yes = side } ∷ zone_box)
way_beside number true test fresh here other zone_box to none = record {
  zones = λ zone.
      ap (λ zones. zones ++ lent_zones number (with_test zone test false) other)
      (to.zones (with_test zone test true))
      ∙ ap (λ zones. ((with_test zone test true ++ zone_box) ∷ []) ++ zones)
      (lent_zones_absent number other (with_test zone test false) none)
      ∙ ap (λ z. z ∷ []) (append_assoc zone (record { test = test; yes = true } ∷ []) zone_box);
}
way_beside number false test fresh here other zone_box to none = record {
  zones = λ zone.
      ap (λ zones. zones ++ lent_zones number (with_test zone test false) here)
      (lent_zones_absent number other (with_test zone test true) none)
      ∙ to.zones (with_test zone test false)
      ∙ ap (λ z. z ∷ []) (append_assoc zone (record { test = test; yes = false } ∷ []) zone_box);
}

-- so the way goes on from a node to its parent
pub way_up : (number : ℕ) (nodes : List Node) (at : ℕ) (default : Node) (test : Test)
    (fresh : Bool) (half : ℕ) (zone_box : List Literal) → IsLinked nodes → 0 < at
    → at < length nodes
    → (get_or nodes (get_or nodes at default).parent default).kind ≡ Split test fresh half
    → times_lent number (tree_below nodes 0) ≡ 1
    → IsPathTo number (tree_below nodes at) zone_box
    → IsPathTo number (tree_below nodes (get_or nodes at default).parent)
    (record { test = test; yes = (get_or nodes at default).yes } ∷ zone_box)
way_up number nodes at default test fresh half zone_box linked later within is once to =
    let node = get_or nodes at default in
    let link = linked at default later within in
    let before = link.0 in
    let other = tree_below nodes (other_half node.yes node.parent half) in
    let half_is = subst (λ (k : Kind). IsHalf k node.yes node.parent at) is link.1 in
    let tree = half_tree nodes node.parent at node.yes test fresh half default (omega arith) is
    half_is in
    let sum = half_lends number node.yes test fresh (tree_below nodes at) other in
    let both = ap (times_lent number) tree in
    let here = lent_once number (tree_below nodes at) zone_box to in
    let most = below_root number nodes default node.parent node.parent linked (omega arith)
    (omega arith) in
    let none : times_lent number other ≡ 0 = omega arith in
    subst (λ (t : Tree). IsPathTo number t (record { test = test; yes = node.yes } ∷ zone_box))
    (sym tree) (way_beside number node.yes test fresh (tree_below nodes at) other zone_box to none)

-- the way begins at the leaf
pub way_starts : (number : ℕ) (nodes : List Node) (lents : List ℕ) (place leaf : ℕ)
    (default : Node) (zone_box : List Literal) → IsLeafAt number nodes lents place leaf
    → zone_box ≡ []
    → IsPathTo number (tree_below nodes leaf) (reverse zone_box)
way_starts number nodes lents place leaf default zone_box at none =
    subst (λ (literals : List Literal). IsPathTo number (tree_below nodes leaf) (reverse literals))
    (sym none)
    (subst (λ (tree : Tree). IsPathTo number tree [])
    (sym (shapes-at nodes leaf default at.in_nodes
    ∙ ap (λ kind. shape_over kind (drop (suc leaf) (shapes nodes))) (at.kind default)))
    (way_to_leaf number))
