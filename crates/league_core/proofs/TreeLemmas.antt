-- Trees, their nodes and their leaves: facts of all nodes, how many nodes there are, and what the
-- leaves say of the whole tree.
use Rattle.std.proofs.Common.{◌≡◌, ℕ, ◌+◌, ◌*◌, ◌≤◌, true, false, ◌&&◌, ◌||◌, ◌==◌, List, [], ◌++◌}
use Rattle.std.proofs.Common.{map, filter, length, refl, sym, ap, ◌∙◌, inl, inr, arith}
use Rattle.std.proofs.Common.{length-append}
use Rattle.std.specs.List.{list_any, list_all, All}
use Rattle.std.proofs.lemmas.Bool.{cases_Bool}
use Rattle.std.proofs.lemmas.List.{map-append}
use Rattle.std.proofs.lemmas.List.Elements.{All-nil, All-cons, All-append, filter-append}
use Rattle.std.proofs.lemmas.List.Folds.{list_any-append, list_all-append}
use Rattle.league_core.specs.declared.zone.Literal.{Literal}
use Rattle.league_core.specs.declared.tree.TreeNode.{TreeNode}
use Rattle.league_core.specs.declared.tree.TreeNode.TheVariants.{Split, Open, Lent, Refuted}
use Rattle.league_core.specs.search.Zones.{with_test}
use Rattle.league_core.specs.search.Trees.{Tree, open_leaf, lent_leaf, refuted_leaf, branch}
use Rattle.league_core.specs.search.Trees.{zones_from, preorder, node_count, NodesMeet, new_count}
use Rattle.league_core.specs.search.Trees.{has_open, is_refuted}
use Rattle.league_core.specs.inside.Leaves.{Leaf, leaves_from, is_open_leaf, is_lent_under}
use Rattle.league_core.specs.inside.Leaves.{is_refuted_leaf}
use Rattle.league_core.specs.inside.Lending.{lent_zones}
use Rattle.league_core.proofs.plain.TruthValues.{one_if-most}

-- a fact of each node gives what it implies there
pub NodesMeet-weaker : (Fact Other : List Literal → TreeNode → Type 0)
    → ((zone : List Literal) (node : TreeNode) → Fact zone node → Other zone node)
    → (tree : Tree) (zone : List Literal) → NodesMeet Fact zone tree → NodesMeet Other zone tree
NodesMeet-weaker Fact Other gives open_leaf zone facts = gives zone Open facts
NodesMeet-weaker Fact Other gives (lent_leaf number) zone facts = gives zone (Lent number) facts
NodesMeet-weaker Fact Other gives (refuted_leaf reason fresh) zone facts =
    gives zone (Refuted reason fresh) facts
NodesMeet-weaker Fact Other gives (branch test fresh yes_half no_half) zone facts = (
  gives zone (Split test fresh) facts.0,
  NodesMeet-weaker Fact Other gives yes_half (with_test zone test true) facts.1,
  NodesMeet-weaker Fact Other gives no_half (with_test zone test false) facts.2,
)

-- a fact of each node is one of each leaf
pub leaves_meet : (Fact : List Literal → TreeNode → Type 0) (tree : Tree) (zone : List Literal)
    → NodesMeet Fact zone tree → All (λ leaf. Fact leaf.zone leaf.node) (leaves_from zone tree)
leaves_meet Fact open_leaf zone facts =
    All-cons (λ (leaf : Leaf). Fact leaf.zone leaf.node) (record { zone = zone; node = Open })
    [] facts (All-nil (λ (leaf : Leaf). Fact leaf.zone leaf.node))
leaves_meet Fact (lent_leaf number) zone facts =
    All-cons (λ (leaf : Leaf). Fact leaf.zone leaf.node)
    (record { zone = zone; node = Lent number }) [] facts
    (All-nil (λ (leaf : Leaf). Fact leaf.zone leaf.node))
leaves_meet Fact (refuted_leaf reason fresh) zone facts =
    All-cons (λ (leaf : Leaf). Fact leaf.zone leaf.node)
    (record { zone = zone; node = Refuted reason fresh }) [] facts
    (All-nil (λ (leaf : Leaf). Fact leaf.zone leaf.node))
leaves_meet Fact (branch test fresh yes_half no_half) zone facts =
    All-append (λ (leaf : Leaf). Fact leaf.zone leaf.node)
    (leaves_from (with_test zone test true) yes_half)
    (leaves_from (with_test zone test false) no_half)
    (leaves_meet Fact yes_half (with_test zone test true) facts.1)
    (leaves_meet Fact no_half (with_test zone test false) facts.2)

-- a tree's list has each of its nodes
pub length-preorder : (tree : Tree) → length (preorder tree) ≡ node_count tree
length-preorder open_leaf = refl
length-preorder (lent_leaf number) = refl
length-preorder (refuted_leaf reason fresh) = refl
length-preorder (branch test fresh yes_half no_half) =
    omega (
      arith,
      length-append (preorder yes_half)
          (preorder no_half),
      length-preorder yes_half,
      length-preorder no_half,
    )

-- a tree has one leaf more than it has splits
pub length-leaves_from : (tree : Tree) (zone : List Literal)
    → node_count tree + 1 ≡ 2 * length (leaves_from zone tree)
length-leaves_from open_leaf zone = refl
length-leaves_from (lent_leaf number) zone = refl
length-leaves_from (refuted_leaf reason fresh) zone = refl
length-leaves_from (branch test fresh yes_half no_half) zone =
    omega (
      arith,
      length-append (leaves_from (with_test zone test true) yes_half)
          (leaves_from (with_test zone test false) no_half),
      length-leaves_from yes_half
          (with_test zone test true),
      length-leaves_from no_half (with_test zone test false),
    )

-- no more nodes are new than there are
pub new_count-le : (tree : Tree) → new_count tree ≤ node_count tree
new_count-le open_leaf = omega arith
new_count-le (lent_leaf number) = omega arith
new_count-le (refuted_leaf reason fresh) = one_if-most fresh
new_count-le (branch test fresh yes_half no_half) =
    omega (arith, one_if-most fresh, new_count-le yes_half, new_count-le no_half)

-- the zones of the leaves are the tree's zones
pub zones-leaves_from : (tree : Tree) (zone : List Literal)
    → map (λ (leaf : Leaf). leaf.zone) (leaves_from zone tree) ≡ zones_from zone tree
zones-leaves_from open_leaf zone = refl
zones-leaves_from (lent_leaf number) zone = refl
zones-leaves_from (refuted_leaf reason fresh) zone = refl
zones-leaves_from (branch test fresh yes_half no_half) zone =
    map-append (λ (leaf : Leaf). leaf.zone) (leaves_from (with_test zone test true) yes_half)
    (leaves_from (with_test zone test false) no_half)
    ∙ ap (λ zones. zones ++ map (λ (leaf : Leaf). leaf.zone)
    (leaves_from (with_test zone test false) no_half))
    (zones-leaves_from yes_half (with_test zone test true))
    ∙ ap (λ zones. zones_from (with_test zone test true) yes_half ++ zones)
    (zones-leaves_from no_half (with_test zone test false))

-- the zones that are lent under a number are those of its leaves
pub lent_zones-leaves_from : (number : ℕ) (tree : Tree) (zone : List Literal)
    → lent_zones number zone tree ≡ map (λ (leaf : Leaf). leaf.zone)
    (filter (λ (leaf : Leaf). is_lent_under number leaf.node) (leaves_from zone tree))
lent_zones-leaves_from number open_leaf zone = refl
lent_zones-leaves_from number (lent_leaf other) zone =
    elim (cases_Bool (other == number)) as (λ _. lent_zones number zone (lent_leaf other)
    ≡ map (λ (leaf : Leaf). leaf.zone)
    (filter (λ (leaf : Leaf). is_lent_under number leaf.node)
    (leaves_from zone (lent_leaf other)))) [
      | inl same ↦ rw same refl
      | inr different ↦ rw different refl
    ]
lent_zones-leaves_from number (refuted_leaf reason fresh) zone = refl
lent_zones-leaves_from number (branch test fresh yes_half no_half) zone =
    let lent = λ (leaf : Leaf). is_lent_under number leaf.node in
    let zone_of = λ (leaf : Leaf). leaf.zone in
    let yes_leaves = leaves_from (with_test zone test true) yes_half in
    let no_leaves = leaves_from (with_test zone test false) no_half in
    ap (λ zones. zones ++ lent_zones number (with_test zone test false) no_half)
    (lent_zones-leaves_from number yes_half (with_test zone test true))
    ∙ ap (λ zones. map zone_of (filter lent yes_leaves) ++ zones)
    (lent_zones-leaves_from number no_half (with_test zone test false))
    ∙ sym (map-append zone_of (filter lent yes_leaves) (filter lent no_leaves))
    ∙ ap (map zone_of) (sym (filter-append lent yes_leaves no_leaves))

-- a tree has an open leaf exactly when one of its leaves is open
pub has_open-leaves_from : (tree : Tree) (zone : List Literal)
    → has_open tree ≡ list_any (λ leaf. is_open_leaf leaf.node) (leaves_from zone tree)
has_open-leaves_from open_leaf zone = refl
has_open-leaves_from (lent_leaf number) zone = refl
has_open-leaves_from (refuted_leaf reason fresh) zone = refl
has_open-leaves_from (branch test fresh yes_half no_half) zone =
    ap (λ b. b || has_open no_half) (has_open-leaves_from yes_half (with_test zone test true))
    ∙ ap (λ b. list_any (λ leaf. is_open_leaf leaf.node)
    (leaves_from (with_test zone test true) yes_half) || b)
    (has_open-leaves_from no_half (with_test zone test false))
    ∙ sym (list_any-append (λ (leaf : Leaf). is_open_leaf leaf.node)
    (leaves_from (with_test zone test true) yes_half)
    (leaves_from (with_test zone test false) no_half))

-- it is refuted exactly when each of its leaves is
pub is_refuted-leaves_from : (tree : Tree) (zone : List Literal)
    → is_refuted tree ≡ list_all (λ leaf. is_refuted_leaf leaf.node) (leaves_from zone tree)
is_refuted-leaves_from open_leaf zone = refl
is_refuted-leaves_from (lent_leaf number) zone = refl
is_refuted-leaves_from (refuted_leaf reason fresh) zone = refl
is_refuted-leaves_from (branch test fresh yes_half no_half) zone =
    ap (λ b. b && is_refuted no_half) (is_refuted-leaves_from yes_half (with_test zone test true))
    ∙ ap (λ b. list_all (λ leaf. is_refuted_leaf leaf.node)
    (leaves_from (with_test zone test true) yes_half) && b)
    (is_refuted-leaves_from no_half (with_test zone test false))
    ∙ sym (list_all-append (λ (leaf : Leaf). is_refuted_leaf leaf.node)
    (leaves_from (with_test zone test true) yes_half)
    (leaves_from (with_test zone test false) no_half))
