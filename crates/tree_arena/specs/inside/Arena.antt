-- The arena: nodes in one list, each with its parent. The halves of a split come after it, the no
-- half right after the yes half, and are named by how far after the next node they stand.
use Rattle.std.specs.Prelude.{◌≡◌, ℕ, suc, ◌+◌, ◌-◌, ◌*◌, ◌<◌, ◌≤◌, Bool, true, false, ◌==◌}
use Rattle.std.specs.Prelude.{sum_by, Option, Some, None, slice_set}
use Rattle.std.specs.Prelude.{List, [], ◌∷◌, ◌++◌, length, map, if◌then◌else◌, slice_index_or}
use Rattle.std.specs.Prelude.{reverse}
use Rattle.league_core.specs.declared.tree.TreeNode.{TreeNode}
use Rattle.league_core.specs.declared.tree.TreeNode.TheVariants.{Open as open_node}
use Rattle.league_core.specs.declared.tree.TreeNode.TheVariants.{Lent as lent_node}
use Rattle.league_core.specs.declared.tree.TreeNode.TheVariants.{Refuted as refuted_node}
use Rattle.league_core.specs.declared.tree.TreeNode.TheVariants.{Split as split_node}
use Rattle.league_core.specs.search.Trees.{Tree, open_leaf, lent_leaf, refuted_leaf, branch}
use Rattle.league_core.specs.search.Trees.{preorder, node_count}
use Rattle.tree_arena.specs.declared.node.Kind.{Kind}
use Rattle.tree_arena.specs.declared.node.Kind.TheVariants.{Open, Lent, Refuted, Split}
use Rattle.league_core.specs.inside.Rooms.{RoomyListView}
use Rattle.league_core.specs.declared.zone.Literal.{Literal}
use Rattle.league_core.specs.inside.Lending.{lent_zones}
use Rattle.tree_arena.specs.declared.node.Node.{Node}
use Rattle.tree_arena.specs.declared.node.TheConstants.{MOST_NUMBERS}
use Rattle.tree_arena.specs.inside.Order.{live_in}

-- the tree below a node, by the trees of the nodes after it
abbrev pub shape_over : Kind → List Tree → Tree
shape_over Open trees = open_leaf
shape_over (Lent number) trees = lent_leaf number
shape_over (Refuted reason fresh) trees = refuted_leaf reason fresh
shape_over (Split test fresh half) trees =
    branch test fresh (slice_index_or trees half open_leaf)
    (slice_index_or trees (suc half) open_leaf)

-- the trees below all nodes
abbrev pub shapes : List Node → List Tree
shapes [] = []
shapes (node ∷ nodes) = shape_over node.kind (shapes nodes) ∷ shapes nodes

-- the tree below a node by its number
abbrev pub tree_below : List Node → ℕ → Tree
tree_below nodes at = slice_index_or (shapes nodes) at open_leaf

-- the sum of a list
abbrev pub total : List ℕ → ℕ
total [] = 0
total (n ∷ ns) = n + total ns

-- the weight below a node, by its own and those of the nodes after it
abbrev pub weight_over : ℕ → Kind → List ℕ → ℕ
weight_over own Open behind = own
weight_over own (Lent number) behind = own
weight_over own (Refuted reason fresh) behind = own
weight_over own (Split test fresh half) behind =
    own + slice_index_or behind half 0 + slice_index_or behind (suc half) 0

-- the weights below all nodes, by the weight of each
abbrev pub weights : List ℕ → List Node → List ℕ
weights [] nodes = []
weights (own ∷ owns) [] = []
weights (own ∷ owns) (node ∷ nodes) =
    weight_over own node.kind (weights owns nodes) ∷ weights owns nodes

-- each node stands in the tree of the first one once: whatever the nodes weigh, it weighs as much
-- as all of them
abbrev pub IsWhole : List Node → Type 0
IsWhole nodes =
    (owns : List ℕ) → length owns ≡ length nodes
    → slice_index_or (weights owns nodes) 0 0 ≡ total owns

-- the halves of a split stand among so many nodes after it
abbrev pub AreHalvesWithin : Kind → ℕ → Type 0
AreHalvesWithin Open behind = Unit {0}
AreHalvesWithin (Lent number) behind = Unit {0}
AreHalvesWithin (Refuted reason fresh) behind = Unit {0}
AreHalvesWithin (Split test fresh half) behind = suc half < behind

-- so do those of all splits
abbrev pub AllWithin : List Node → Type 0
AllWithin [] = Unit {0}
AllWithin (node ∷ nodes) = AreHalvesWithin node.kind (length nodes) × AllWithin nodes

-- the node with this number is the half of a split with that number, on the side if its test is
-- true or false
abbrev pub IsHalf : Kind → Bool → ℕ → ℕ → Type 0
IsHalf Open side parent at = ⊥
IsHalf (Lent number) side parent at = ⊥
IsHalf (Refuted reason fresh) side parent at = ⊥
IsHalf (Split test fresh half) true parent at = suc (parent + half) ≡ at
IsHalf (Split test fresh half) false parent at = suc (suc (parent + half)) ≡ at

-- each node but the first stands where its parent says
abbrev pub IsLinked : List Node → Type 0
IsLinked nodes =
    (at : ℕ) (default : Node) → 0 < at → at < length nodes
    → ((slice_index_or nodes at default).parent < at)
    × IsHalf (slice_index_or nodes (slice_index_or nodes at default).parent default).kind
    (slice_index_or nodes at default).yes (slice_index_or nodes at default).parent at

-- a mark on open leaves
abbrev pub open_mark : Kind → ℕ
open_mark Open = 1
open_mark (Lent number) = 0
open_mark (Refuted reason fresh) = 0
open_mark (Split test fresh half) = 0

-- a mark on lent leaves
abbrev pub lent_mark : Kind → ℕ
lent_mark Open = 0
lent_mark (Lent number) = 1
lent_mark (Refuted reason fresh) = 0
lent_mark (Split test fresh half) = 0

-- a mark on leaves that are lent under a number
abbrev pub number_mark : ℕ → Kind → ℕ
number_mark number Open = 0
number_mark number (Lent other) = if other == number then 1 else 0
number_mark number (Refuted reason fresh) = 0
number_mark number (Split test fresh half) = 0

-- a mark on each node
abbrev pub node_mark : Kind → ℕ
node_mark kind = 1

-- the marks of all nodes
abbrev pub marks : (Kind → ℕ) → List Node → List ℕ
marks mark nodes = map (λ node. mark node.kind) nodes

-- how often a number stands in a list
abbrev pub times_in : ℕ → List ℕ → ℕ
times_in number list = sum_by (λ other. if other == number then 1 else 0) list

-- a list has the number of each node that is marked, once
pub record IsListed (marked : List ℕ) (list : List ℕ) : Type 0 where
  pub each : (number : ℕ) → times_in number list ≡ slice_index_or marked number 0
  pub many : total marked ≡ length list

-- what always holds of the nodes, of the list of those that are open and of the list of those that
-- are lent
pub record IsArena (nodes : List Node) (open_list lent_list : List ℕ) : Type 0 where
  pub some : 0 < length nodes
  pub whole : IsWhole nodes
  pub within : AllWithin nodes
  pub linked : IsLinked nodes
  pub open_listed : IsListed (marks open_mark nodes) open_list
  pub lent_listed : IsListed (marks lent_mark nodes) lent_list

-- a leaf, whatever stands in it
abbrev pub IsLeafKind : Kind → Type 0
IsLeafKind Open = Unit {0}
IsLeafKind (Lent number) = Unit {0}
IsLeafKind (Refuted reason fresh) = Unit {0}
IsLeafKind (Split test fresh half) = ⊥

-- a node with something else in it, where it stood
abbrev pub with_kind : Kind → Node → Node
with_kind kind node = record node { kind = kind }

-- the list of lent leaves has one that is lent under this number at this place
pub record IsLeafAt (number : ℕ) (nodes : List Node) (lent_list : List ℕ) (place leaf : ℕ)
    : Type 0 where
  pub in_list : place < length lent_list
  pub entry : leaf ≡ slice_index_or lent_list place leaf
  pub in_nodes : leaf < length nodes
  pub kind : (default : Node) → (slice_index_or nodes leaf default).kind ≡ Lent number

-- what always holds of an arena that has room for each lent leaf to come back as a split: one list
-- has the leaves that are open or lent, in the order of the tree, with the first one last
pub record IsRoomy (nodes : RoomyListView Node) (live lent : RoomyListView ℕ) : Type 0 where
  pub opens : List ℕ
  pub arena : IsArena nodes.items opens lent.items
  pub order : live_in nodes.items ≡ reverse live.items
  pub few : length nodes.items + 2 * length lent.items ≤ MOST_NUMBERS
  pub node_room : 2 * length lent.items ≤ nodes.room
  pub live_room : length lent.items ≤ live.room

-- a leaf that may come back, or may be lent: it is open or lent
abbrev pub IsLiveKind : Kind → Type 0
IsLiveKind Open = Unit {0}
IsLiveKind (Lent number) = Unit {0}
IsLiveKind (Refuted reason fresh) = ⊥
IsLiveKind (Split test fresh half) = ⊥

-- how many of these nodes are open
abbrev pub opens_among : List Node → List ℕ → ℕ
opens_among nodes list =
    sum_by (λ at. open_mark (slice_index_or nodes at (record {
      kind = Open;
      parent = 0;
      yes = false;
    })).kind) list

-- the list has an open leaf at this place, and none after it
pub record IsLastOpen (nodes : List Node) (list : List ℕ) (place : ℕ) : Type 0 where
  pub in_list : place < length list
  pub kind : (default : Node)
      → (slice_index_or nodes (slice_index_or list place 0) default).kind ≡ Open
  pub none_after : (after : ℕ) (default : Node) → place < after → after < length list
      → open_mark (slice_index_or nodes (slice_index_or list after 0) default).kind ≡ 0

-- one leaf below is lent under the number, and this way leads to it
pub record IsPathTo (number : ℕ) (tree : Tree) (zone_box : List Literal) : Type 0 where
  pub zones : (zone : List Literal) → lent_zones number zone tree ≡ (zone ++ zone_box) ∷ []

-- a node as it stands in the list of its tree
abbrev pub listed_kind : Kind → TreeNode
listed_kind Open = open_node
listed_kind (Lent number) = lent_node number
listed_kind (Refuted reason fresh) = refuted_node reason fresh
listed_kind (Split test fresh half) = split_node test fresh

-- the stack after a node was looked at, whose top is its first: the halves of a split come next,
-- the yes half first
abbrev pub stack_after : Kind → ℕ → List ℕ → List ℕ
stack_after Open at stack = stack
stack_after (Lent number) at stack = stack
stack_after (Refuted reason fresh) at stack = stack
stack_after (Split test fresh half) at stack =
    suc (at + half) ∷ suc (suc (at + half)) ∷ stack

-- the list of the trees below the nodes on a stack
abbrev pub pending : List Node → List ℕ → List TreeNode
pending nodes [] = []
pending nodes (at ∷ stack) = preorder (tree_below nodes at) ++ pending nodes stack

-- how many nodes these trees have
abbrev pub pending_count : List Node → List ℕ → ℕ
pending_count nodes [] = 0
pending_count nodes (at ∷ stack) = node_count (tree_below nodes at) + pending_count nodes stack

-- the numbers are those of nodes
abbrev pub AreNodes : ℕ → List ℕ → Type 0
AreNodes size [] = Unit {0}
AreNodes size (at ∷ stack) = (at < size) × AreNodes size stack

-- the halves of the node have numbers
abbrev pub HasRoomFor : Kind → ℕ → Type 0
HasRoomFor Open at = Unit {0}
HasRoomFor (Lent number) at = Unit {0}
HasRoomFor (Refuted reason fresh) at = Unit {0}
HasRoomFor (Split test fresh half) at = suc (suc (at + half)) < MOST_NUMBERS

-- the trees below all nodes, if some nodes stand for trees that are given
abbrev pub filled : List (Option Tree) → List Node → List Tree
filled given [] = []
filled [] (node ∷ nodes) = shape_over node.kind (filled [] nodes) ∷ filled [] nodes
filled (None ∷ given) (node ∷ nodes) =
    shape_over node.kind (filled given nodes) ∷ filled given nodes
filled (Some tree ∷ given) (node ∷ nodes) = tree ∷ filled given nodes

-- a node of a list as it stands in the arena, the halves of a split so far after it
abbrev pub kind_over : TreeNode → ℕ → Kind
kind_over open_node half = Open
kind_over (lent_node number) half = Lent number
kind_over (refuted_node reason fresh) half = Refuted reason fresh
kind_over (split_node test fresh) half = Split test fresh half

-- the open halves of a split
abbrev pub halves_under : ℕ → List Node
halves_under at =
    record { kind = Open; parent = at; yes = true }
    ∷ record { kind = Open; parent = at; yes = false }
    ∷ []

-- the nodes that a node of a list brings along: the open halves of a split
abbrev pub halves_of_node : TreeNode → ℕ → List Node
halves_of_node open_node at = []
halves_of_node (lent_node number) at = []
halves_of_node (refuted_node reason fresh) at = []
halves_of_node (split_node test fresh) at = halves_under at

-- the arena with a node of a list at a place that was open
abbrev pub nodes_taken : TreeNode → List Node → ℕ → Node → List Node
nodes_taken node nodes at default =
    slice_set nodes at
    (with_kind (kind_over node (length nodes - at - 1)) (slice_index_or nodes at default))
    ++ halves_of_node node at

-- the places that wait for nodes of the list then, the next one last
abbrev pub places_taken : TreeNode → ℕ → List ℕ → List ℕ
places_taken open_node size places = places
places_taken (lent_node number) size places = places
places_taken (refuted_node reason fresh) size places = places
places_taken (split_node test fresh) size places = (places ++ suc size ∷ []) ++ size ∷ []

-- the open leaves then
abbrev pub open_taken : TreeNode → ℕ → List ℕ → List ℕ
open_taken open_node at opens = opens ++ at ∷ []
open_taken (lent_node number) at opens = opens
open_taken (refuted_node reason fresh) at opens = opens
open_taken (split_node test fresh) at opens = opens

-- the leaves that are open or lent then
abbrev pub live_taken : TreeNode → ℕ → List ℕ → List ℕ
live_taken open_node at live = live ++ at ∷ []
live_taken (lent_node number) at live = live ++ at ∷ []
live_taken (refuted_node reason fresh) at live = live
live_taken (split_node test fresh) at live = live

-- the lent leaves then
abbrev pub lent_taken : TreeNode → ℕ → List ℕ → List ℕ
lent_taken open_node at lents = lents
lent_taken (lent_node number) at lents = lents ++ at ∷ []
lent_taken (refuted_node reason fresh) at lents = lents
lent_taken (split_node test fresh) at lents = lents

-- the node is a split
abbrev pub is_split_node : TreeNode → Bool
is_split_node open_node = false
is_split_node (lent_node number) = false
is_split_node (refuted_node reason fresh) = false
is_split_node (split_node test fresh) = true
