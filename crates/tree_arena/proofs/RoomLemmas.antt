-- The calls on a tree, said of its three lists and their rooms.
use Rattle.std.proofs.Common.{◌≡◌, ℕ, zero, suc, ◌+◌, ◌*◌, ◌-◌, ◌<◌, ◌≤◌, Bool, true, false, List}
use Rattle.std.proofs.Common.{[]}
use Rattle.std.proofs.Common.{◌∷◌, ◌++◌, length, reverse, get_or, set, refl, sym, ap, ◌∙◌, subst}
use Rattle.std.proofs.Common.{arith}
use Rattle.std.proofs.Common.{length-append, append_assoc, add-one}
use Rattle.std.specs.List.{remove}
use Rattle.std.proofs.lemmas.Bool.{ltb-true}
use Rattle.std.proofs.lemmas.List.{length-set}
use Rattle.std.proofs.lemmas.List.Edits.{length-remove}
use Rattle.league_core.specs.inside.Rooms.{RoomyListView}
use Rattle.league_core.specs.declared.zone.Test.{Test}
use Rattle.league_core.specs.declared.zone.Reason.{Reason}
use Rattle.league_core.specs.search.Trees.{Tree, open_leaf, lent_leaf, refuted_leaf, branch}
use Rattle.league_core.specs.search.Trees.{has_open, node_count}
use Rattle.league_core.specs.inside.Lending.{put, times_lent, lent_count, all_opened}
use Rattle.tree_arena.specs.declared.node.Kind.{Kind}
use Rattle.tree_arena.specs.declared.node.Kind.TheVariants.{Open, Lent, Refuted, Split}
use Rattle.tree_arena.specs.declared.node.Node.{Node}
use Rattle.tree_arena.specs.inside.Arena.{tree_below, total, marks, number_mark, with_kind, IsArena}
use Rattle.tree_arena.specs.inside.Arena.{IsLeafAt, IsRoomy, shapes, weights, times_in, IsListed}
use Rattle.tree_arena.specs.inside.Arena.{IsLeafKind, IsLiveKind, open_mark, lent_mark}
use Rattle.tree_arena.specs.inside.Arena.{opens_among}
use Rattle.tree_arena.specs.inside.Order.{live_in, replaced}
use Rattle.tree_arena.proofs.MarkLemmas.{one_if-other, one_if-same, times_in-push, listed_within}
use Rattle.tree_arena.proofs.MarkLemmas.{listed_added, listed_taken, taken_last}
use Rattle.tree_arena.proofs.ShapeLemmas.{shapes-set_opened, get_or-mapped}
use Rattle.tree_arena.proofs.ArenaLemmas.{any_node, marked_at, length-marks, arena_leaf}
use Rattle.tree_arena.proofs.ArenaLemmas.{arena-nodes, arena-lent, arena-number, arena-has_open}
use Rattle.tree_arena.proofs.LiveLemmas.{live_leaf, live_halves, replaced-self, replaced-reverse}
use Rattle.tree_arena.proofs.LendLemmas.{IsInOrder, live_opens, lent_stands_once}
use Rattle.tree_arena.proofs.ArenaLemmas.{reopened_step, refuted_step, leaf_tree, nodes_split}
use Rattle.tree_arena.proofs.ArenaLemmas.{split_step, split_tree}
use Rattle.tree_arena.specs.inside.Calls.{most_nodes}

-- its list of leaves is in order
pub in_order : (nodes : RoomyListView Node) (live lent : RoomyListView ℕ)
    (roomy : IsRoomy nodes live lent)
    → IsInOrder nodes.items live.items roomy.opens lent.items
in_order nodes live lent roomy = record { arena = roomy.arena; order = roomy.order }

-- if a leaf is open the list has it
pub some_open : (nodes : RoomyListView Node) (live lent : RoomyListView ℕ) (tree : Tree)
    → IsRoomy nodes live lent → tree_below nodes.items 0 ≡ tree → has_open tree ≡ true
    → 0 < opens_among nodes.items live.items
some_open nodes live lent tree roomy is some =
    let opened = live_opens nodes.items live.items roomy.opens lent.items
    (in_order nodes live lent roomy) in
    let less = ltb-true 0 (length roomy.opens)
    (sym (arena-has_open nodes.items roomy.opens lent.items roomy.arena) ∙ ap has_open is ∙ some)
    in
    omega arith

-- when the first open leaf was lent, room was taken for it before
pub lends_room : (tree : Tree) (nodes more done : RoomyListView Node)
    (live taken lent lents : RoomyListView ℕ) (many : ℕ) → IsRoomy nodes live lent
    → tree_below nodes.items 0 ≡ tree → node_count tree + lent_count tree ≤ most_nodes
    → (opens : List ℕ) → IsArena done.items opens lents.items
    → live_in done.items ≡ reverse live.items → taken.items ≡ live.items
    → length done.items ≡ length nodes.items → length lents.items ≡ length lent.items + 1
    → many ≡ length lent.items + 1 → 2 * many ≤ more.room → many ≤ taken.room
    → done.room ≡ more.room → IsRoomy done taken lents
lends_room tree nodes more done live taken lent lents many roomy is few opens arena order same size
    longer many_is node_room live_room done_room =
    let nodes_counted = arena-nodes nodes.items roomy.opens lent.items roomy.arena in
    let lent_counted = arena-lent nodes.items roomy.opens lent.items roomy.arena in
    let few_nodes = ap node_count is in
    let few_lent = ap lent_count is in
    record {
      opens = opens;
      arena = arena;
      order = order ∙ ap reverse (sym same);
      few = omega arith;
      node_room = omega arith;
      live_room = omega arith;
    }

-- the leaf of a number is marked once
pub marked_once : (number : ℕ) (tree : Tree) (nodes : RoomyListView Node)
    (live lent : RoomyListView ℕ)
    (list : List Node) → IsRoomy nodes live lent → tree_below nodes.items 0 ≡ tree
    → times_lent number tree ≡ 1 → list ≡ nodes.items
    → total (marks (number_mark number) list) ≡ 1
marked_once number tree nodes live lent list roomy is once same =
    ap (λ ns. total (marks (number_mark number) ns)) same
    ∙ sym (arena-number number nodes.items roomy.opens lent.items roomy.arena)
    ∙ ap (times_lent number) is ∙ once

-- what the return of a lent leaf makes of a tree
pub record Returns (tree : Tree) (nodes : RoomyListView Node) (live lent : RoomyListView ℕ) :
    Type 0 where
  pub roomy : IsRoomy nodes live lent
  pub tree_is : tree_below nodes.items 0 ≡ tree

-- the leaf was taken off the list of lent ones
pub leaf_removed : (number : ℕ) (nodes : RoomyListView Node) (lent less : RoomyListView ℕ)
    (list : List Node)
    (slice : List ℕ) (place leaf : ℕ) → list ≡ nodes.items → slice ≡ lent.items
    → IsLeafAt number list slice place (get_or slice place 0)
    → leaf ≡ get_or lent.items place leaf → less.items ≡ remove lent.items place
    → IsLeafAt number nodes.items lent.items place leaf
leaf_removed number nodes lent less list slice place leaf same same_lent at taken removed =
    let there = subst (λ (ls : List ℕ). IsLeafAt number nodes.items ls place (get_or ls place 0))
    same_lent (subst (λ (ns : List Node). IsLeafAt number ns slice place (get_or slice place 0))
    same at) in
    let is : get_or lent.items place 0 ≡ leaf =
    in_range lent.items place leaf there.in_list ∙ sym taken in
    subst (λ (n : ℕ). IsLeafAt number nodes.items lent.items place n) is there
  where
    in_range : (xs : List ℕ) (i other : ℕ) → i < length xs → get_or xs i 0 ≡ get_or xs i other
    in_range [] i other within = absurd (omega arith)
    in_range (x ∷ xs) zero other within = refl
    in_range (x ∷ xs) (suc i) other within = in_range xs i other (omega arith)

-- it stands once in the list of leaves that are open or lent
pub removed_once_lent : (number : ℕ) (tree : Tree) (nodes : RoomyListView Node)
    (live lent less : RoomyListView ℕ) (list : List Node) (slice : List ℕ) (place leaf : ℕ)
    → IsRoomy nodes live lent → tree_below nodes.items 0 ≡ tree → times_lent number tree ≡ 1
    → list ≡ nodes.items → slice ≡ lent.items
    → IsLeafAt number list slice place (get_or slice place 0)
    → leaf ≡ get_or lent.items place leaf → less.items ≡ remove lent.items place
    → times_in leaf live.items ≡ 1
removed_once_lent number tree nodes live lent less list slice place leaf roomy is once same
    same_lent at taken removed =
    lent_stands_once number nodes.items live.items roomy.opens lent.items place leaf
    (in_order nodes live lent roomy)
    (leaf_removed number nodes lent less list slice place leaf same same_lent at taken removed)
    (ap (times_lent number) is ∙ once)

pub reopens : (number : ℕ) (tree : Tree) (nodes done : RoomyListView Node)
    (live lent less : RoomyListView ℕ) (list : List Node) (slice : List ℕ)
    (place leaf : ℕ)
    → IsRoomy nodes live lent → tree_below nodes.items 0 ≡ tree → times_lent number tree ≡ 1
    → list ≡ nodes.items → slice ≡ lent.items
    → IsLeafAt number list slice place (get_or slice place 0)
    → leaf ≡ get_or lent.items place leaf → less.items ≡ remove lent.items place
    → done.room ≡ nodes.room
    → ((default : Node) → done.items
    ≡ set nodes.items leaf (with_kind Open (get_or nodes.items leaf default)))
    → Returns (put number open_leaf tree) done live less
reopens number tree nodes done live lent less list slice place leaf roomy is once same same_lent at
    taken removed done_room written =
    let there = leaf_removed number nodes lent less list slice place leaf same same_lent at taken
    removed in
    let step = reopened_step nodes.items roomy.opens lent.items place leaf number any_node
    roomy.arena there in
    let order = live_leaf nodes.items leaf Open any_node there.in_nodes
    (subst (λ (kind : Kind). IsLiveKind kind) (sym (there.kind any_node)) tt) tt
    ∙ replaced-self leaf (live_in nodes.items) ∙ roomy.order in
    let count = length-remove lent.items place there.in_list in
    let shorter = ap length removed in
    let size = ap length (written any_node) ∙ length-set nodes.items leaf
    (with_kind Open (get_or nodes.items leaf any_node)) in
    let few = roomy.few in
    let node_room = roomy.node_room in
    let live_room = roomy.live_room in
    record {
      roomy = record {
        opens = roomy.opens ++ leaf ∷ [];
        arena = rw (written any_node, removed) step;
        order = ap live_in (written any_node) ∙ order;
        few = omega arith;
        node_room = omega arith;
        live_room = omega arith;
      };
      tree_is = ap (λ ns. tree_below ns 0) (written any_node)
          ∙ leaf_tree nodes.items roomy.opens lent.items place leaf number open_leaf Open any_node
          roomy.arena there (ap (times_lent number) is ∙ once) refl
          ∙ ap (put number open_leaf) is;
    }

pub refutes : (number : ℕ) (tree : Tree) (nodes done : RoomyListView Node)
    (live lent less fewer : RoomyListView ℕ)
    (list : List Node) (slice : List ℕ) (place leaf : ℕ) (reason : Reason) (fresh : Bool)
    → IsRoomy nodes live lent → tree_below nodes.items 0 ≡ tree → times_lent number tree ≡ 1
    → list ≡ nodes.items → slice ≡ lent.items
    → IsLeafAt number list slice place (get_or slice place 0)
    → leaf ≡ get_or lent.items place leaf → less.items ≡ remove lent.items place
    → done.room ≡ nodes.room
    → ((default : Node) → done.items
    ≡ set nodes.items leaf (with_kind (Refuted reason fresh) (get_or nodes.items leaf default)))
    → fewer.items ≡ replaced leaf [] live.items → fewer.room ≡ live.room + 1
    → Returns (put number (refuted_leaf reason fresh) tree) done fewer less
refutes number tree nodes done live lent less fewer list slice place leaf reason fresh roomy is once
    same same_lent at taken removed done_room written fewer_is fewer_room =
    let there = leaf_removed number nodes lent less list slice place leaf same same_lent at taken
    removed in
    let step = refuted_step nodes.items roomy.opens lent.items place leaf number reason fresh
    any_node roomy.arena there in
    let order = live_leaf nodes.items leaf (Refuted reason fresh) any_node there.in_nodes
    (subst (λ (kind : Kind). IsLiveKind kind) (sym (there.kind any_node)) tt) tt
    ∙ ap (replaced leaf []) roomy.order ∙ replaced-reverse leaf [] live.items in
    let count = length-remove lent.items place there.in_list in
    let shorter = ap length removed in
    let size = ap length (written any_node) ∙ length-set nodes.items leaf
    (with_kind (Refuted reason fresh) (get_or nodes.items leaf any_node)) in
    let few = roomy.few in
    let node_room = roomy.node_room in
    let live_room = roomy.live_room in
    record {
      roomy = record {
        opens = roomy.opens;
        arena = rw (written any_node, removed) step;
        order = ap live_in (written any_node) ∙ order ∙ ap reverse (sym fewer_is);
        few = omega arith;
        node_room = omega arith;
        live_room = omega arith;
      };
      tree_is = ap (λ ns. tree_below ns 0) (written any_node)
          ∙ leaf_tree nodes.items roomy.opens lent.items place leaf number
          (refuted_leaf reason fresh) (Refuted reason fresh) any_node roomy.arena there
          (ap (times_lent number) is ∙ once) refl
          ∙ ap (put number (refuted_leaf reason fresh)) is;
    }

pub splits : (number : ℕ) (tree : Tree) (nodes done : RoomyListView Node)
    (live lent less longer : RoomyListView ℕ)
    (list : List Node) (slice : List ℕ) (place leaf half : ℕ) (test : Test)
    → IsRoomy nodes live lent → tree_below nodes.items 0 ≡ tree → times_lent number tree ≡ 1
    → list ≡ nodes.items → slice ≡ lent.items
    → IsLeafAt number list slice place (get_or slice place 0)
    → leaf ≡ get_or lent.items place leaf → less.items ≡ remove lent.items place
    → half ≡ length nodes.items - leaf - 1
    → done.items ≡ nodes_split nodes.items leaf test half any_node → done.room + 2 ≡ nodes.room
    → longer.items
    ≡ replaced leaf (suc (length nodes.items) ∷ length nodes.items ∷ []) live.items
    → longer.room + 1 ≡ live.room
    → Returns (put number (branch test true open_leaf open_leaf) tree) done longer less
splits number tree nodes done live lent less longer list slice place leaf half test roomy is once
    same same_lent at taken removed half_is written done_room longer_is live_more =
    let there = leaf_removed number nodes lent less list slice place leaf same same_lent at taken
    removed in
    let within = there.in_nodes in
    let far : half + suc leaf ≡ length nodes.items = omega arith in
    let step = split_step nodes.items roomy.opens lent.items place leaf number test half any_node
    roomy.arena there far in
    let new = length nodes.items ∷ suc (length nodes.items) ∷ [] in
    let order = live_halves nodes.items leaf half test true any_node within far roomy.arena.within
    (subst (λ (kind : Kind). IsLiveKind kind) (sym (there.kind any_node)) tt)
    ∙ ap (replaced leaf new) roomy.order ∙ replaced-reverse leaf new live.items in
    let count = length-remove lent.items place there.in_list in
    let shorter = ap length removed in
    let set_size = length-set nodes.items leaf
    (with_kind (Split test true half) (get_or nodes.items leaf any_node)) in
    let size = ap length written
    ∙ length-append (set nodes.items leaf
    (with_kind (Split test true half) (get_or nodes.items leaf any_node)))
    (record { kind = Open; parent = leaf; yes = true }
    ∷ record { kind = Open; parent = leaf; yes = false } ∷ []) in
    let few = roomy.few in
    let node_room = roomy.node_room in
    let live_room = roomy.live_room in
    record {
      roomy = record {
        opens = (roomy.opens ++ suc (length nodes.items) ∷ []) ++ length nodes.items ∷ [];
        arena = rw (written, removed) step;
        order = ap live_in written ∙ order ∙ ap reverse (sym longer_is);
        few = omega arith;
        node_room = omega arith;
        live_room = omega arith;
      };
      tree_is = ap (λ ns. tree_below ns 0) written
          ∙ split_tree nodes.items roomy.opens lent.items place leaf number test half any_node
          roomy.arena there (ap (times_lent number) is ∙ once) far
          ∙ ap (put number (branch test true open_leaf open_leaf)) is;
    }

-- the same of the two nodes as they are pushed
pub splits_pushed : (number : ℕ) (tree : Tree) (nodes written one two : RoomyListView Node)
    (live lent less longer : RoomyListView ℕ) (list : List Node) (slice : List ℕ)
    (place leaf size : ℕ) (test : Test)
    → IsRoomy nodes live lent → tree_below nodes.items 0 ≡ tree → times_lent number tree ≡ 1
    → list ≡ nodes.items → slice ≡ lent.items
    → IsLeafAt number list slice place (get_or slice place 0)
    → leaf ≡ get_or lent.items place leaf → less.items ≡ remove lent.items place
    → size ≡ length nodes.items → written.room ≡ nodes.room
    → ((default : Node) → written.items ≡ set nodes.items leaf
    (with_kind (Split test true (size - leaf - 1)) (get_or nodes.items leaf default)))
    → one.items ≡ written.items ++ record { kind = Open; parent = leaf; yes = true } ∷ []
    → one.room + 1 ≡ written.room
    → two.items ≡ one.items ++ record { kind = Open; parent = leaf; yes = false } ∷ []
    → two.room + 1 ≡ one.room
    → longer.items ≡ replaced leaf ((size + 1) ∷ size ∷ []) live.items
    → longer.room + 1 ≡ live.room
    → Returns (put number (branch test true open_leaf open_leaf) tree) two longer less
splits_pushed number tree nodes written one two live lent less longer list slice place leaf size
    test roomy is once same same_lent at taken removed size_is write_room write_is one_is one_room
    two_is two_room longer_is live_more =
    let half = size - leaf - 1 in
    let node = with_kind (Split test true half) (get_or nodes.items leaf any_node) in
    splits number tree nodes two live lent less longer list slice place leaf half test roomy is
    once same same_lent at taken removed (ap (λ n. n - leaf - 1) size_is)
    (two_is
    ∙ ap (λ ns. ns ++ record { kind = Open; parent = leaf; yes = false } ∷ [])
    (one_is ∙ ap (λ ns. ns ++ record { kind = Open; parent = leaf; yes = true } ∷ [])
    (write_is any_node))
    ∙ append_assoc (set nodes.items leaf node)
    (record { kind = Open; parent = leaf; yes = true } ∷ [])
    (record { kind = Open; parent = leaf; yes = false } ∷ []))
    (omega arith)
    (longer_is ∙ ap (λ n. replaced leaf (n ∷ size ∷ []) live.items) (add-one size)
    ∙ ap (λ n. replaced leaf (suc n ∷ n ∷ []) live.items) size_is)
    live_more

-- one node is the whole tree
root_whole : (owns : List ℕ) → length owns ≡ 1
    → get_or (weights owns (record { kind = Open; parent = 0; yes = true } ∷ [])) 0 0
    ≡ total owns
root_whole [] long = absurd (omega arith)
root_whole (own ∷ []) long = omega arith
root_whole (own ∷ other ∷ owns) long = absurd (omega arith)

-- it is listed as open
open_each : (number : ℕ) → times_in number (0 ∷ []) ≡ get_or (1 ∷ []) number 0
open_each zero = refl
open_each (suc number) =
    let none = one_if-other (suc number) 0 (λ is. omega arith) in omega arith

-- and not as lent
lent_each : (number : ℕ) → times_in number [] ≡ get_or (0 ∷ []) number 0
lent_each zero = refl
lent_each (suc number) = refl

-- one open leaf
pub root_arena : IsArena (record { kind = Open; parent = 0; yes = true } ∷ []) (0 ∷ []) []
root_arena = record {
  some = omega arith;
  whole = root_whole;
  within = (tt, tt);
  linked = λ at default later within. absurd (omega arith);
  open_listed = record { each = open_each; many = refl };
  lent_listed = record { each = lent_each; many = refl };
}

-- one open leaf is an arena
root_roomy : (nodes : RoomyListView Node) (live lent : RoomyListView ℕ)
    → nodes.items ≡ record { kind = Open; parent = 0; yes = true } ∷ [] → live.items ≡ 0 ∷ []
    → lent.items ≡ [] → IsRoomy nodes live lent
root_roomy nodes live lent nodes_are live_are none =
    let root : Node = record { kind = Open; parent = 0; yes = true } in
    let lent_size = ap length none in
    let node_size = ap length nodes_are in
    record {
      opens = 0 ∷ [];
      arena = rw (nodes_are, none) root_arena;
      order = ap live_in nodes_are ∙ ap reverse (sym live_are);
      few = omega arith;
      node_room = omega arith;
      live_room = omega arith;
    }

-- one open leaf is an arena, as it is pushed on empty lists
pub root_pushed : (nodes begun : RoomyListView Node) (live started lent : RoomyListView ℕ)
    (none : List Node) (empty : List ℕ)
    → nodes.items ≡ begun.items ++ record { kind = Open; parent = 0; yes = true } ∷ []
    → begun.items ≡ none → none ≡ [] → live.items ≡ started.items ++ 0 ∷ []
    → started.items ≡ empty → empty ≡ [] → lent.items ≡ [] → IsRoomy nodes live lent
root_pushed nodes begun live started lent none empty pushed begun_is none_is waits started_is
    empty_is no_lent =
    root_roomy nodes live lent
    (pushed ∙ ap (λ list. list ++ record { kind = Open; parent = 0; yes = true } ∷ [])
    (begun_is ∙ none_is))
    (waits ∙ ap (λ list. list ++ 0 ∷ []) (started_is ∙ empty_is)) no_lent

-- a leaf that goes off the end of the list of lent ones is open
pub record OpensLast (opened : Tree) (nodes : RoomyListView Node) (live lent : RoomyListView ℕ) :
    Type 0 where
  pub roomy : IsRoomy nodes live lent
  pub same : all_opened (tree_below nodes.items 0) ≡ opened

pub lent_kind : (kind : Kind) → 1 ≤ lent_mark kind → IsLeafKind kind
lent_kind Open marked = tt
lent_kind (Lent number) marked = tt
lent_kind (Refuted reason fresh) marked = tt
lent_kind (Split test fresh half) marked = absurd (omega arith)

lent_live : (kind : Kind) → 1 ≤ lent_mark kind → IsLiveKind kind
lent_live Open marked = tt
lent_live (Lent number) marked = tt
lent_live (Refuted reason fresh) marked = absurd (omega arith)
lent_live (Split test fresh half) marked = absurd (omega arith)

lent_marks : (kind : Kind) → 1 ≤ lent_mark kind → (lent_mark kind ≡ 1) × (open_mark kind ≡ 0)
lent_marks Open marked = absurd (omega arith)
lent_marks (Lent number) marked = (refl, refl)
lent_marks (Refuted reason fresh) marked = absurd (omega arith)
lent_marks (Split test fresh half) marked = absurd (omega arith)

-- it stands among the nodes, and is lent
pub last_lent : (nodes : RoomyListView Node) (live lent less : RoomyListView ℕ) (leaf : ℕ)
    → IsRoomy nodes live lent → lent.items ≡ less.items ++ leaf ∷ []
    → (leaf < length nodes.items) × (1 ≤ lent_mark (get_or nodes.items leaf any_node).kind)
last_lent nodes live lent less leaf roomy popped =
    let listed = subst (λ (ls : List ℕ). IsListed (marks lent_mark nodes.items) ls) popped
    roomy.arena.lent_listed in
    let count = times_in-push leaf leaf less.items in
    let once = one_if-same leaf in
    let marked = listed_within (marks lent_mark nodes.items) (less.items ++ leaf ∷ []) leaf listed
    (omega arith) in
    let long = length-marks lent_mark nodes.items in
    let at_mark = marked.0 in
    let within : leaf < length nodes.items = omega arith in
    let mark = marked_at lent_mark nodes.items leaf any_node within in
    let some = marked.1 in
    (within, omega arith)

pub opens_last : (opened : Tree) (nodes done : RoomyListView Node)
    (live lent less : RoomyListView ℕ)
    (leaf : ℕ) → IsRoomy nodes live lent → all_opened (tree_below nodes.items 0) ≡ opened
    → lent.items ≡ less.items ++ leaf ∷ [] → done.room ≡ nodes.room
    → ((default : Node) → done.items
    ≡ set nodes.items leaf (with_kind Open (get_or nodes.items leaf default)))
    → OpensLast opened done live less
opens_last opened nodes done live lent less leaf roomy same popped done_room written =
    let last = last_lent nodes live lent less leaf roomy popped in
    let within = last.0 in
    let marks_are = lent_marks (get_or nodes.items leaf any_node).kind last.1 in
    let node = with_kind Open (get_or nodes.items leaf any_node) in
    let lent_long = length-marks lent_mark nodes.items in
    let open_long = length-marks open_mark nodes.items in
    let was_lent = marked_at lent_mark nodes.items leaf any_node within ∙ marks_are.0 in
    let was_open = marked_at open_mark nodes.items leaf any_node within ∙ marks_are.1 in
    let arena = roomy.arena in
    let order = live_leaf nodes.items leaf Open any_node within
    (lent_live (get_or nodes.items leaf any_node).kind last.1) tt
    ∙ replaced-self leaf (live_in nodes.items) ∙ roomy.order in
    let step = arena_leaf nodes.items roomy.opens lent.items (roomy.opens ++ leaf ∷ [])
    less.items leaf Open any_node arena within
    (lent_kind (get_or nodes.items leaf any_node).kind last.1) tt
    (listed_added (marks open_mark nodes.items) roomy.opens leaf arena.open_listed
    (omega arith) was_open)
    (listed_taken (marks lent_mark nodes.items) lent.items less.items leaf arena.lent_listed
    (omega arith) was_lent
    (λ other. taken_last less.items leaf other ∙ ap (times_in other) (sym popped))
    (let long = length-append less.items (leaf ∷ []) in let size = ap length popped in
    omega arith)) in
    let size = ap length (written any_node) ∙ length-set nodes.items leaf node in
    let shorter = ap length popped ∙ length-append less.items (leaf ∷ []) in
    let few = roomy.few in
    let node_room = roomy.node_room in
    let live_room = roomy.live_room in
    record {
      roomy = record {
        opens = roomy.opens ++ leaf ∷ [];
        arena = rw (written any_node) step;
        order = ap live_in (written any_node) ∙ order;
        few = omega arith;
        node_room = omega arith;
        live_room = omega arith;
      };
      same = ap (λ ns. all_opened (tree_below ns 0)) (written any_node)
          ∙ sym (get_or-mapped all_opened refl (shapes (set nodes.items leaf node)) 0)
          ∙ ap (λ trees. get_or trees 0 open_leaf)
          (shapes-set_opened node nodes.items leaf any_node within marks_are.0 refl)
          ∙ get_or-mapped all_opened refl (shapes nodes.items) 0 ∙ same;
    }

-- if nothing is lent all leaves that could be are open
all_opened-none : (tree : Tree) → lent_count tree ≡ 0 → all_opened tree ≡ tree
all_opened-none open_leaf none = refl
all_opened-none (lent_leaf number) none = absurd (omega arith)
all_opened-none (refuted_leaf reason fresh) none = refl
all_opened-none (branch test fresh yes_half no_half) none =
    ap (λ half. branch test fresh half (all_opened no_half))
    (all_opened-none yes_half (omega arith))
    ∙ ap (λ half. branch test fresh yes_half half) (all_opened-none no_half (omega arith))

pub opens_all : (opened : Tree) (nodes : RoomyListView Node) (live lent : RoomyListView ℕ)
    → OpensLast opened nodes live lent → length lent.items ≡ 0
    → tree_below nodes.items 0 ≡ opened
opens_all opened nodes live lent opens none =
    sym (all_opened-none (tree_below nodes.items 0)
    (arena-lent nodes.items opens.roomy.opens lent.items opens.roomy.arena ∙ none))
    ∙ opens.same
