-- The leaves of an arena that are open or lent are those of its tree in their order: the last open
-- one of the list is the first open one of the tree, and a lent one stands in the list once.
use Rattle.std.proofs.Common.{◌≡◌, ◌≢◌, ℕ, zero, suc, ◌+◌, ◌<◌, ◌≤◌, false, ◌==◌, cond, nat_lt}
use Rattle.std.proofs.Common.{◌&&◌, List, [], ◌∷◌, ◌++◌, length, map, reverse, get_or, set, take}
use Rattle.std.proofs.Common.{drop, drop-cons, length-drop, refl, sym, ap, ◌∙◌, subst, arith}
use Rattle.std.proofs.Common.{append_assoc, length-append, inl, inr, ◌⊎◌, get_or-set_same}
use Rattle.std.proofs.Common.{get_or-set_other}
use Rattle.std.specs.List.{All, sum_by, remove}
use Rattle.std.proofs.Math.ListN.{get_or-map as get_or-mapped}
use Rattle.std.proofs.lemmas.Bool.{cases_Bool, eqb-true, eqb-false, eq-eqb, ne_eqb, ltb-true}
use Rattle.std.proofs.lemmas.Bool.{lt-ltb}
use Rattle.std.proofs.lemmas.List.{get_or-map, get_or_past, map-append, length-map, length-reverse}
use Rattle.std.proofs.lemmas.List.{reverse-append, take-append-drop, get_or-drop}
use Rattle.std.proofs.lemmas.List.Edits.{length-remove}
use Rattle.std.proofs.lemmas.List.Elements.{All-nil, All-map, All-push}
use Rattle.std.proofs.lemmas.List.Sums.{sum_by-append, sum_by-cons}
use Rattle.league_core.specs.declared.tree.TreeNode.{TreeNode}
use Rattle.league_core.specs.declared.tree.TreeNode.TheVariants.{Open as open_node}
use Rattle.league_core.specs.declared.tree.TreeNode.TheVariants.{Lent as lent_node}
use Rattle.league_core.specs.declared.tree.TreeNode.TheVariants.{Refuted as refuted_node}
use Rattle.league_core.specs.declared.tree.TreeNode.TheVariants.{Split as split_node}
use Rattle.league_core.specs.search.Trees.{Tree, open_leaf, lent_leaf, refuted_leaf, branch}
use Rattle.league_core.specs.inside.Lending.{put, times_lent, lent_count}
use Rattle.tree_arena.specs.declared.node.Kind.{Kind}
use Rattle.tree_arena.specs.declared.node.Kind.TheVariants.{Open, Lent, Refuted, Split}
use Rattle.tree_arena.specs.declared.node.Node.{Node}
use Rattle.tree_arena.specs.inside.Arena.{shape_over, shapes, tree_below, total, AreHalvesWithin}
use Rattle.tree_arena.specs.inside.Arena.{AllWithin, IsArena, IsLeafAt, IsLastOpen, listed_kind}
use Rattle.tree_arena.specs.inside.Arena.{marks, number_mark, open_mark, opens_among, times_in}
use Rattle.tree_arena.specs.inside.Arena.{with_kind, IsLiveKind}
use Rattle.tree_arena.specs.inside.Calls.{IsFirstLent, is_open_node, live_leaves}
use Rattle.tree_arena.specs.inside.Order.{live_over, live_from, live_in}
use Rattle.tree_arena.proofs.MarkLemmas.{one_if, one_if-same, one_if-other, total-set, taken_at}
use Rattle.tree_arena.proofs.MarkLemmas.{times_in-at, times_in-push, times_in-reverse, stands_at}
use Rattle.tree_arena.proofs.MarkLemmas.{sum_by-reverse, listed_alike}
use Rattle.tree_arena.proofs.ShapeLemmas.{length-shapes}
use Rattle.tree_arena.specs.OpenCounts.{open_count}
use Rattle.tree_arena.proofs.ArenaLemmas.{any_node, marked_at, length-marks, arena-number}
use Rattle.tree_arena.proofs.ArenaLemmas.{arena-opens, arena-lent, lent_step, lent_once_step}
use Rattle.tree_arena.proofs.ArenaLemmas.{lent_tree}
use Rattle.tree_arena.proofs.LiveLemmas.{live_leaf, replaced-self}
use Rattle.league_core.proofs.plain.Slots.{get_or-default}

-- ---- the leaves of the tree

-- a node as it stands in the list of its tree
abbrev pub kind_at : List Node → ℕ → TreeNode
kind_at nodes at = listed_kind (get_or nodes at any_node).kind

over_shape : (whole : List Node) (kind : Kind) (at : ℕ) (behind : List (List ℕ))
    (trees : List Tree) → kind_at whole at ≡ listed_kind kind
    → map (map (kind_at whole)) behind ≡ map live_leaves trees
    → AreHalvesWithin kind (length trees)
    → map (kind_at whole) (live_over kind at behind) ≡ live_leaves (shape_over kind trees)
over_shape whole Open at behind trees is same within = ap (λ node. node ∷ []) is
over_shape whole (Lent number) at behind trees is same within = ap (λ node. node ∷ []) is
over_shape whole (Refuted reason fresh) at behind trees is same within = refl
over_shape whole (Split test fresh half) at behind trees is same within =
    map-append (kind_at whole) (get_or behind half []) (get_or behind (suc half) [])
    ∙ ap (λ list. list ++ map (kind_at whole) (get_or behind (suc half) []))
    (half_is half (omega arith))
    ∙ ap (λ list. live_leaves (get_or trees half open_leaf) ++ list) (half_is (suc half) within)
  where
    half_is : (i : ℕ) → i < length trees
        → map (kind_at whole) (get_or behind i []) ≡ live_leaves (get_or trees i open_leaf)
    half_is i inside =
        sym (get_or-mapped (map (kind_at whole)) behind i [])
        ∙ ap (λ lists. get_or lists i []) same
        ∙ get_or-map live_leaves trees i open_leaf [] inside

live_from-shapes : (whole : List Node) (base : ℕ) (nodes : List Node)
    → ((k : ℕ) → k < length nodes → get_or whole (base + k) any_node ≡ get_or nodes k any_node)
    → AllWithin nodes
    → map (map (kind_at whole)) (live_from base nodes) ≡ map live_leaves (shapes nodes)
live_from-shapes whole base [] same all = refl
live_from-shapes whole base (node ∷ nodes) same all =
    let next : (k : ℕ) → suc base + k ≡ base + suc k = λ k. omega arith in
    let first : base ≡ base + 0 = omega arith in
    let rest = live_from-shapes whole (suc base) nodes (λ k inside.
    ap (λ n. get_or whole n any_node) (next k) ∙ same (suc k) (omega arith)) all.1 in
    let behind = live_from (suc base) nodes in
    ap (λ list. list ∷ map (map (kind_at whole)) behind)
    (over_shape whole node.kind base behind (shapes nodes)
    (ap (λ (n : Node). listed_kind n.kind)
    (ap (λ n. get_or whole n any_node) first ∙ same 0 (omega arith)))
    rest (subst (λ (n : ℕ). AreHalvesWithin node.kind n) (sym (length-shapes nodes)) all.0))
    ∙ ap (λ lists. live_leaves (shape_over node.kind (shapes nodes)) ∷ lists) rest

-- the list has the leaves of the tree, in their order
pub live_kinds : (nodes : List Node) → 0 < length nodes → AllWithin nodes
    → map (kind_at nodes) (live_in nodes) ≡ live_leaves (tree_below nodes 0)
live_kinds nodes some all =
    let from : (k : ℕ) → 0 + k ≡ k = λ k. omega arith in
    let size = length-shapes nodes in
    sym (get_or-mapped (map (kind_at nodes)) (live_from 0 nodes) 0 [])
    ∙ ap (λ lists. get_or lists 0 [])
    (live_from-shapes nodes 0 nodes (λ k inside. ap (λ n. get_or nodes n any_node) (from k)) all)
    ∙ get_or-map live_leaves (shapes nodes) 0 open_leaf [] (omega arith)

-- ---- how many there are

-- a weight on leaves that are lent under a number, and one on open leaves
abbrev pub number_weight : ℕ → TreeNode → ℕ
number_weight number open_node = 0
number_weight number (lent_node other) = cond (other == number) 1 0
number_weight number (refuted_node reason fresh) = 0
number_weight number (split_node test fresh) = 0

abbrev pub open_weight : TreeNode → ℕ
open_weight open_node = 1
open_weight (lent_node other) = 0
open_weight (refuted_node reason fresh) = 0
open_weight (split_node test fresh) = 0

number_weight-mark : (number : ℕ) (kind : Kind)
    → number_weight number (listed_kind kind) ≡ number_mark number kind
number_weight-mark number Open = refl
number_weight-mark number (Lent other) = refl
number_weight-mark number (Refuted reason fresh) = refl
number_weight-mark number (Split test fresh half) = refl

open_weight-mark : (kind : Kind) → open_weight (listed_kind kind) ≡ open_mark kind
open_weight-mark Open = refl
open_weight-mark (Lent other) = refl
open_weight-mark (Refuted reason fresh) = refl
open_weight-mark (Split test fresh half) = refl

times_lent-live : (number : ℕ) (tree : Tree)
    → sum_by (number_weight number) (live_leaves tree) ≡ times_lent number tree
times_lent-live number open_leaf = refl
times_lent-live number (lent_leaf other) = omega arith
times_lent-live number (refuted_leaf reason fresh) = refl
times_lent-live number (branch test fresh yes_half no_half) =
    let sum = sum_by-append (number_weight number) (live_leaves yes_half) (live_leaves no_half) in
    let one = times_lent-live number yes_half in
    let two = times_lent-live number no_half in
    omega arith

open_count-live : (tree : Tree) → sum_by open_weight (live_leaves tree) ≡ open_count tree
open_count-live open_leaf = refl
open_count-live (lent_leaf other) = refl
open_count-live (refuted_leaf reason fresh) = refl
open_count-live (branch test fresh yes_half no_half) =
    let sum = sum_by-append open_weight (live_leaves yes_half) (live_leaves no_half) in
    let one = open_count-live yes_half in
    let two = open_count-live no_half in
    omega arith

length-live_leaves : (tree : Tree) → length (live_leaves tree) ≡ open_count tree + lent_count tree
length-live_leaves open_leaf = refl
length-live_leaves (lent_leaf other) = refl
length-live_leaves (refuted_leaf reason fresh) = refl
length-live_leaves (branch test fresh yes_half no_half) =
    let long = length-append (live_leaves yes_half) (live_leaves no_half) in
    let one = length-live_leaves yes_half in
    let two = length-live_leaves no_half in
    omega arith

sum_by-mapped : (weight : TreeNode → ℕ) (f : ℕ → TreeNode) (list : List ℕ)
    → sum_by weight (map f list) ≡ sum_by (λ at. weight (f at)) list
sum_by-mapped weight f [] = refl
sum_by-mapped weight f (at ∷ list) =
    let one = sum_by-cons weight (f at) (map f list) in
    let two = sum_by-cons (λ n. weight (f n)) at list in
    let rest = sum_by-mapped weight f list in
    omega arith

sum_by-same : (one two : ℕ → ℕ) (list : List ℕ) → ((at : ℕ) → one at ≡ two at)
    → sum_by one list ≡ sum_by two list
sum_by-same one two [] same = refl
sum_by-same one two (at ∷ list) same =
    let first = sum_by-cons one at list in
    let second = sum_by-cons two at list in
    let here = same at in
    let rest = sum_by-same one two list same in
    omega arith

-- what an arena with its list of leaves in order has
pub record IsInOrder (nodes : List Node) (live opens lents : List ℕ) : Type 0 where
  pub arena : IsArena nodes opens lents
  pub order : live_in nodes ≡ reverse live

-- as many as are open or lent
pub live_many : (nodes : List Node) (live opens lents : List ℕ)
    → IsInOrder nodes live opens lents → length live ≡ length opens + length lents
live_many nodes live opens lents ordered =
    let arena = ordered.arena in
    let opened = arena-opens nodes opens lents arena in
    let lent = arena-lent nodes opens lents arena in
    let all = length-live_leaves (tree_below nodes 0) in
    let kinds = ap length (live_kinds nodes arena.some arena.within) in
    let mapped = length-map (live_in nodes) (kind_at nodes) in
    let turned = ap length ordered.order in
    let same = length-reverse live in
    omega arith

-- more than are lent, if one is open
pub more_than : (all some live opens lents : ℕ) → all ≡ live → some ≡ lents
    → live ≡ opens + lents → nat_lt some all ≡ nat_lt 0 opens
more_than all some live zero lents all_is some_is many =
    elim (cases_Bool (nat_lt some all)) as (λ _. nat_lt some all ≡ nat_lt 0 zero) [
      | inl less ↦ absurd (let is = ltb-true some all less in omega arith)
      | inr not_less ↦ not_less
    ]
more_than all some live (suc opens) lents all_is some_is many =
    lt-ltb some all (omega arith) ∙ sym (lt-ltb 0 (suc opens) (omega arith))

-- none, if none is open and none is lent
pub none_of_both : (a b : ℕ) → (a + b == 0) ≡ (a == 0 && b == 0)
none_of_both zero b = let is : 0 + b ≡ b = omega arith in ap (λ n. n == 0) is
none_of_both (suc a) b =
    ne_eqb (suc a + b) 0 (λ is. omega arith)
    ∙ ap (λ one. one && b == 0) (sym (ne_eqb (suc a) 0 (λ is. omega arith)))

-- as many of them are open
pub live_opens : (nodes : List Node) (live opens lents : List ℕ)
    → IsInOrder nodes live opens lents → opens_among nodes live ≡ length opens
live_opens nodes live opens lents ordered =
    let arena = ordered.arena in
    let weight : ℕ → ℕ = λ at. open_weight (kind_at nodes at) in
    let mark : ℕ → ℕ = λ at. open_mark (get_or nodes at any_node).kind in
    sym (sum_by-reverse mark live)
    ∙ ap (sum_by mark) (sym ordered.order)
    ∙ sym (sum_by-same weight mark (live_in nodes)
    (λ at. open_weight-mark (get_or nodes at any_node).kind))
    ∙ sym (sum_by-mapped open_weight (kind_at nodes) (live_in nodes))
    ∙ ap (sum_by open_weight) (live_kinds nodes arena.some arena.within)
    ∙ open_count-live (tree_below nodes 0)
    ∙ arena-opens nodes opens lents arena

-- ---- each is a node

one_of_two : (a b : ℕ) → 1 ≤ a + b → (1 ≤ a) ⊎ (1 ≤ b)
one_of_two zero b some = inr (omega arith)
one_of_two (suc a) b some = inl (omega arith)

only_one : (at number : ℕ) → 1 ≤ times_in number (at ∷ []) → number ≡ at
only_one at number some = elim (cases_Bool (number == at)) as (λ _. number ≡ at) [
  | inl same ↦ eqb-true number at same
  | inr different ↦
      let none = one_if-other number at (λ is. eqb-false number at different (sym is)) in
      let sum = sum_by-cons (one_if number) at [] in
      absurd (omega arith)
]

below_over : (kind : Kind) (at size : ℕ) (behind : List (List ℕ)) → at < size
    → ((i number : ℕ) → 1 ≤ times_in number (get_or behind i []) → number < size)
    → (number : ℕ) → 1 ≤ times_in number (live_over kind at behind) → number < size
below_over Open at size behind within below number some =
    let is = only_one at number some in omega arith
below_over (Lent other) at size behind within below number some =
    let is = only_one at number some in omega arith
below_over (Refuted reason fresh) at size behind within below number some = absurd (omega arith)
below_over (Split test fresh half) at size behind within below number some =
    let sum = sum_by-append (one_if number) (get_or behind half []) (get_or behind (suc half) [])
    in
    elim (one_of_two (times_in number (get_or behind half []))
    (times_in number (get_or behind (suc half) [])) (omega arith)) as (λ _. number < size) [
      | inl one ↦ below half number one
      | inr two ↦ below (suc half) number two
    ]

below_from : (base : ℕ) (nodes : List Node) (i number : ℕ)
    → 1 ≤ times_in number (get_or (live_from base nodes) i []) → number < base + length nodes
below_from base [] i number some = absurd (omega arith)
below_from base (node ∷ nodes) zero number some =
    below_over node.kind base (base + suc (length nodes)) (live_from (suc base) nodes) (omega arith)
    (λ i other here. let rest = below_from (suc base) nodes i other here in omega arith) number some
below_from base (node ∷ nodes) (suc i) number some =
    let rest = below_from (suc base) nodes i number some in omega arith

pub live_within : (nodes : List Node) (live : List ℕ) (place : ℕ) → live_in nodes ≡ reverse live
    → place < length live → get_or live place 0 < length nodes
live_within nodes live place order within =
    let at = get_or live place 0 in
    let there = times_in-at live place within in
    let turned = times_in-reverse at live in
    let same = ap (times_in at) order in
    let below = below_from 0 nodes 0 at (omega arith) in
    omega arith

-- ---- a lent one stands there once

-- a list of marks with no mark
none_marked : (ms : List ℕ) (at : ℕ) → total ms ≡ 0 → get_or ms at 0 ≡ 0
none_marked [] at none = get_or_past [] at 0 (omega arith)
none_marked (m ∷ ms) zero none = omega arith
none_marked (m ∷ ms) (suc at) none = none_marked ms at (omega arith)

-- one mark in all
other_unmarked : (ms : List ℕ) (at other : ℕ) → total ms ≡ 1 → at < length ms
    → get_or ms at 0 ≡ 1 → other ≢ at → get_or ms other 0 ≡ 0
other_unmarked ms at other once within marked apart =
    let sum = total-set ms at 0 within in
    sym (get_or-set_other ms at other 0 0 apart) ∙ none_marked (set ms at 0) other (omega arith)

-- of the nodes that are lent under a number
mark_is : (number : ℕ) (nodes : List Node) (leaf at : ℕ) → leaf < length nodes
    → (get_or nodes leaf any_node).kind ≡ Lent number
    → total (marks (number_mark number) nodes) ≡ 1
    → number_mark number (get_or nodes at any_node).kind ≡ one_if leaf at
mark_is number nodes leaf at within is once =
    let long = length-marks (number_mark number) nodes in
    let one : number_mark number (Lent number) ≡ 1 =
    ap (λ b. cond b 1 0) (eq-eqb number number refl) in
    let here = marked_at (number_mark number) nodes leaf any_node within
    ∙ ap (number_mark number) is ∙ one in
    elim (cases_Bool (at == leaf)) as (λ _.
    number_mark number (get_or nodes at any_node).kind ≡ one_if leaf at) [
      | inl same ↦
          let equal : leaf ≡ at = sym (eqb-true at leaf same) in
          subst (λ (n : ℕ). number_mark number (get_or nodes n any_node).kind ≡ one_if leaf n) equal
          (ap (number_mark number) is ∙ one ∙ sym (one_if-same leaf))
      | inr different ↦
          let apart : at ≢ leaf = eqb-false at leaf different in
          sym (get_or-mapped (λ (node : Node). number_mark number node.kind) nodes at any_node)
          ∙ other_unmarked (marks (number_mark number) nodes) leaf at once (omega arith) here apart
          ∙ sym (one_if-other leaf at apart)
    ]

pub lent_stands_once : (number : ℕ) (nodes : List Node) (live opens lents : List ℕ)
    (place leaf : ℕ) → IsInOrder nodes live opens lents → IsLeafAt number nodes lents place leaf
    → times_lent number (tree_below nodes 0) ≡ 1 → times_in leaf live ≡ 1
lent_stands_once number nodes live opens lents place leaf ordered there once =
    let arena = ordered.arena in
    let mark : ℕ → ℕ = λ at. number_mark number (get_or nodes at any_node).kind in
    let weight : ℕ → ℕ = λ at. number_weight number (kind_at nodes at) in
    sym (times_in-reverse leaf live)
    ∙ ap (times_in leaf) (sym ordered.order)
    ∙ sym (sum_by-same mark (one_if leaf) (live_in nodes)
    (λ at. mark_is number nodes leaf at there.in_nodes (there.kind any_node)
    (sym (arena-number number nodes opens lents arena) ∙ once)))
    ∙ sym (sum_by-same weight mark (live_in nodes)
    (λ at. number_weight-mark number (get_or nodes at any_node).kind))
    ∙ sym (sum_by-mapped (number_weight number) (kind_at nodes) (live_in nodes))
    ∙ ap (sum_by (number_weight number)) (live_kinds nodes arena.some arena.within)
    ∙ times_lent-live number (tree_below nodes 0) ∙ once

-- ---- the first open one is lent

-- what the lending of a leaf makes of an arena, its list of leaves and its tree
pub record LendsFirst (number : ℕ) (nodes done : List Node) (live lents : List ℕ) : Type 0 where
  pub opens : List ℕ
  pub arena : IsArena done opens lents
  pub order : live_in done ≡ reverse live
  pub back : put number open_leaf (tree_below done 0) ≡ tree_below nodes 0
  pub once : times_lent number (tree_below done 0) ≡ 1
  pub first : IsFirstLent number (tree_below done 0)

-- an arena with the same leaves, one of the open ones last
pub record HasLast (nodes : List Node) (lents : List ℕ) (at : ℕ) : Type 0 where
  pub rest : List ℕ
  pub arena : IsArena nodes (rest ++ at ∷ []) lents

has_last : (nodes : List Node) (opens lents : List ℕ) (at : ℕ) → IsArena nodes opens lents
    → at < length nodes → (get_or nodes at any_node).kind ≡ Open → HasLast nodes lents at
has_last nodes opens lents at arena within is =
    let mark = marked_at open_mark nodes at any_node within ∙ ap open_mark is in
    let each = arena.open_listed.each at in
    let stands = stands_at at opens (omega arith) in
    let rest = remove opens stands.place in
    let size = length-remove opens stands.place stands.in_list in
    record {
      rest = rest;
      arena = record {
        some = arena.some;
        whole = arena.whole;
        within = arena.within;
        linked = arena.linked;
        open_listed = listed_alike (marks open_mark nodes) opens (rest ++ at ∷ [])
            arena.open_listed
            (λ number. times_in-push number at rest
            ∙ taken_at opens stands.place at number stands.in_list
            (sym stands.is ∙ get_or-default opens stands.place at stands.in_list))
            (let long = length-append rest (at ∷ []) in omega arith);
        lent_listed = arena.lent_listed;
      };
    }

-- the list around a place
around : (list : List ℕ) (place : ℕ) → place < length list
    → list ≡ take place list ++ get_or list place 0 ∷ drop (suc place) list
around list place within =
    sym (take-append-drop place list)
    ∙ ap (λ rest. take place list ++ rest) (drop-cons list place 0 within)

-- turned round
turned : (list : List ℕ) (place : ℕ) → place < length list
    → reverse list
    ≡ reverse (drop (suc place) list) ++ get_or list place 0 ∷ reverse (take place list)
turned list place within =
    let at = get_or list place 0 in
    let below = take place list in
    let above = drop (suc place) list in
    ap reverse (around list place within)
    ∙ reverse-append below (at ∷ above)
    ∙ ap (λ first. first ++ reverse below) (reverse-append (at ∷ []) above)
    ∙ append_assoc (reverse above) (at ∷ []) (reverse below)

not_open : (kind : Kind) → open_mark kind ≡ 0 → is_open_node (listed_kind kind) ≡ false
not_open Open none = absurd (omega arith)
not_open (Lent number) none = refl
not_open (Refuted reason fresh) none = refl
not_open (Split test fresh half) none = refl

-- a node that was not open is not when another one is lent
still_not_open : (number leaf at : ℕ) (nodes : List Node)
    → (get_or nodes leaf any_node).kind ≡ Open
    → open_mark (get_or nodes at any_node).kind ≡ 0
    → is_open_node (kind_at (set nodes leaf (with_kind (Lent number) (get_or nodes leaf any_node)))
    at) ≡ false
still_not_open number leaf at nodes is none =
    let written = with_kind (Lent number) (get_or nodes leaf any_node) in
    elim (cases_Bool (at == leaf)) as (λ _. is_open_node (kind_at (set nodes leaf written) at)
    ≡ false) [
      | inl same ↦
          let one = ap open_mark is in
          let other = ap (λ n. open_mark (get_or nodes n any_node).kind) (eqb-true at leaf same) in
          absurd (omega arith)
      | inr different ↦
          ap (λ (node : Node). is_open_node (listed_kind node.kind))
          (get_or-set_other nodes leaf at written any_node (eqb-false at leaf different))
          ∙ not_open (get_or nodes at any_node).kind none
    ]

-- a fact of each entry, and so of the list turned round
all_turned : (Fact : ℕ → Type 0) (list : List ℕ)
    → ((k : ℕ) → k < length list → Fact (get_or list k 0)) → All Fact (reverse list)
all_turned Fact [] each = All-nil Fact
all_turned Fact (at ∷ list) each =
    subst (λ (xs : List ℕ). All Fact xs) (sym (reverse-append (at ∷ []) list))
    (All-push Fact (reverse list) at
    (all_turned Fact list (λ k within. each (suc k) (omega arith))) (each 0 (omega arith)))

pub lends_first : (number : ℕ) (nodes : List Node) (live opens lents : List ℕ) (place : ℕ)
    → IsInOrder nodes live opens lents → IsLastOpen nodes live place
    → times_lent number (tree_below nodes 0) ≡ 0
    → LendsFirst number nodes
    (set nodes (get_or live place 0)
    (with_kind (Lent number) (get_or nodes (get_or live place 0) any_node)))
    live (lents ++ get_or live place 0 ∷ [])
lends_first number nodes live opens lents place ordered last none =
    let leaf = get_or live place 0 in
    let below = take place live in
    let above = drop (suc place) live in
    let within = live_within nodes live place ordered.order last.in_list in
    let is = last.kind any_node in
    let has = has_last nodes opens lents leaf ordered.arena within is in
    let written = with_kind (Lent number) (get_or nodes leaf any_node) in
    let done = set nodes leaf written in
    let step = lent_step nodes has.rest lents leaf number any_node has.arena in
    let order = live_leaf nodes leaf (Lent number) any_node within
    (subst (λ (kind : Kind). IsLiveKind kind) (sym is) tt) tt
    ∙ replaced-self leaf (live_in nodes) ∙ ordered.order in
    let before = map (kind_at done) (reverse above) in
    let after = map (kind_at done) (reverse below) in
    record {
      opens = has.rest;
      arena = step;
      order = order;
      back = lent_tree nodes has.rest lents leaf number any_node has.arena none;
      once = lent_once_step nodes has.rest lents leaf number any_node has.arena none;
      first = record {
        before = before;
        after = after;
        leaves = sym (live_kinds done step.some step.within)
            ∙ ap (map (kind_at done)) (order ∙ turned live place last.in_list)
            ∙ map-append (kind_at done) (reverse above) (leaf ∷ reverse below)
            ∙ ap (λ node. before ++ node ∷ after)
            (ap (λ (node : Node). listed_kind node.kind)
            (get_or-set_same nodes leaf written any_node within));
        none_open = All-map (λ node. is_open_node node ≡ false) (kind_at done) (reverse above)
            (all_turned (λ at. is_open_node (kind_at done at) ≡ false) above
            (λ k inside.
            let size = length-drop (suc place) live in
            still_not_open number leaf (get_or above k 0) nodes is
            (ap (λ n. open_mark (get_or nodes n any_node).kind) (get_or-drop (suc place) live k 0)
            ∙ last.none_after (suc place + k) any_node (omega arith) (omega arith))));
      };
    }
