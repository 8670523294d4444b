-- What each call does to an arena: it stays one, and its tree is what the call says.
use Rattle.std.proofs.Common.{◌≡◌, ℕ, zero, suc, ◌+◌, ◌<◌, ◌≤◌, Bool, true, false, ◌&&◌, ◌==◌}
use Rattle.std.proofs.Common.{nat_lt, cond, List, [], ◌∷◌, ◌++◌, length, map, get_or, set, drop}
use Rattle.std.proofs.Common.{refl, sym, ap, ◌∙◌, subst, arith, length-append, length-drop}
use Rattle.std.proofs.Common.{get_or-set_same}
use Rattle.std.specs.List.{remove}
use Rattle.std.proofs.lemmas.List.{get_or_past, get_or_append_left, get_or-map, map-set, map-append}
use Rattle.std.proofs.lemmas.List.{length-set, length-map, set-get_or}
use Rattle.std.proofs.lemmas.List.Edits.{length-remove}
use Rattle.std.proofs.lemmas.Bool.{eq-eqb, ne_eqb, lt-ltb, false≢true}
use Rattle.league_core.specs.declared.zone.Test.{Test}
use Rattle.league_core.specs.declared.zone.Reason.{Reason}
use Rattle.league_core.specs.search.Trees.{Tree, open_leaf, branch, has_open, is_refuted}
use Rattle.league_core.specs.search.Trees.{node_count}
use Rattle.league_core.specs.inside.Lending.{put, times_lent, lent_count}
use Rattle.league_core.proofs.LendingLemmas.{settled_is_refuted, refuted_is_settled}
use Rattle.tree_arena.specs.declared.node.Kind.{Kind}
use Rattle.tree_arena.specs.declared.node.Kind.TheVariants.{Open, Lent, Refuted, Split}
use Rattle.tree_arena.specs.declared.node.Node.{Node}
use Rattle.tree_arena.specs.inside.Arena.{shape_over, shapes, tree_below, total, IsLeafKind}
use Rattle.tree_arena.specs.inside.Arena.{open_mark, lent_mark, number_mark, node_mark, marks}
use Rattle.tree_arena.specs.inside.Arena.{IsListed, IsArena, with_kind, IsLeafAt}
use Rattle.tree_arena.proofs.MarkLemmas.{total-set, times_in-push, one_if-same}
use Rattle.tree_arena.proofs.MarkLemmas.{listed_within, listed_same, listed_added, listed_taken}
use Rattle.tree_arena.proofs.MarkLemmas.{taken_last, taken_at, listed_longer, listed_two}
use Rattle.tree_arena.proofs.ShapeLemmas.{length-shapes, shapes-set_lent}
use Rattle.tree_arena.proofs.ShapeLemmas.{shapes-longer, tree_below-mapped}
use Rattle.tree_arena.proofs.WeightLemmas.{whole-set_leaf, within-set_leaf, whole_split}
use Rattle.tree_arena.proofs.WeightLemmas.{within_split, counted_whole, counts_nodes, counts_lent}
use Rattle.tree_arena.proofs.WeightLemmas.{counts_number, counts_open, has_open-count}
use Rattle.tree_arena.specs.OpenCounts.{open_count}
use Rattle.tree_arena.proofs.WeightLemmas.{total-node_mark}
use Rattle.tree_arena.proofs.LinkLemmas.{linked-set_leaf, linked_split}

-- some node, for what stands past a list
abbrev pub any_node : Node
any_node = record { kind = Open; parent = 0; yes = false }

-- the mark of a node
pub marked_at : (mark : Kind → ℕ) (nodes : List Node) (at : ℕ) (default : Node) → at < length nodes
    → get_or (marks mark nodes) at 0 ≡ mark (get_or nodes at default).kind
marked_at mark nodes at default within =
    get_or-map (λ (node : Node). mark node.kind) nodes at default 0 within

pub length-marks : (mark : Kind → ℕ) (nodes : List Node) → length (marks mark nodes) ≡ length nodes
length-marks mark nodes = length-map nodes (λ (node : Node). mark node.kind)

pub marks-set : (mark : Kind → ℕ) (nodes : List Node) (at : ℕ) (written : Node)
    → marks mark (set nodes at written) ≡ set (marks mark nodes) at (mark written.kind)
marks-set mark nodes at written = map-set (λ (node : Node). mark node.kind) nodes at written

-- a node with the mark of open leaves is open
pub is_open : (kind : Kind) → 1 ≤ open_mark kind → kind ≡ Open
is_open Open marked = refl
is_open (Lent number) marked = absurd (omega arith)
is_open (Refuted reason fresh) marked = absurd (omega arith)
is_open (Split test fresh half) marked = absurd (omega arith)

-- a leaf in place of a leaf, if the two lists are right, makes an arena
pub arena_leaf : (nodes : List Node) (open_list lent_list opens lents : List ℕ) (at : ℕ)
    (kind : Kind) (default : Node) → IsArena nodes open_list lent_list → at < length nodes
    → IsLeafKind (get_or nodes at default).kind → IsLeafKind kind
    → IsListed (set (marks open_mark nodes) at (open_mark kind)) opens
    → IsListed (set (marks lent_mark nodes) at (lent_mark kind)) lents
    → IsArena (set nodes at (with_kind kind (get_or nodes at default))) opens lents
arena_leaf nodes open_list lent_list opens lents at kind default arena within leaf new opened
    loaned =
    let written = with_kind kind (get_or nodes at default) in
    let long = length-set nodes at written in
    let some = arena.some in
    record {
      some = omega arith;
      whole = whole-set_leaf nodes at written default arena.whole within leaf new;
      within = within-set_leaf nodes at written arena.within new;
      linked = linked-set_leaf nodes at written default within leaf refl refl arena.linked;
      open_listed = subst (λ (ms : List ℕ). IsListed ms opens)
          (sym (marks-set open_mark nodes at written)) opened;
      lent_listed = subst (λ (ms : List ℕ). IsListed ms lents)
          (sym (marks-set lent_mark nodes at written)) loaned;
    }

-- counts of the whole tree
pub arena-nodes : (nodes : List Node) (opens lents : List ℕ) → IsArena nodes opens lents
    → node_count (tree_below nodes 0) ≡ length nodes
arena-nodes nodes opens lents arena =
    counted_whole node_count node_mark counts_nodes nodes arena.some arena.whole arena.within
    ∙ total-node_mark nodes

pub arena-lent : (nodes : List Node) (opens lents : List ℕ) → IsArena nodes opens lents
    → lent_count (tree_below nodes 0) ≡ length lents
arena-lent nodes opens lents arena =
    counted_whole lent_count lent_mark counts_lent nodes arena.some arena.whole arena.within
    ∙ arena.lent_listed.many

pub arena-number : (number : ℕ) (nodes : List Node) (opens lents : List ℕ)
    → IsArena nodes opens lents
    → times_lent number (tree_below nodes 0) ≡ total (marks (number_mark number) nodes)
arena-number number nodes opens lents arena =
    counted_whole (times_lent number) (number_mark number) (counts_number number) nodes arena.some
    arena.whole arena.within

pub arena-opens : (nodes : List Node) (opens lents : List ℕ) → IsArena nodes opens lents
    → open_count (tree_below nodes 0) ≡ length opens
arena-opens nodes opens lents arena =
    counted_whole open_count open_mark counts_open nodes arena.some arena.whole arena.within
    ∙ arena.open_listed.many

pub arena-has_open : (nodes : List Node) (opens lents : List ℕ) → IsArena nodes opens lents
    → has_open (tree_below nodes 0) ≡ nat_lt 0 (length opens)
arena-has_open nodes opens lents arena =
    has_open-count (tree_below nodes 0)
    ∙ ap (nat_lt 0) (arena-opens nodes opens lents arena)

-- it is refuted if nothing is open and nothing is lent
pub arena-is_refuted : (nodes : List Node) (opens lents : List ℕ) → IsArena nodes opens lents
    → is_refuted (tree_below nodes 0) ≡ (length opens == 0 && length lents == 0)
arena-is_refuted nodes opens lents arena =
    by_lists opens lents (arena-has_open nodes opens lents arena)
    (arena-lent nodes opens lents arena)
  where
    settled : is_refuted (tree_below nodes 0) ≡ true → (has_open (tree_below nodes 0) ≡ false)
        × (lent_count (tree_below nodes 0) ≡ 0)
    settled = refuted_is_settled (tree_below nodes 0)

    by_answer : (b : Bool) → is_refuted (tree_below nodes 0) ≡ b → (b ≡ true → ⊥)
        → is_refuted (tree_below nodes 0) ≡ false
    by_answer true is never = absurd (never refl)
    by_answer false is never = is

    by_lists : (xs ys : List ℕ) → has_open (tree_below nodes 0) ≡ nat_lt 0 (length xs)
        → lent_count (tree_below nodes 0) ≡ length ys
        → is_refuted (tree_below nodes 0) ≡ (length xs == 0 && length ys == 0)
    by_lists [] [] open_is lent_is = settled_is_refuted (tree_below nodes 0) open_is lent_is
    by_lists [] (y ∷ ys) open_is lent_is =
        by_answer (is_refuted (tree_below nodes 0)) refl (λ refuted.
        let none = (settled refuted).1 in omega arith)
        ∙ sym (ne_eqb (suc (length ys)) 0 (λ is. omega arith))
    by_lists (x ∷ xs) ys open_is lent_is =
        by_answer (is_refuted (tree_below nodes 0)) refl (λ refuted.
        false≢true (sym (settled refuted).0 ∙ open_is
        ∙ lt-ltb 0 (suc (length xs)) (omega arith)))
        ∙ ap (λ b. b && length ys == 0) (sym (ne_eqb (suc (length xs)) 0 (λ is. omega arith)))

-- the leaf on top of the open ones is lent
pub record IsOpenAt (nodes : List Node) (at : ℕ) (default : Node) : Type 0 where
  pub in_nodes : at < length nodes
  pub kind : (get_or nodes at default).kind ≡ Open

pub top_is_open : (nodes : List Node) (rest lents : List ℕ) (at : ℕ) (default : Node)
    → IsArena nodes (rest ++ at ∷ []) lents → IsOpenAt nodes at default
top_is_open nodes rest lents at default arena =
    let count = times_in-push at at rest in
    let once = one_if-same at in
    let marked = listed_within (marks open_mark nodes) (rest ++ at ∷ []) at arena.open_listed
    (omega arith) in
    let long = length-marks open_mark nodes in
    let at_mark = marked.0 in
    let within : at < length nodes = omega arith in
    let mark = marked_at open_mark nodes at default within in
    let some = marked.1 in
    record {
      in_nodes = within;
      kind = is_open (get_or nodes at default).kind (omega arith);
    }

pub lent_step : (nodes : List Node) (rest lents : List ℕ) (at number : ℕ) (default : Node)
    → IsArena nodes (rest ++ at ∷ []) lents
    → IsArena (set nodes at (with_kind (Lent number) (get_or nodes at default))) rest
    (lents ++ at ∷ [])
lent_step nodes rest lents at number default arena =
    let is = top_is_open nodes rest lents at default arena in
    let within = is.in_nodes in
    let open_long = length-marks open_mark nodes in
    let lent_long = length-marks lent_mark nodes in
    arena_leaf nodes (rest ++ at ∷ []) lents rest (lents ++ at ∷ []) at (Lent number) default arena
    within (subst (λ (kind : Kind). IsLeafKind kind) (sym is.kind) tt) tt
    (listed_taken (marks open_mark nodes) (rest ++ at ∷ []) rest at arena.open_listed (omega arith)
    (marked_at open_mark nodes at default within ∙ ap open_mark is.kind) (taken_last rest at)
    (let long = length-append rest (at ∷ []) in omega arith))
    (listed_added (marks lent_mark nodes) lents at arena.lent_listed (omega arith)
    (marked_at lent_mark nodes at default within ∙ ap lent_mark is.kind))

-- then it is lent once
pub lent_once_step : (nodes : List Node) (rest lents : List ℕ) (at number : ℕ) (default : Node)
    → IsArena nodes (rest ++ at ∷ []) lents
    → times_lent number (tree_below nodes 0) ≡ 0
    → times_lent number
    (tree_below (set nodes at (with_kind (Lent number) (get_or nodes at default))) 0) ≡ 1
lent_once_step nodes rest lents at number default arena none =
    let written = with_kind (Lent number) (get_or nodes at default) in
    let is = top_is_open nodes rest lents at default arena in
    let within = is.in_nodes in
    let long = length-marks (number_mark number) nodes in
    let before = arena-number number nodes (rest ++ at ∷ []) lents arena in
    let sum = total-set (marks (number_mark number) nodes) at (number_mark number (Lent number))
    (omega arith) in
    let was = marked_at (number_mark number) nodes at default within
    ∙ ap (number_mark number) is.kind in
    let one : number_mark number (Lent number) ≡ 1 =
    ap (λ b. cond b 1 0) (eq-eqb number number refl) in
    arena-number number (set nodes at written) rest (lents ++ at ∷ [])
    (lent_step nodes rest lents at number default arena)
    ∙ ap total (marks-set (number_mark number) nodes at written)
    ∙ omega arith

-- a node that is written twice is the second one
set_twice : (nodes : List Node) (at : ℕ) (first second : Node)
    → set (set nodes at first) at second ≡ set nodes at second
set_twice [] at first second = refl
set_twice (node ∷ nodes) zero first second = refl
set_twice (node ∷ nodes) (suc at) first second =
    ap (λ list. node ∷ list) (set_twice nodes at first second)

-- and with an open leaf put there the tree is what it was
pub lent_tree : (nodes : List Node) (rest lents : List ℕ) (at number : ℕ) (default : Node)
    → IsArena nodes (rest ++ at ∷ []) lents
    → times_lent number (tree_below nodes 0) ≡ 0
    → put number open_leaf
    (tree_below (set nodes at (with_kind (Lent number) (get_or nodes at default))) 0)
    ≡ tree_below nodes 0
lent_tree nodes rest lents at number default arena none =
    let old = get_or nodes at default in
    let written = with_kind (Lent number) old in
    let lent = set nodes at written in
    let is = top_is_open nodes rest lents at default arena in
    let within = is.in_nodes in
    let long = length-set nodes at written in
    let now_within : at < length lent = omega arith in
    let there : get_or lent at default ≡ written = get_or-set_same nodes at written default within
    in
    let once = lent_once_step nodes rest lents at number default arena none in
    let count = arena-number number lent rest (lents ++ at ∷ [])
    (lent_step nodes rest lents at number default arena) in
    let back = shapes-set_lent number open_leaf old lent at default now_within
    (ap (λ (node : Node). node.kind) there) (sym count ∙ once)
    (ap (λ kind. shape_over kind (drop (suc at) (shapes lent))) is.kind) in
    let same : set lent at old ≡ nodes = set_twice nodes at written old ∙ set-get_or nodes at
    default in
    sym (tree_below-mapped (put number open_leaf) refl (shapes nodes) lent
    (ap shapes (sym same) ∙ back))

-- a lent leaf comes back as a leaf
returned : (nodes : List Node) (opens lents more : List ℕ) (place at number : ℕ) (kind : Kind)
    (default : Node) → IsArena nodes opens lents → IsLeafAt number nodes lents place at
    → IsLeafKind kind → lent_mark kind ≡ 0
    → IsListed (set (marks open_mark nodes) at (open_mark kind)) more
    → IsArena (set nodes at (with_kind kind (get_or nodes at default))) more (remove lents place)
returned nodes opens lents more place at number kind default arena leaf new none opened =
    let within = leaf.in_nodes in
    let long = length-marks lent_mark nodes in
    arena_leaf nodes opens lents more (remove lents place) at kind default arena within
    (subst (λ (k : Kind). IsLeafKind k) (sym (leaf.kind default)) tt) new opened
    (subst (λ (n : ℕ). IsListed (set (marks lent_mark nodes) at n) (remove lents place)) (sym none)
    (listed_taken (marks lent_mark nodes) lents (remove lents place) at arena.lent_listed
    (omega arith)
    (marked_at lent_mark nodes at default within ∙ ap lent_mark (leaf.kind default))
    (λ other. taken_at lents place at other leaf.in_list leaf.entry)
    (length-remove lents place leaf.in_list)))

-- its mark as an open leaf was none
not_open : (nodes : List Node) (lents : List ℕ) (place at number : ℕ) (default : Node)
    → IsLeafAt number nodes lents place at → get_or (marks open_mark nodes) at 0 ≡ 0
not_open nodes lents place at number default leaf =
    marked_at open_mark nodes at default leaf.in_nodes ∙ ap open_mark (leaf.kind default)

pub reopened_step : (nodes : List Node) (opens lents : List ℕ) (place at number : ℕ)
    (default : Node) → IsArena nodes opens lents → IsLeafAt number nodes lents place at
    → IsArena (set nodes at (with_kind Open (get_or nodes at default))) (opens ++ at ∷ [])
    (remove lents place)
reopened_step nodes opens lents place at number default arena leaf =
    let within = leaf.in_nodes in
    let long = length-marks open_mark nodes in
    returned nodes opens lents (opens ++ at ∷ []) place at number Open default arena leaf tt refl
    (listed_added (marks open_mark nodes) opens at arena.open_listed (omega arith)
    (not_open nodes lents place at number default leaf))

pub refuted_step : (nodes : List Node) (opens lents : List ℕ) (place at number : ℕ)
    (reason : Reason) (fresh : Bool) (default : Node) → IsArena nodes opens lents
    → IsLeafAt number nodes lents place at
    → IsArena (set nodes at (with_kind (Refuted reason fresh) (get_or nodes at default))) opens
    (remove lents place)
refuted_step nodes opens lents place at number reason fresh default arena leaf =
    returned nodes opens lents opens place at number (Refuted reason fresh) default arena leaf tt
    refl (listed_same (marks open_mark nodes) opens at 0
    (not_open nodes lents place at number default leaf) arena.open_listed)

-- what is put in place of the number is what the node becomes
pub returned_tree : (nodes : List Node) (opens lents : List ℕ) (place at number : ℕ) (new : Tree)
    (kind : Kind) (default : Node) → IsArena nodes opens lents
    → IsLeafAt number nodes lents place at → times_lent number (tree_below nodes 0) ≡ 1
    → shape_over kind (drop (suc at) (shapes nodes)) ≡ new
    → shapes (set nodes at (with_kind kind (get_or nodes at default)))
    ≡ map (put number new) (shapes nodes)
returned_tree nodes opens lents place at number new kind default arena leaf once is =
    shapes-set_lent number new (with_kind kind (get_or nodes at default)) nodes at default
    leaf.in_nodes (leaf.kind default)
    (sym (arena-number number nodes opens lents arena) ∙ once) is

pub leaf_tree : (nodes : List Node) (opens lents : List ℕ) (place at number : ℕ) (new : Tree)
    (kind : Kind) (default : Node) → IsArena nodes opens lents
    → IsLeafAt number nodes lents place at → times_lent number (tree_below nodes 0) ≡ 1
    → shape_over kind (drop (suc at) (shapes nodes)) ≡ new
    → tree_below (set nodes at (with_kind kind (get_or nodes at default))) 0
    ≡ put number new (tree_below nodes 0)
leaf_tree nodes opens lents place at number new kind default arena leaf once is =
    tree_below-mapped (put number new) refl
    (shapes (set nodes at (with_kind kind (get_or nodes at default)))) nodes
    (returned_tree nodes opens lents place at number new kind default arena leaf once is)

-- the nodes after a split
abbrev pub nodes_split : List Node → ℕ → Test → ℕ → Node → List Node
nodes_split nodes at test half default =
    set nodes at (with_kind (Split test true half) (get_or nodes at default))
    ++ record { kind = Open; parent = at; yes = true }
    ∷ record { kind = Open; parent = at; yes = false }
    ∷ []

pub split_step : (nodes : List Node) (opens lents : List ℕ) (place at number : ℕ) (test : Test)
    (half : ℕ) (default : Node) → IsArena nodes opens lents
    → IsLeafAt number nodes lents place at → half + suc at ≡ length nodes
    → IsArena (nodes_split nodes at test half default)
    ((opens ++ suc (length nodes) ∷ []) ++ length nodes ∷ []) (remove lents place)
split_step nodes opens lents place at number test half default arena leaf far =
    let written = with_kind (Split test true half) (get_or nodes at default) in
    let first : Node = record { kind = Open; parent = at; yes = true } in
    let second : Node = record { kind = Open; parent = at; yes = false } in
    let within = leaf.in_nodes in
    let is_leaf = subst (λ (k : Kind). IsLeafKind k) (sym (leaf.kind default)) tt in
    let lent_long = length-marks lent_mark nodes in
    let open_long = length-marks open_mark nodes in
    let long = length-append (set nodes at written) (first ∷ second ∷ []) in
    record {
      some = omega arith;
      whole = whole_split nodes at written default first second test true half arena.whole
          arena.within within is_leaf refl far tt tt;
      within = within_split nodes at written first second test true half arena.within within refl
          far tt tt;
      linked = linked_split nodes at written default first second test true half within is_leaf refl
          refl refl far refl refl refl refl arena.linked;
      open_listed = subst (λ (ms : List ℕ).
          IsListed ms ((opens ++ suc (length nodes) ∷ []) ++ length nodes ∷ []))
          (sym (map-append (λ (node : Node). open_mark node.kind) (set nodes at written)
          (first ∷ second ∷ []) ∙ ap (λ ms. ms ++ 1 ∷ 1 ∷ [])
          (marks-set open_mark nodes at written)))
          (listed_two (set (marks open_mark nodes) at 0) opens (length nodes)
          (listed_same (marks open_mark nodes) opens at 0
          (not_open nodes lents place at number default leaf) arena.open_listed)
          (length-set (marks open_mark nodes) at 0 ∙ open_long));
      lent_listed = subst (λ (ms : List ℕ). IsListed ms (remove lents place))
          (sym (map-append (λ (node : Node). lent_mark node.kind) (set nodes at written)
          (first ∷ second ∷ []) ∙ ap (λ ms. ms ++ 0 ∷ 0 ∷ [])
          (marks-set lent_mark nodes at written)))
          (listed_longer (set (marks lent_mark nodes) at 0) (remove lents place)
          (listed_taken (marks lent_mark nodes) lents (remove lents place) at arena.lent_listed
          (omega arith)
          (marked_at lent_mark nodes at default within ∙ ap lent_mark (leaf.kind default))
          (λ other. taken_at lents place at other leaf.in_list leaf.entry)
          (length-remove lents place leaf.in_list)));
    }

pub split_tree : (nodes : List Node) (opens lents : List ℕ) (place at number : ℕ) (test : Test)
    (half : ℕ) (default : Node) → IsArena nodes opens lents
    → IsLeafAt number nodes lents place at → times_lent number (tree_below nodes 0) ≡ 1
    → half + suc at ≡ length nodes
    → tree_below (nodes_split nodes at test half default) 0
    ≡ put number (branch test true open_leaf open_leaf) (tree_below nodes 0)
split_tree nodes opens lents place at number test half default arena leaf once far =
    let written = with_kind (Split test true half) (get_or nodes at default) in
    let first : Node = record { kind = Open; parent = at; yes = true } in
    let second : Node = record { kind = Open; parent = at; yes = false } in
    let new = branch test true open_leaf open_leaf in
    let behind = drop (suc at) (shapes nodes) in
    let long = length-shapes nodes in
    let short = length-drop (suc at) (shapes nodes) in
    let some = arena.some in
    let size = length-shapes (set nodes at written) in
    let same = length-set nodes at written in
    let is : shape_over (Split test true half) behind ≡ new =
    ap (λ tree. branch test true tree (get_or behind (suc half) open_leaf))
    (get_or_past behind half open_leaf (omega arith))
    ∙ ap (λ tree. branch test true open_leaf tree)
    (get_or_past behind (suc half) open_leaf (omega arith)) in
    ap (λ trees. get_or trees 0 open_leaf)
    (shapes-longer (set nodes at written) first second refl refl)
    ∙ get_or_append_left (shapes (set nodes at written)) (open_leaf ∷ open_leaf ∷ []) open_leaf 0
    (omega arith)
    ∙ leaf_tree nodes opens lents place at number new (Split test true half) default arena leaf once
    is
