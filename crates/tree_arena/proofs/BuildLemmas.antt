-- An arena that is made from a list stays one, and its tree is the list's.
use Rattle.std.proofs.Common.{◌≡◌, ◌≢◌, ℕ, zero, suc, ◌+◌, ◌-◌, ◌<◌, ◌≤◌, Bool, true, false, ◌==◌}
use Rattle.std.proofs.Common.{List, [], ◌∷◌, ◌++◌, length, map, reverse, get_or, set, cond}
use Rattle.std.proofs.Common.{Option, Some, drop, drop-cons, add-one, ◌*◌}
use Rattle.std.proofs.Common.{None, refl, sym, ap, ◌∙◌, subst, arith, length-append, append_assoc}
use Rattle.std.proofs.Common.{append-nil, inl, inr, get_or-set_same, get_or-set_other}
use Rattle.std.proofs.lemmas.Bool.{cases_Bool, eqb-true, eqb-false}
use Rattle.std.proofs.lemmas.Option.{none-some, same_Some}
use Rattle.std.proofs.lemmas.List.{length-set, map-append, reverse-append}
use Rattle.std.proofs.lemmas.List.{get_or_append_left, length-map, length-reverse}
use Rattle.std.proofs.lemmas.List.{nil_from_length}
use Rattle.std.specs.Option.{is_some}
use Rattle.std.proofs.lemmas.List.Sums.{sum_by-append}
use Rattle.league_core.specs.declared.tree.TreeNode.{TreeNode}
use Rattle.league_core.specs.declared.tree.TreeNode.TheVariants.{Open as open_node}
use Rattle.league_core.specs.declared.tree.TreeNode.TheVariants.{Lent as lent_node}
use Rattle.league_core.specs.declared.tree.TreeNode.TheVariants.{Refuted as refuted_node}
use Rattle.league_core.specs.declared.tree.TreeNode.TheVariants.{Split as split_node}
use Rattle.league_core.specs.declared.zone.Test.{Test}
use Rattle.league_core.specs.search.Trees.{Tree, open_leaf, lent_leaf, refuted_leaf, branch}
use Rattle.league_core.specs.search.Trees.{preorder, node_count}
use Rattle.league_core.specs.inside.Lending.{lent_count}
use Rattle.league_core.specs.search.TreeLists.{with_node, trees_of, only_tree, tree_of}
use Rattle.league_core.specs.search.TreeLists.{tree_or_leaf}
use Rattle.league_core.proofs.TreeListLemmas.{preorder-tree_of}
use Rattle.tree_arena.specs.declared.node.Kind.{Kind}
use Rattle.tree_arena.specs.declared.node.Kind.TheVariants.{Open, Lent, Refuted, Split}
use Rattle.tree_arena.specs.declared.node.Node.{Node}
use Rattle.tree_arena.specs.inside.Arena.{shape_over, tree_below, IsLeafKind, open_mark, lent_mark}
use Rattle.tree_arena.specs.inside.Arena.{marks, times_in, IsListed, IsArena, with_kind, filled}
use Rattle.tree_arena.specs.inside.Arena.{halves_under, nodes_taken, places_taken, open_taken}
use Rattle.tree_arena.specs.inside.Arena.{lent_taken, AllWithin, IsRoomy}
use Rattle.league_core.specs.inside.Rooms.{RoomyListView}
use Rattle.tree_arena.proofs.MarkLemmas.{one_if, one_if-same, one_if-other, times_in-push}
use Rattle.tree_arena.proofs.MarkLemmas.{listed_within, listed_same, listed_added, listed_taken}
use Rattle.tree_arena.proofs.MarkLemmas.{listed_longer, listed_two, listed_alike}
use Rattle.tree_arena.proofs.MarkLemmas.{times_in-reverse}
use Rattle.tree_arena.proofs.WeightLemmas.{whole_split, within_split}
use Rattle.tree_arena.proofs.LinkLemmas.{linked_split}
use Rattle.tree_arena.proofs.ArenaLemmas.{marked_at, length-marks, marks-set, is_open, arena_leaf}
use Rattle.tree_arena.proofs.ArenaLemmas.{any_node, arena-nodes, arena-lent}
use Rattle.tree_arena.proofs.RoomLemmas.{root_arena}
use Rattle.tree_arena.proofs.FillLemmas.{filled-none, filled-set_leaf, filled_split}
use Rattle.tree_arena.proofs.FillLemmas.{length-filled}
use Rattle.tree_arena.specs.inside.Calls.{most_nodes}
use Rattle.tree_arena.specs.inside.Order.{live_in}

-- the place on top among all that are open
pub places_count : (opens rest : List ℕ) (at number : ℕ)
    → times_in number (opens ++ (rest ++ at ∷ []))
    ≡ times_in number opens + times_in number rest + one_if number at
places_count opens rest at number =
    let all = sum_by-append (one_if number) opens (rest ++ at ∷ []) in
    let last = times_in-push number at rest in
    omega arith

-- it is open
pub place_is_open : (nodes : List Node) (opens rest lents : List ℕ) (at : ℕ)
    → IsArena nodes (opens ++ (rest ++ at ∷ [])) lents
    → (at < length nodes) × ((get_or nodes at any_node).kind ≡ Open)
place_is_open nodes opens rest lents at arena =
    let count = places_count opens rest at at in
    let once = one_if-same at in
    let marked = listed_within (marks open_mark nodes) (opens ++ (rest ++ at ∷ [])) at
    arena.open_listed (omega arith) in
    let long = length-marks open_mark nodes in
    let at_mark = marked.0 in
    let within : at < length nodes = omega arith in
    let mark = marked_at open_mark nodes at any_node within in
    let some = marked.1 in
    (within, is_open (get_or nodes at any_node).kind (omega arith))

-- and stands there once
pub place_once : (nodes : List Node) (opens rest lents : List ℕ) (at : ℕ)
    → IsArena nodes (opens ++ (rest ++ at ∷ [])) lents → times_in at rest ≡ 0
place_once nodes opens rest lents at arena =
    let count = places_count opens rest at at in
    let once = one_if-same at in
    let is = place_is_open nodes opens rest lents at arena in
    let mark = marked_at open_mark nodes at any_node is.0 ∙ ap open_mark is.1 in
    let each = arena.open_listed.each at in
    omega arith

-- a leaf that comes to the place
built_leaf : (nodes : List Node) (opens rest lents more longer : List ℕ) (at : ℕ) (kind : Kind)
    → IsArena nodes (opens ++ (rest ++ at ∷ [])) lents → IsLeafKind kind
    → IsListed (set (marks open_mark nodes) at (open_mark kind)) more
    → IsListed (set (marks lent_mark nodes) at (lent_mark kind)) longer
    → IsArena (set nodes at (with_kind kind (get_or nodes at any_node)) ++ []) more longer
built_leaf nodes opens rest lents more longer at kind arena leaf opened loaned =
    let is = place_is_open nodes opens rest lents at arena in
    subst (λ (ns : List Node). IsArena ns more longer)
    (sym (append-nil (set nodes at (with_kind kind (get_or nodes at any_node)))))
    (arena_leaf nodes (opens ++ (rest ++ at ∷ [])) lents more longer at kind any_node arena is.0
    (subst (λ (k : Kind). IsLeafKind k) (sym is.1) tt) leaf opened loaned)

-- the place goes off the open ones
place_taken : (nodes : List Node) (opens rest lents : List ℕ) (at : ℕ)
    → IsArena nodes (opens ++ (rest ++ at ∷ [])) lents
    → IsListed (set (marks open_mark nodes) at 0) (opens ++ rest)
place_taken nodes opens rest lents at arena =
    let is = place_is_open nodes opens rest lents at arena in
    let within = is.0 in
    let long = length-marks open_mark nodes in
    listed_taken (marks open_mark nodes) (opens ++ (rest ++ at ∷ [])) (opens ++ rest) at
    arena.open_listed (omega arith)
    (marked_at open_mark nodes at any_node within ∙ ap open_mark is.1)
    (λ number.
    let all = places_count opens rest at number in
    let both = sum_by-append (one_if number) opens rest in
    omega arith)
    (omega (
      arith,
      length-append opens rest,
      length-append opens (rest ++ at ∷ []),
      length-append rest (at ∷ []),
    ))

-- and was not lent
place_not_lent : (nodes : List Node) (opens rest lents : List ℕ) (at : ℕ)
    → IsArena nodes (opens ++ (rest ++ at ∷ [])) lents
    → (at < length (marks lent_mark nodes)) × (get_or (marks lent_mark nodes) at 0 ≡ 0)
place_not_lent nodes opens rest lents at arena =
    let is = place_is_open nodes opens rest lents at arena in
    let within = is.0 in
    let long = length-marks lent_mark nodes in
    (omega arith, marked_at lent_mark nodes at any_node within ∙ ap lent_mark is.1)

-- whatever node comes to the place, the arena stays one
pub built : (node : TreeNode) (nodes : List Node) (opens rest lents : List ℕ) (at : ℕ)
    → IsArena nodes (opens ++ (rest ++ at ∷ [])) lents
    → IsArena (nodes_taken node nodes at any_node)
    (open_taken node at opens ++ places_taken node (length nodes) rest) (lent_taken node at lents)
built open_node nodes opens rest lents at arena =
    let is = place_is_open nodes opens rest lents at arena in
    let none = place_not_lent nodes opens rest lents at arena in
    built_leaf nodes opens rest lents ((opens ++ at ∷ []) ++ rest) lents at Open arena tt
    (listed_alike (set (marks open_mark nodes) at 1) (opens ++ (rest ++ at ∷ []))
    ((opens ++ at ∷ []) ++ rest)
    (listed_same (marks open_mark nodes) (opens ++ (rest ++ at ∷ [])) at 1
    (marked_at open_mark nodes at any_node is.0 ∙ ap open_mark is.1) arena.open_listed)
    (λ number.
    let all = places_count opens rest at number in
    let both = sum_by-append (one_if number) (opens ++ at ∷ []) rest in
    let last = times_in-push number at opens in
    omega arith)
    (omega (
      arith,
      length-append (opens ++ at ∷ []) rest,
      length-append opens (at ∷ []),
      length-append opens (rest ++ at ∷ []),
      length-append rest (at ∷ []),
    )))
    (listed_same (marks lent_mark nodes) lents at 0 none.1 arena.lent_listed)
built (lent_node number) nodes opens rest lents at arena =
    let none = place_not_lent nodes opens rest lents at arena in
    built_leaf nodes opens rest lents (opens ++ rest) (lents ++ at ∷ []) at (Lent number) arena tt
    (place_taken nodes opens rest lents at arena)
    (listed_added (marks lent_mark nodes) lents at arena.lent_listed none.0 none.1)
built (refuted_node reason fresh) nodes opens rest lents at arena =
    let none = place_not_lent nodes opens rest lents at arena in
    built_leaf nodes opens rest lents (opens ++ rest) lents at (Refuted reason fresh) arena tt
    (place_taken nodes opens rest lents at arena)
    (listed_same (marks lent_mark nodes) lents at 0 none.1 arena.lent_listed)
built (split_node test fresh) nodes opens rest lents at arena =
    let is = place_is_open nodes opens rest lents at arena in
    let none = place_not_lent nodes opens rest lents at arena in
    let within = is.0 in
    let half = length nodes - at - 1 in
    let written = with_kind (Split test fresh half) (get_or nodes at any_node) in
    let first : Node = record { kind = Open; parent = at; yes = true } in
    let second : Node = record { kind = Open; parent = at; yes = false } in
    let far : half + suc at ≡ length nodes = omega arith in
    let is_leaf = subst (λ (k : Kind). IsLeafKind k) (sym is.1) tt in
    let long = length-append (set nodes at written) (first ∷ second ∷ []) in
    let size = length-set (marks open_mark nodes) at 0 ∙ length-marks open_mark nodes in
    record {
      some = omega arith;
      whole = whole_split nodes at written any_node first second test fresh half arena.whole
          arena.within within is_leaf refl far tt tt;
      within = within_split nodes at written first second test fresh half arena.within within refl
          far tt tt;
      linked = linked_split nodes at written any_node first second test fresh half within is_leaf
          refl refl refl far refl refl refl refl arena.linked;
      open_listed = subst (λ (ms : List ℕ).
          IsListed ms (opens ++ ((rest ++ suc (length nodes) ∷ []) ++ length nodes ∷ [])))
          (sym (map-append (λ (node : Node). open_mark node.kind) (set nodes at written)
          (first ∷ second ∷ []) ∙ ap (λ ms. ms ++ 1 ∷ 1 ∷ [])
          (marks-set open_mark nodes at written)))
          (subst (λ (list : List ℕ). IsListed (set (marks open_mark nodes) at 0 ++ 1 ∷ 1 ∷ []) list)
          (ap (λ list. list ++ length nodes ∷ [])
          (append_assoc opens rest (suc (length nodes) ∷ []))
          ∙ append_assoc opens (rest ++ suc (length nodes) ∷ []) (length nodes ∷ []))
          (listed_two (set (marks open_mark nodes) at 0) (opens ++ rest) (length nodes)
          (place_taken nodes opens rest lents at arena) size));
      lent_listed = subst (λ (ms : List ℕ). IsListed ms lents)
          (sym (map-append (λ (node : Node). lent_mark node.kind) (set nodes at written)
          (first ∷ second ∷ []) ∙ ap (λ ms. ms ++ 0 ∷ 0 ∷ [])
          (marks-set lent_mark nodes at written)))
          (listed_longer (set (marks lent_mark nodes) at 0) lents
          (listed_same (marks lent_mark nodes) lents at 0 none.1 arena.lent_listed));
    }

-- the trees that are given at the places, the next one first
abbrev pub given_at : List (Option Tree) → List ℕ → List (Option Tree)
given_at given places = map (λ at. get_or given at None) places

-- how far an arena has been made: the places wait for the trees whose list is left
pub record IsBuilding (tree : Tree) (size : ℕ) (left : List TreeNode) (nodes : List Node)
    (places opens lents : List ℕ) : Type 0 where
  pub arena : IsArena nodes (opens ++ places) lents
  pub given : List (Option Tree)
  pub trees : List Tree
  pub read : trees_of left ≡ Some trees
  pub long : length given ≡ length nodes
  pub places_are : given_at given (reverse places) ≡ map Some trees
  pub others : (at : ℕ) → times_in at places ≡ 0 → get_or given at None ≡ None
  pub whole : get_or (filled given nodes) 0 open_leaf ≡ tree
  pub many : length nodes + length left ≡ size + length places

-- a place elsewhere has what it had
given-set : (given : List (Option Tree)) (places : List ℕ) (at : ℕ) (one : Option Tree)
    → times_in at places ≡ 0 → given_at (set given at one) places ≡ given_at given places
given-set given [] at one none = refl
given-set given (place ∷ places) at one none =
    let sum = sum_by-append (one_if at) (place ∷ []) places in
    let rest = given-set given places at one (omega arith) in
    ap (λ t. t ∷ given_at (set given at one) places)
    (elim (cases_Bool (place == at)) as (λ _. get_or (set given at one) place None
    ≡ get_or given place None) [
      | inl same ↦
          let once : one_if at place ≡ 1 = ap (λ b. cond b 1 0) same in
          absurd (omega arith)
      | inr different ↦ get_or-set_other given at place one None (eqb-false place at different)
    ])
    ∙ ap (λ ts. get_or given place None ∷ ts) rest

-- what is given stays given in a longer list
some_kept : (given more : List (Option Tree)) (at : ℕ) (tree : Tree)
    → get_or given at None ≡ Some tree → get_or (given ++ more) at None ≡ Some tree
some_kept [] more at tree is = absurd (none-some tree is)
some_kept (one ∷ given) more zero tree is = is
some_kept (one ∷ given) more (suc at) tree is = some_kept given more at tree is

given-longer : (given more : List (Option Tree)) (places : List ℕ) (trees : List Tree)
    → given_at given places ≡ map Some trees → given_at (given ++ more) places ≡ map Some trees
given-longer given more [] trees is = is
given-longer given more (place ∷ places) [] is = cc
given-longer given more (place ∷ places) (tree ∷ trees) is =
    ap (λ t. t ∷ given_at (given ++ more) places)
    (some_kept given more place tree (first_of is))
    ∙ ap (λ ts. Some tree ∷ ts) (given-longer given more places trees (rest_of is))
  where
    first_of : get_or given place None ∷ given_at given places ≡ Some tree ∷ map Some trees
        → get_or given place None ≡ Some tree
    first_of same = cc

    rest_of : get_or given place None ∷ given_at given places ≡ Some tree ∷ map Some trees
        → given_at given places ≡ map Some trees
    rest_of same = cc

-- nothing else is given there
none_kept : (given : List (Option Tree)) (a b : Option Tree) (at : ℕ)
    → get_or given at None ≡ None → at ≢ length given → at ≢ suc (length given)
    → get_or (given ++ a ∷ b ∷ []) at None ≡ None
none_kept [] a b zero none one two = absurd (one refl)
none_kept [] a b (suc zero) none one two = absurd (two refl)
none_kept [] a b (suc (suc at)) none one two = refl
none_kept (given_one ∷ given) a b zero none one two = none
none_kept (given_one ∷ given) a b (suc at) none one two =
    none_kept given a b at none (λ is. one (ap suc is)) (λ is. two (ap suc is))

-- what stands at the end
given_end : (given : List (Option Tree)) (a b : Option Tree) (size : ℕ) → size ≡ length given
    → (get_or (given ++ a ∷ b ∷ []) size None ≡ a)
    × (get_or (given ++ a ∷ b ∷ []) (suc size) None ≡ b)
given_end [] a b zero is = (refl, refl)
given_end [] a b (suc size) is = absurd (omega arith)
given_end (one ∷ given) a b zero is = absurd (omega arith)
given_end (one ∷ given) a b (suc size) is = given_end given a b size (omega arith)

-- if a tree is given to no place but these
others_less : (given : List (Option Tree)) (rest : List ℕ) (at : ℕ) → at < length given
    → ((place : ℕ) → times_in place (rest ++ at ∷ []) ≡ 0 → get_or given place None ≡ None)
    → (place : ℕ) → times_in place rest ≡ 0 → get_or (set given at None) place None ≡ None
others_less given rest at within others place none =
    elim (cases_Bool (place == at)) as (λ _. get_or (set given at None) place None ≡ None) [
      | inl same ↦
          let is = eqb-true place at same in
          subst (λ (k : ℕ). get_or (set given at None) k None ≡ None) (sym is)
          (get_or-set_same given at None None within)
      | inr different ↦
          let apart : place ≢ at = eqb-false place at different in
          let last = times_in-push place at rest in
          let absent = one_if-other place at (λ is. apart (sym is)) in
          get_or-set_other given at place None None apart ∙ others place (omega arith)
    ]

-- a leaf that comes to the place
building_leaf : (tree leaf : Tree) (size : ℕ) (left : List TreeNode) (nodes : List Node)
    (opens rest lents more longer : List ℕ) (at : ℕ) (kind : Kind) (trees : List Tree)
    (given : List (Option Tree)) → at < length nodes → IsLeafKind kind
    → shape_over kind [] ≡ leaf
    → IsArena (set nodes at (with_kind kind (get_or nodes at any_node)) ++ []) (more ++ rest) longer
    → times_in at rest ≡ 0 → trees_of left ≡ Some trees → length given ≡ length nodes
    → given_at given (at ∷ reverse rest) ≡ map Some (leaf ∷ trees)
    → ((place : ℕ) → times_in place (rest ++ at ∷ []) ≡ 0 → get_or given place None ≡ None)
    → get_or (filled given nodes) 0 open_leaf ≡ tree
    → length nodes + suc (length left) ≡ size + (length rest + 1)
    → IsBuilding tree size left
    (set nodes at (with_kind kind (get_or nodes at any_node)) ++ []) rest more longer
building_leaf tree leaf size left nodes opens rest lents more longer at kind trees given within
    is_leaf shape arena once read long places_are others whole many =
    let node = with_kind kind (get_or nodes at any_node) in
    let first : get_or given at None ≡ Some leaf = cc in
    let later : given_at given (reverse rest) ≡ map Some trees = cc in
    let same = length-set nodes at node in
    let plain = append-nil (set nodes at node) in
    record {
      arena = arena;
      given = set given at None;
      trees = trees;
      read = read;
      long = length-set given at None ∙ long ∙ sym same ∙ ap length (sym plain);
      places_are = given-set given (reverse rest) at None (times_in-reverse at rest ∙ once) ∙ later;
      others = others_less given rest at (omega arith) others;
      whole = ap (λ ns. get_or (filled (set given at None) ns) 0 open_leaf) plain
          ∙ ap (λ ts. get_or ts 0 open_leaf)
          (filled-set_leaf given nodes at node leaf within first is_leaf shape) ∙ whole;
      many = let size_is = ap length plain ∙ same in omega arith;
    }

-- a split that comes to the place
building_split : (tree yes_half no_half : Tree) (test : Test) (fresh : Bool) (size : ℕ)
    (left : List TreeNode) (nodes : List Node) (opens rest lents : List ℕ) (at : ℕ)
    (trees : List Tree) (given : List (Option Tree)) → at < length nodes
    → AllWithin nodes
    → IsArena (nodes_taken (split_node test fresh) nodes at any_node)
    (opens ++ ((rest ++ suc (length nodes) ∷ []) ++ length nodes ∷ [])) lents
    → times_in at rest ≡ 0 → trees_of left ≡ Some (yes_half ∷ no_half ∷ trees)
    → length given ≡ length nodes
    → given_at given (at ∷ reverse rest)
    ≡ map Some (branch test fresh yes_half no_half ∷ trees)
    → ((place : ℕ) → times_in place (rest ++ at ∷ []) ≡ 0 → get_or given place None ≡ None)
    → get_or (filled given nodes) 0 open_leaf ≡ tree
    → length nodes + suc (length left) ≡ size + (length rest + 1)
    → IsBuilding tree size left (nodes_taken (split_node test fresh) nodes at any_node)
    ((rest ++ suc (length nodes) ∷ []) ++ length nodes ∷ []) opens lents
building_split tree yes_half no_half test fresh size left nodes opens rest lents at trees given
    within all arena once read long places_are others whole many =
    let half = length nodes - at - 1 in
    let node = with_kind (Split test fresh half) (get_or nodes at any_node) in
    let first : get_or given at None ≡ Some (branch test fresh yes_half no_half) = cc in
    let later : given_at given (reverse rest) ≡ map Some trees = cc in
    let same = length-set nodes at node in
    let less = set given at None in
    let less_long = length-set given at None ∙ long in
    let more = less ++ Some yes_half ∷ Some no_half ∷ [] in
    let ends = given_end less (Some yes_half) (Some no_half) (length nodes) (sym less_long) in
    let added = length-append (set nodes at node) (halves_under at) in
    let given_added = length-append less (Some yes_half ∷ Some no_half ∷ []) in
    let full = length-filled given nodes in
    let turned : reverse ((rest ++ suc (length nodes) ∷ []) ++ length nodes ∷ [])
    ≡ length nodes ∷ suc (length nodes) ∷ reverse rest =
    reverse-append (rest ++ suc (length nodes) ∷ []) (length nodes ∷ [])
    ∙ ap (λ list. length nodes ∷ list) (reverse-append rest (suc (length nodes) ∷ [])) in
    record {
      arena = arena;
      given = more;
      trees = yes_half ∷ no_half ∷ trees;
      read = read;
      long = omega arith;
      places_are = ap (given_at more) turned
          ∙ ap (λ t. t ∷ get_or more (suc (length nodes)) None ∷ given_at more (reverse rest))
          ends.0
          ∙ ap (λ t. Some yes_half ∷ t ∷ given_at more (reverse rest)) ends.1
          ∙ ap (λ ts. Some yes_half ∷ Some no_half ∷ ts)
          (given-longer less (Some yes_half ∷ Some no_half ∷ []) (reverse rest) trees
          (given-set given (reverse rest) at None (times_in-reverse at rest ∙ once) ∙ later));
      others = λ place none.
          let two = times_in-push place (length nodes) (rest ++ suc (length nodes) ∷ []) in
          let one = times_in-push place (suc (length nodes)) rest in
          none_kept less (Some yes_half) (Some no_half) place
          (others_less given rest at (omega arith) others place (omega arith))
          (λ is. let here : one_if place (length nodes) ≡ 1 =
          ap (λ k. one_if k (length nodes)) (is ∙ less_long) ∙ one_if-same (length nodes) in
          omega arith)
          (λ is. let here : one_if place (suc (length nodes)) ≡ 1 =
          ap (λ k. one_if k (suc (length nodes))) (is ∙ ap suc less_long)
          ∙ one_if-same (suc (length nodes)) in
          omega arith);
      whole = ap (λ ts. get_or ts 0 open_leaf)
          (filled_split given nodes at node (record { kind = Open; parent = at; yes = true })
          (record { kind = Open; parent = at; yes = false }) test fresh half yes_half no_half within
          long all first refl (omega arith))
          ∙ get_or_append_left (filled given nodes) (yes_half ∷ no_half ∷ []) open_leaf 0
          (omega arith)
          ∙ whole;
      many = omega (
        arith,
        added,
        length-append (rest ++ suc (length nodes) ∷ []) (length nodes ∷ []),
        length-append rest (suc (length nodes) ∷ []),
      );
    }

-- what is left begins with a node, and so is a place
pub left_some : (node : TreeNode) (read : Option (List Tree)) (trees : List Tree)
    → with_node node read ≡ Some trees → 1 ≤ length trees
left_some node None trees is = absurd (none-some trees is)
left_some open_node (Some more) trees is =
    let size = ap length (same_Some (open_leaf ∷ more) trees is) in omega arith
left_some (lent_node number) (Some more) trees is =
    let size = ap length (same_Some (lent_leaf number ∷ more) trees is) in omega arith
left_some (refuted_node reason fresh) (Some more) trees is =
    let size = ap length (same_Some (refuted_leaf reason fresh ∷ more) trees is) in omega arith
left_some (split_node test fresh) (Some []) trees is = absurd (none-some trees is)
left_some (split_node test fresh) (Some (tree ∷ [])) trees is = absurd (none-some trees is)
left_some (split_node test fresh) (Some (yes_half ∷ no_half ∷ more)) trees is =
    let size = ap length (same_Some (branch test fresh yes_half no_half ∷ more) trees is) in
    omega arith

-- the trees that are read are no more than the nodes
trees_few : (nodes : List TreeNode) (trees : List Tree) → trees_of nodes ≡ Some trees
    → length trees ≤ length nodes
trees_few [] trees is = let size = ap length (same_Some [] trees is) in omega arith
trees_few (node ∷ nodes) trees is =
    by_read node (trees_of nodes) refl is (λ more behind. trees_few nodes more behind)
  where
    by_read : (first : TreeNode) (read : Option (List Tree)) → trees_of nodes ≡ read
        → with_node first read ≡ Some trees
        → ((more : List Tree) → trees_of nodes ≡ Some more → length more ≤ length nodes)
        → length trees ≤ suc (length nodes)
    by_read first None behind here fewer = absurd (none-some trees here)
    by_read open_node (Some more) behind here fewer =
        let size = ap length (same_Some (open_leaf ∷ more) trees here) in
        let rest = fewer more behind in omega arith
    by_read (lent_node number) (Some more) behind here fewer =
        let size = ap length (same_Some (lent_leaf number ∷ more) trees here) in
        let rest = fewer more behind in omega arith
    by_read (refuted_node reason fresh) (Some more) behind here fewer =
        let size = ap length (same_Some (refuted_leaf reason fresh ∷ more) trees here) in
        let rest = fewer more behind in omega arith
    by_read (split_node test fresh) (Some []) behind here fewer = absurd (none-some trees here)
    by_read (split_node test fresh) (Some (tree ∷ [])) behind here fewer =
        absurd (none-some trees here)
    by_read (split_node test fresh) (Some (yes_half ∷ no_half ∷ more)) behind here fewer =
        let size = ap length (same_Some (branch test fresh yes_half no_half ∷ more) trees here) in
        let rest = fewer (yes_half ∷ no_half ∷ more) behind in omega arith

-- as many places as trees
places_many : (tree : Tree) (size : ℕ) (left : List TreeNode) (nodes : List Node)
    (places opens lents : List ℕ) (building : IsBuilding tree size left nodes places opens lents)
    → length places ≡ length building.trees
places_many tree size left nodes places opens lents building =
    sym (length-reverse places)
    ∙ sym (length-map (reverse places) (λ at. get_or building.given at None))
    ∙ ap length building.places_are ∙ length-map building.trees Some

-- so a node of the list has a place
pub building_some : (tree : Tree) (size : ℕ) (node : TreeNode) (left : List TreeNode)
    (nodes : List Node) (places opens lents : List ℕ)
    → IsBuilding tree size (node ∷ left) nodes places opens lents → 0 < length places
building_some tree size node left nodes places opens lents building =
    let many = places_many tree size (node ∷ left) nodes places opens lents building in
    let some = left_some node (trees_of left) building.trees building.read in
    omega arith

-- and there are no more nodes than the list has
pub building_few : (tree : Tree) (size : ℕ) (left : List TreeNode) (nodes : List Node)
    (places opens lents : List ℕ) → IsBuilding tree size left nodes places opens lents
    → length nodes ≤ size
building_few tree size left nodes places opens lents building =
    let many = places_many tree size left nodes places opens lents building in
    let few = trees_few left building.trees building.read in
    let count = building.many in
    omega arith

pub building_within : (tree : Tree) (size : ℕ) (left : List TreeNode) (nodes : List Node)
    (places opens lents rest : List ℕ) (at : ℕ)
    → IsBuilding tree size left nodes places opens lents → places ≡ rest ++ at ∷ []
    → at < length nodes
building_within tree size left nodes places opens lents rest at building popped =
    let is = place_is_open nodes opens rest lents at
    (subst (λ (ps : List ℕ). IsArena nodes (opens ++ ps) lents) popped building.arena) in
    is.0

-- the next node of the list takes it on
next_by_node : (tree : Tree) (size : ℕ) (node : TreeNode) (left : List TreeNode)
    (nodes : List Node) (opens rest lents : List ℕ) (at : ℕ) (trees : List Tree)
    (given : List (Option Tree)) (read : Option (List Tree)) → trees_of left ≡ read
    → with_node node read ≡ Some trees → at < length nodes → AllWithin nodes
    → IsArena (nodes_taken node nodes at any_node)
    (open_taken node at opens ++ places_taken node (length nodes) rest) (lent_taken node at lents)
    → times_in at rest ≡ 0 → length given ≡ length nodes
    → given_at given (at ∷ reverse rest) ≡ map Some trees
    → ((place : ℕ) → times_in place (rest ++ at ∷ []) ≡ 0 → get_or given place None ≡ None)
    → get_or (filled given nodes) 0 open_leaf ≡ tree
    → length nodes + suc (length left) ≡ size + (length rest + 1)
    → IsBuilding tree size left (nodes_taken node nodes at any_node)
    (places_taken node (length nodes) rest) (open_taken node at opens) (lent_taken node at lents)
next_by_node tree size node left nodes opens rest lents at trees given None behind is within all
    arena once long places_are others whole many = absurd (none-some trees is)
next_by_node tree size open_node left nodes opens rest lents at trees given (Some more) behind is
    within all arena once long places_are others whole many =
    building_leaf tree open_leaf size left nodes opens rest lents (opens ++ at ∷ []) lents at Open
    more given within tt refl arena once behind long
    (places_are ∙ ap (map Some) (sym (same_Some (open_leaf ∷ more) trees is))) others whole many
next_by_node tree size (lent_node number) left nodes opens rest lents at trees given (Some more)
    behind is within all arena once long places_are others whole many =
    building_leaf tree (lent_leaf number) size left nodes opens rest lents opens (lents ++ at ∷ [])
    at (Lent number) more given within tt refl arena once behind long
    (places_are ∙ ap (map Some) (sym (same_Some (lent_leaf number ∷ more) trees is))) others whole
    many
next_by_node tree size (refuted_node reason fresh) left nodes opens rest lents at trees given
    (Some more) behind is within all arena once long places_are others whole many =
    building_leaf tree (refuted_leaf reason fresh) size left nodes opens rest lents opens lents at
    (Refuted reason fresh) more given within tt refl arena once behind long
    (places_are ∙ ap (map Some) (sym (same_Some (refuted_leaf reason fresh ∷ more) trees is)))
    others whole many
next_by_node tree size (split_node test fresh) left nodes opens rest lents at trees given (Some [])
    behind is within all arena once long places_are others whole many = absurd (none-some trees is)
next_by_node tree size (split_node test fresh) left nodes opens rest lents at trees given
    (Some (one ∷ [])) behind is within all arena once long places_are others whole many =
    absurd (none-some trees is)
next_by_node tree size (split_node test fresh) left nodes opens rest lents at trees given
    (Some (yes_half ∷ no_half ∷ more)) behind is within all arena once long places_are others whole
    many =
    building_split tree yes_half no_half test fresh size left nodes opens rest lents at more given
    within all arena once behind long
    (places_are ∙ ap (map Some)
    (sym (same_Some (branch test fresh yes_half no_half ∷ more) trees is))) others whole many

pub building_next : (tree : Tree) (size : ℕ) (node : TreeNode) (left : List TreeNode)
    (nodes : List Node) (places opens lents rest : List ℕ) (at : ℕ)
    → IsBuilding tree size (node ∷ left) nodes places opens lents → places ≡ rest ++ at ∷ []
    → IsBuilding tree size left (nodes_taken node nodes at any_node)
    (places_taken node (length nodes) rest) (open_taken node at opens) (lent_taken node at lents)
building_next tree size node left nodes places opens lents rest at building popped =
    let arena = subst (λ (ps : List ℕ). IsArena nodes (opens ++ ps) lents) popped
    building.arena in
    let is = place_is_open nodes opens rest lents at arena in
    let count = building.many in
    let shorter = ap length popped ∙ length-append rest (at ∷ []) in
    next_by_node tree size node left nodes opens rest lents at building.trees building.given
    (trees_of left) refl building.read is.0 building.arena.within
    (built node nodes opens rest lents at arena)
    (place_once nodes opens rest lents at arena) building.long
    (ap (given_at building.given) (sym (ap reverse popped ∙ reverse-append rest (at ∷ [])))
    ∙ building.places_are)
    (λ place none. building.others place (ap (times_in place) popped ∙ none))
    building.whole (omega arith)

-- it begins with one place, for the whole tree
pub building_starts : (tree : Tree) (list : List TreeNode) (nodes : List Node)
    (places opens lents : List ℕ) → trees_of list ≡ Some (tree ∷ [])
    → nodes ≡ record { kind = Open; parent = 0; yes = true } ∷ [] → places ≡ 0 ∷ []
    → opens ≡ [] → lents ≡ [] → IsBuilding tree (length list) list nodes places opens lents
building_starts tree list nodes places opens lents read nodes_are places_are none_open none_lent =
    rw (nodes_are, places_are, none_open, none_lent) (record {
      arena = root_arena;
      given = Some tree ∷ [];
      trees = tree ∷ [];
      read = read;
      long = refl;
      places_are = refl;
      others = other;
      whole = refl;
      many = omega arith;
    })
  where
    other : (at : ℕ) → times_in at (0 ∷ []) ≡ 0 → get_or (Some tree ∷ []) at None ≡ None
    other zero none = let once = one_if-same 0 in absurd (omega arith)
    other (suc at) none = refl

-- at its end no place waits, and the tree is the list's
pub building_ends : (tree : Tree) (size : ℕ) (left : List TreeNode) (nodes : List Node)
    (places opens lents : List ℕ) → IsBuilding tree size left nodes places opens lents
    → left ≡ [] → (tree_below nodes 0 ≡ tree) × IsArena nodes opens lents × (places ≡ [])
building_ends tree size left nodes places opens lents building done =
    let many = places_many tree size left nodes places opens lents building in
    let none : [] ≡ building.trees =
    same_Some [] building.trees (ap trees_of (sym done) ∙ building.read) in
    let empty : places ≡ [] = nil_from_length places (many ∙ ap length (sym none)) in (
      ap (λ trees. get_or trees 0 open_leaf) (sym (filled-none building.given nodes
          (λ at. building.others at (ap (times_in at) empty))))
          ∙ building.whole,
      subst (λ (list : List ℕ). IsArena nodes list lents)
          (ap (λ list. opens ++ list) empty ∙ append-nil opens) building.arena,
      empty,
    )

-- a list that is read has its tree
pub read_tree : (list : List TreeNode) → is_some (tree_of list) ≡ true
    → (tree : Tree) × (trees_of list ≡ Some (tree ∷ [])) × (preorder tree ≡ list)
read_tree list some = by_trees (trees_of list) refl some
  where
    by_trees : (read : Option (List Tree)) → trees_of list ≡ read
        → is_some (only_tree read) ≡ true
        → (tree : Tree) × (trees_of list ≡ Some (tree ∷ [])) × (preorder tree ≡ list)
    by_trees None is there = cc
    by_trees (Some []) is there = cc
    by_trees (Some (tree ∷ [])) is there =
        (tree, is, preorder-tree_of list tree (ap only_tree is))
    by_trees (Some (tree ∷ other ∷ trees)) is there = cc

-- the making begins
pub building_begins : (list : List TreeNode) (nodes : List Node) (places opens lents : List ℕ)
    → is_some (tree_of list) ≡ true
    → nodes ≡ record { kind = Open; parent = 0; yes = true } ∷ [] → places ≡ 0 ∷ []
    → opens ≡ [] → lents ≡ []
    → IsBuilding (tree_or_leaf (tree_of list)) (length list) list nodes places opens lents
building_begins list nodes places opens lents some nodes_are places_are none_open none_lent =
    let found = read_tree list some in
    subst (λ (t : Tree). IsBuilding t (length list) list nodes places opens lents)
    (sym (ap (λ read. tree_or_leaf (only_tree read)) found.1))
    (building_starts found.0 list nodes places opens lents found.1 nodes_are places_are none_open
    none_lent)

-- the tree has the list
pub preorder-read : (list : List TreeNode) → is_some (tree_of list) ≡ true
    → preorder (tree_or_leaf (tree_of list)) ≡ list
preorder-read list some =
    let found = read_tree list some in
    ap (λ read. preorder (tree_or_leaf (only_tree read))) found.1 ∙ found.2

-- the list from an item on
pub from_item : (list : List TreeNode) (index : ℕ) (node default : TreeNode)
    → index < length list → node ≡ get_or list index default
    → drop index list ≡ node ∷ drop (index + 1) list
from_item list index node default within is =
    drop-cons list index default within
    ∙ ap (λ n. get_or list index default ∷ drop n list) (sym (add-one index))
    ∙ ap (λ first. first ∷ drop (index + 1) list) (sym is)

-- the next node, as it was taken
pub building_on : (tree : Tree) (size : ℕ) (node : TreeNode) (list left : List TreeNode)
    (nodes more : List Node) (places opens lents rest next lent : List ℕ) (at : ℕ)
    → list ≡ node ∷ left → IsBuilding tree size list nodes places opens lents
    → places ≡ rest ++ at ∷ []
    → ((default : Node) → more ≡ nodes_taken node nodes at default)
    → next ≡ places_taken node (length nodes) rest → lent ≡ lent_taken node at lents
    → IsBuilding tree size left more next (open_taken node at opens) lent
building_on tree size node list left nodes more places opens lents rest next lent at list_is
    building popped more_is next_is lent_is =
    rw (more_is any_node, next_is, lent_is)
    (building_next tree size node left nodes places opens lents rest at
    (subst (λ (l : List TreeNode). IsBuilding tree size l nodes places opens lents) list_is
    building)
    popped)

-- no more than half of the nodes, and one, are lent
lent_count-few : (tree : Tree) → 2 * lent_count tree ≤ node_count tree + 1
lent_count-few open_leaf = omega arith
lent_count-few (lent_leaf number) = omega arith
lent_count-few (refuted_leaf reason fresh) = omega arith
lent_count-few (branch test fresh yes_half no_half) =
    omega (arith, lent_count-few yes_half, lent_count-few no_half)

pub lents_few : (nodes : List Node) (opens lents : List ℕ) → IsArena nodes opens lents
    → 2 * length lents ≤ length nodes + 1
lents_few nodes opens lents arena =
    let few = lent_count-few (tree_below nodes 0) in
    let one = arena-nodes nodes opens lents arena in
    let two = arena-lent nodes opens lents arena in
    omega arith

-- what was made has room for each lent leaf
pub built_roomy : (size : ℕ) (made done : RoomyListView Node) (leaves live lent : RoomyListView ℕ)
    (opens : List ℕ) → IsArena made.items opens lent.items
    → live_in made.items ≡ reverse leaves.items → length made.items ≤ size → size ≤ most_nodes
    → done.items ≡ made.items → live.items ≡ leaves.items
    → 2 * length lent.items ≤ done.room → length lent.items ≤ live.room
    → IsRoomy done live lent
built_roomy size made done leaves live lent opens arena order count few same same_live node_room
    live_room =
    let half = lents_few made.items opens lent.items arena in
    let long = ap length same in
    record {
      opens = opens;
      arena = rw same arena;
      order = ap live_in same ∙ order ∙ ap reverse (sym same_live);
      few = omega arith;
      node_room = node_room;
      live_room = live_room;
    }
