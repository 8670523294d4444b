-- The weights of an arena: each node stands in the tree once, so what is counted of the tree is
-- counted of the list.
use Rattle.std.proofs.Common.{◌≡◌, ℕ, zero, suc, ◌+◌, ◌<◌, ◌≤◌, Bool, ◌||◌, nat_lt, List, [], ◌∷◌}
use Rattle.std.proofs.Common.{◌++◌, length, map, get_or, set, refl, sym, ap, ◌∙◌, subst, arith}
use Rattle.std.proofs.Common.{length-append}
use Rattle.std.proofs.lemmas.List.{get_or_append_left, length-set, length-map}
use Rattle.league_core.specs.declared.zone.Test.{Test}
use Rattle.league_core.specs.search.Trees.{Tree, open_leaf, lent_leaf, refuted_leaf, branch}
use Rattle.league_core.specs.search.Trees.{node_count, has_open}
use Rattle.league_core.specs.inside.Lending.{lent_count, times_lent}
use Rattle.tree_arena.specs.declared.node.Kind.{Kind}
use Rattle.tree_arena.specs.declared.node.Kind.TheVariants.{Open, Lent, Refuted, Split}
use Rattle.tree_arena.specs.declared.node.Node.{Node}
use Rattle.tree_arena.specs.inside.Arena.{shape_over, shapes, tree_below, total, weight_over}
use Rattle.tree_arena.specs.inside.Arena.{weights, IsWhole, AreHalvesWithin, AllWithin, IsLeafKind}
use Rattle.tree_arena.specs.inside.Arena.{open_mark, lent_mark, number_mark, node_mark, marks}
use Rattle.tree_arena.proofs.MarkLemmas.{total-append, total-set}
use Rattle.tree_arena.proofs.ShapeLemmas.{length-shapes}
use Rattle.league_core.proofs.plain.Numbers.{some_of_sum}
use Rattle.league_core.proofs.plain.Slots.{at_end}
use Rattle.tree_arena.specs.OpenCounts.{open_count}

pub length-weights : (owns : List ℕ) (nodes : List Node) → length owns ≡ length nodes
    → length (weights owns nodes) ≡ length nodes
length-weights [] [] long = refl
length-weights [] (node ∷ nodes) long = absurd (omega arith)
length-weights (own ∷ owns) [] long = absurd (omega arith)
length-weights (own ∷ owns) (node ∷ nodes) long =
    ap suc (length-weights owns nodes (omega arith))

-- a leaf weighs what it weighs itself
weight_over-leaf : (own : ℕ) (kind : Kind) (behind : List ℕ) → IsLeafKind kind
    → weight_over own kind behind ≡ own
weight_over-leaf own Open behind leaf = refl
weight_over-leaf own (Lent number) behind leaf = refl
weight_over-leaf own (Refuted reason fresh) behind leaf = refl
weight_over-leaf own (Split test fresh half) behind leaf = absurd leaf

pub leaf_within : (kind : Kind) (size : ℕ) → IsLeafKind kind → AreHalvesWithin kind size
leaf_within Open size leaf = tt
leaf_within (Lent number) size leaf = tt
leaf_within (Refuted reason fresh) size leaf = tt
leaf_within (Split test fresh half) size leaf = absurd leaf

-- a leaf in place of a leaf changes no weight
weights-set_leaf : (owns : List ℕ) (nodes : List Node) (at : ℕ) (written default : Node)
    → at < length nodes → IsLeafKind (get_or nodes at default).kind → IsLeafKind written.kind
    → weights owns (set nodes at written) ≡ weights owns nodes
weights-set_leaf [] nodes at written default within leaf new = refl
weights-set_leaf (own ∷ owns) [] at written default within leaf new = absurd (omega arith)
weights-set_leaf (own ∷ owns) (node ∷ nodes) zero written default within leaf new =
    ap (λ w. w ∷ weights owns nodes) (weight_over-leaf own written.kind (weights owns nodes) new
    ∙ sym (weight_over-leaf own node.kind (weights owns nodes) leaf))
weights-set_leaf (own ∷ owns) (node ∷ nodes) (suc at) written default within leaf new =
    ap (λ ws. weight_over own node.kind ws ∷ ws)
    (weights-set_leaf owns nodes at written default (omega arith) leaf new)

-- so each node still stands in the tree once
pub whole-set_leaf : (nodes : List Node) (at : ℕ) (written default : Node) → IsWhole nodes
    → at < length nodes → IsLeafKind (get_or nodes at default).kind → IsLeafKind written.kind
    → IsWhole (set nodes at written)
whole-set_leaf nodes at written default whole within leaf new = λ owns long.
    ap (λ ws. get_or ws 0 0) (weights-set_leaf owns nodes at written default within leaf new)
    ∙ whole owns (long ∙ length-set nodes at written)

pub within-set_leaf : (nodes : List Node) (at : ℕ) (written : Node) → AllWithin nodes
    → IsLeafKind written.kind → AllWithin (set nodes at written)
within-set_leaf [] at written within new = tt
within-set_leaf (node ∷ nodes) zero written within new =
    (leaf_within written.kind (length nodes) new, within.1)
within-set_leaf (node ∷ nodes) (suc at) written within new = (
  subst (λ (n : ℕ). AreHalvesWithin node.kind n) (sym (length-set nodes at written)) within.0,
  within-set_leaf nodes at written within.1 new,
)

-- weights further after change nothing for a node whose halves stand before them
weight_over-within : (own : ℕ) (kind : Kind) (ws more : List ℕ) → AreHalvesWithin kind (length ws)
    → weight_over own kind (ws ++ more) ≡ weight_over own kind ws
weight_over-within own Open ws more within = refl
weight_over-within own (Lent number) ws more within = refl
weight_over-within own (Refuted reason fresh) ws more within = refl
weight_over-within own (Split test fresh half) ws more within =
    ap (λ w. own + w + get_or (ws ++ more) (suc half) 0)
    (get_or_append_left ws more 0 half (omega arith))
    ∙ ap (λ w. own + get_or ws half 0 + w) (get_or_append_left ws more 0 (suc half) within)

-- two leaves more at the end weigh what they weigh, and change nothing before them
weights-longer : (owns : List ℕ) (nodes : List Node) (first second : Node) (a b : ℕ)
    → length owns ≡ length nodes → AllWithin nodes → IsLeafKind first.kind
    → IsLeafKind second.kind
    → weights (owns ++ a ∷ b ∷ []) (nodes ++ first ∷ second ∷ []) ≡ weights owns nodes ++ a ∷ b ∷ []
weights-longer [] [] first second a b long within one two =
    ap (λ w. w ∷ weight_over b second.kind [] ∷ [])
    (weight_over-leaf a first.kind (weight_over b second.kind [] ∷ []) one)
    ∙ ap (λ w. a ∷ w ∷ []) (weight_over-leaf b second.kind [] two)
weights-longer [] (node ∷ nodes) first second a b long within one two = absurd (omega arith)
weights-longer (own ∷ owns) [] first second a b long within one two = absurd (omega arith)
weights-longer (own ∷ owns) (node ∷ nodes) first second a b long within one two =
    let same : length owns ≡ length nodes = omega arith in
    let count = length-weights owns nodes same in
    ap (λ ws. weight_over own node.kind ws ∷ ws)
    (weights-longer owns nodes first second a b same within.1 one two)
    ∙ ap (λ w. w ∷ (weights owns nodes ++ a ∷ b ∷ []))
    (weight_over-within own node.kind (weights owns nodes) (a ∷ b ∷ [])
    (subst (λ (n : ℕ). AreHalvesWithin node.kind n) (sym count) within.0))

-- a split over two new leaves at the end weighs what the leaf weighed, and the two
weights-split : (owns : List ℕ) (nodes : List Node) (at : ℕ) (written default first second : Node)
    (test : Test) (fresh : Bool) (half a b : ℕ) → at < length nodes → length owns ≡ length nodes
    → AllWithin nodes → IsLeafKind (get_or nodes at default).kind
    → written.kind ≡ Split test fresh half → half + suc at ≡ length nodes
    → IsLeafKind first.kind → IsLeafKind second.kind
    → weights (owns ++ a ∷ b ∷ []) (set nodes at written ++ first ∷ second ∷ [])
    ≡ weights (set owns at (get_or owns at 0 + a + b)) nodes ++ a ∷ b ∷ []
weights-split owns [] at written default first second test fresh half a b within long all leaf is
    far one two = absurd (omega arith)
weights-split [] (node ∷ nodes) at written default first second test fresh half a b within long all
    leaf is far one two = absurd (omega arith)
weights-split (own ∷ owns) (node ∷ nodes) zero written default first second test fresh half a b
    within long all leaf is far one two =
    let same : length owns ≡ length nodes = omega arith in
    let count = length-weights owns nodes same in
    let ends = at_end (weights owns nodes) a b 0 half (omega arith) in
    ap (λ ws. weight_over own written.kind ws ∷ ws)
    (weights-longer owns nodes first second a b same all.1 one two)
    ∙ ap (λ kind. weight_over own kind (weights owns nodes ++ a ∷ b ∷ [])
    ∷ (weights owns nodes ++ a ∷ b ∷ [])) is
    ∙ ap (λ w. (own + w + get_or (weights owns nodes ++ a ∷ b ∷ []) (suc half) 0)
    ∷ (weights owns nodes ++ a ∷ b ∷ [])) ends.0
    ∙ ap (λ w. (own + a + w) ∷ (weights owns nodes ++ a ∷ b ∷ [])) ends.1
    ∙ ap (λ w. w ∷ (weights owns nodes ++ a ∷ b ∷ []))
    (sym (weight_over-leaf (own + a + b) node.kind (weights owns nodes) leaf))
weights-split (own ∷ owns) (node ∷ nodes) (suc at) written default first second test fresh half a b
    within long all leaf is far one two =
    let same : length owns ≡ length nodes = omega arith in
    let more = set owns at (get_or owns at 0 + a + b) in
    let count = length-weights more nodes (length-set owns at (get_or owns at 0 + a + b) ∙ same) in
    ap (λ ws. weight_over own node.kind ws ∷ ws)
    (weights-split owns nodes at written default first second test fresh half a b (omega arith)
    same all.1 leaf is (omega arith) one two)
    ∙ ap (λ w. w ∷ (weights more nodes ++ a ∷ b ∷ []))
    (weight_over-within own node.kind (weights more nodes) (a ∷ b ∷ [])
    (subst (λ (n : ℕ). AreHalvesWithin node.kind n) (sym count) all.0))

-- a list that is longer by two ends with two
record EndsWithTwo (list : List ℕ) (size : ℕ) : Type 0 where
  front : List ℕ
  a : ℕ
  b : ℕ
  is : list ≡ front ++ a ∷ b ∷ []
  long : length front ≡ size

ends_with_two : (list : List ℕ) (size : ℕ) → length list ≡ suc (suc size) → EndsWithTwo list size
ends_with_two [] size long = absurd (omega arith)
ends_with_two (x ∷ []) size long = absurd (omega arith)
ends_with_two (x ∷ y ∷ []) zero long =
    record { front = []; a = x; b = y; is = refl; long = refl }
ends_with_two (x ∷ y ∷ []) (suc size) long = absurd (omega arith)
ends_with_two (x ∷ y ∷ z ∷ list) zero long = absurd (omega arith)
ends_with_two (x ∷ y ∷ z ∷ list) (suc size) long =
    let rest = ends_with_two (y ∷ z ∷ list) size (omega arith) in
    record {
      front = x ∷ rest.front;
      a = rest.a;
      b = rest.b;
      is = ap (λ l. x ∷ l) rest.is;
      long = ap suc rest.long;
    }

-- so each node still stands in the tree once after a split
pub whole_split : (nodes : List Node) (at : ℕ) (written default first second : Node) (test : Test)
    (fresh : Bool) (half : ℕ) → IsWhole nodes → AllWithin nodes → at < length nodes
    → IsLeafKind (get_or nodes at default).kind → written.kind ≡ Split test fresh half
    → half + suc at ≡ length nodes → IsLeafKind first.kind → IsLeafKind second.kind
    → IsWhole (set nodes at written ++ first ∷ second ∷ [])
whole_split nodes at written default first second test fresh half whole all within leaf is far one
    two = λ owns long. by_end owns (ends_with_two owns (length nodes)
    (long ∙ length-append (set nodes at written) (first ∷ second ∷ [])
    ∙ ap (λ n. n + 2) (length-set nodes at written) ∙ omega arith))
  where
    by_end : (owns : List ℕ) → EndsWithTwo owns (length nodes)
        → get_or (weights owns (set nodes at written ++ first ∷ second ∷ [])) 0 0 ≡ total owns
    by_end owns end =
        let a = end.a in
        let b = end.b in
        let front = end.front in
        let more = set front at (get_or front at 0 + a + b) in
        let same = end.long in
        let long : length more ≡ length nodes =
        length-set front at (get_or front at 0 + a + b) ∙ end.long in
        let count = length-weights more nodes long in
        let sum = total-set front at (get_or front at 0 + a + b) (omega arith) in
        let ended = total-append front (a ∷ b ∷ []) in
        ap (λ list. get_or (weights list (set nodes at written ++ first ∷ second ∷ [])) 0 0) end.is
        ∙ ap (λ ws. get_or ws 0 0)
        (weights-split front nodes at written default first second test fresh half a b within
        end.long all leaf is far one two)
        ∙ get_or_append_left (weights more nodes) (a ∷ b ∷ []) 0 0 (omega arith)
        ∙ whole more long
        ∙ omega arith
        ∙ sym ended
        ∙ ap total (sym end.is)

-- the halves of all splits stand within the list after a split
within_longer : (nodes : List Node) (first second : Node) → AllWithin nodes
    → IsLeafKind first.kind → IsLeafKind second.kind
    → AllWithin (nodes ++ first ∷ second ∷ [])
within_longer [] first second within one two =
    (leaf_within first.kind 1 one, (leaf_within second.kind 0 two, tt))
within_longer (node ∷ nodes) first second within one two = (
  further node.kind (length nodes) (length (nodes ++ first ∷ second ∷ []))
      (let long = length-append nodes (first ∷ second ∷ []) in omega arith) within.0,
  within_longer nodes first second within.1 one two,
)
  where
    further : (kind : Kind) (size more : ℕ) → size ≤ more → AreHalvesWithin kind size
        → AreHalvesWithin kind more
    further Open size more le is = tt
    further (Lent number) size more le is = tt
    further (Refuted reason fresh) size more le is = tt
    further (Split test fresh half) size more le is = omega arith

pub within_split : (nodes : List Node) (at : ℕ) (written first second : Node) (test : Test)
    (fresh : Bool) (half : ℕ) → AllWithin nodes → at < length nodes
    → written.kind ≡ Split test fresh half → half + suc at ≡ length nodes
    → IsLeafKind first.kind → IsLeafKind second.kind
    → AllWithin (set nodes at written ++ first ∷ second ∷ [])
within_split [] at written first second test fresh half all within is far one two =
    absurd (omega arith)
within_split (node ∷ nodes) zero written first second test fresh half all within is far one two = (
  subst (λ (kind : Kind). AreHalvesWithin kind (length (nodes ++ first ∷ second ∷ []))) (sym is)
      (let long = length-append nodes (first ∷ second ∷ []) in omega arith),
  within_longer nodes first second all.1 one two,
)
within_split (node ∷ nodes) (suc at) written first second test fresh half all within is far one
    two = (
      further node.kind (length nodes) (length (set nodes at written ++ first ∷ second ∷ []))
          (let long = length-append (set nodes at written) (first ∷ second ∷ []) in
          let same = length-set nodes at written in omega arith) all.0,
      within_split nodes at written first second test fresh half all.1 (omega arith) is (omega
          arith)
          one two,
    )
  where
    further : (kind : Kind) (size more : ℕ) → size ≤ more → AreHalvesWithin kind size
        → AreHalvesWithin kind more
    further Open size more le in_range = tt
    further (Lent number) size more le in_range = tt
    further (Refuted reason fresh) size more le in_range = tt
    further (Split asked mark place) size more le in_range = omega arith

-- a count of trees that adds up over splits
pub IsCount : (Tree → ℕ) → (Kind → ℕ) → Type 0
IsCount count mark =
    (kind : Kind) (trees : List Tree) → AreHalvesWithin kind (length trees)
    → count (shape_over kind trees) ≡ weight_over (mark kind) kind (map count trees)

get_or-counted : (count : Tree → ℕ) (trees : List Tree) (at : ℕ) → at < length trees
    → get_or (map count trees) at 0 ≡ count (get_or trees at open_leaf)
get_or-counted count [] at within = absurd (omega arith)
get_or-counted count (tree ∷ trees) zero within = refl
get_or-counted count (tree ∷ trees) (suc at) within = get_or-counted count trees at (omega arith)

-- counted of all trees it is the weights of the marks
counted : (count : Tree → ℕ) (mark : Kind → ℕ) → IsCount count mark → (nodes : List Node)
    → AllWithin nodes → map count (shapes nodes) ≡ weights (marks mark nodes) nodes
unfolding IsCount
counted count mark is [] within = refl
counted count mark is (node ∷ nodes) within =
    ap (λ n. n ∷ map count (shapes nodes)) (is node.kind (shapes nodes)
    (subst (λ (n : ℕ). AreHalvesWithin node.kind n) (sym (length-shapes nodes)) within.0))
    ∙ ap (λ ns. weight_over (mark node.kind) node.kind ns ∷ ns)
    (counted count mark is nodes within.1)

-- counted of the whole tree it is the sum of the marks
pub counted_whole : (count : Tree → ℕ) (mark : Kind → ℕ) → IsCount count mark
    → (nodes : List Node) → 0 < length nodes → IsWhole nodes → AllWithin nodes
    → count (tree_below nodes 0) ≡ total (marks mark nodes)
counted_whole count mark is nodes some whole within =
    sym (get_or-counted count (shapes nodes) 0 (let long = length-shapes nodes in omega arith))
    ∙ ap (λ ns. get_or ns 0 0) (counted count mark is nodes within)
    ∙ whole (marks mark nodes) (length-map nodes (λ (node : Node). mark node.kind))

pub counts_nodes : IsCount node_count node_mark
unfolding IsCount
counts_nodes Open trees within = refl
counts_nodes (Lent number) trees within = refl
counts_nodes (Refuted reason fresh) trees within = refl
counts_nodes (Split test fresh half) trees within =
    let first = get_or-counted node_count trees half (omega arith) in
    let second = get_or-counted node_count trees (suc half) within in
    omega arith

pub counts_lent : IsCount lent_count lent_mark
unfolding IsCount
counts_lent Open trees within = refl
counts_lent (Lent number) trees within = refl
counts_lent (Refuted reason fresh) trees within = refl
counts_lent (Split test fresh half) trees within =
    let first = get_or-counted lent_count trees half (omega arith) in
    let second = get_or-counted lent_count trees (suc half) within in
    omega arith

pub counts_number : (number : ℕ) → IsCount (times_lent number) (number_mark number)
unfolding IsCount
counts_number number Open trees within = refl
counts_number number (Lent other) trees within = refl
counts_number number (Refuted reason fresh) trees within = refl
counts_number number (Split test fresh half) trees within =
    let first = get_or-counted (times_lent number) trees half (omega arith) in
    let second = get_or-counted (times_lent number) trees (suc half) within in
    omega arith

pub has_open-count : (tree : Tree) → has_open tree ≡ nat_lt 0 (open_count tree)
has_open-count open_leaf = refl
has_open-count (lent_leaf number) = refl
has_open-count (refuted_leaf reason fresh) = refl
has_open-count (branch test fresh yes_half no_half) =
    ap (λ b. b || has_open no_half) (has_open-count yes_half)
    ∙ ap (λ b. nat_lt 0 (open_count yes_half) || b) (has_open-count no_half)
    ∙ sym (some_of_sum (open_count yes_half) (open_count no_half))

pub counts_open : IsCount open_count open_mark
unfolding IsCount
counts_open Open trees within = refl
counts_open (Lent number) trees within = refl
counts_open (Refuted reason fresh) trees within = refl
counts_open (Split test fresh half) trees within =
    let first = get_or-counted open_count trees half (omega arith) in
    let second = get_or-counted open_count trees (suc half) within in
    omega arith

pub total-node_mark : (nodes : List Node) → total (marks node_mark nodes) ≡ length nodes
total-node_mark [] = refl
total-node_mark (node ∷ nodes) = let rest = total-node_mark nodes in omega arith
