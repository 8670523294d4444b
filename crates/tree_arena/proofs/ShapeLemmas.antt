-- The trees below the nodes of an arena: what a write of a leaf and new nodes at the end do to
-- them.
use Rattle.std.proofs.Common.{◌≡◌, ℕ, zero, suc, ◌<◌, ◌≤◌, Bool, true, false, ◌==◌, cond, List}
use Rattle.std.proofs.Common.{[], ◌∷◌, ◌++◌, length, map, get_or, set, drop, refl, sym, ap, ◌∙◌}
use Rattle.std.proofs.Common.{arith}
use Rattle.std.proofs.lemmas.Bool.{eq-eqb}
use Rattle.league_core.specs.declared.zone.Test.{Test}
use Rattle.league_core.specs.search.Trees.{Tree, open_leaf, lent_leaf, branch}
use Rattle.league_core.specs.inside.Lending.{put, all_opened}
use Rattle.tree_arena.specs.declared.node.Kind.{Kind}
use Rattle.tree_arena.specs.declared.node.Kind.TheVariants.{Open, Lent, Refuted, Split}
use Rattle.tree_arena.specs.declared.node.Node.{Node}
use Rattle.tree_arena.specs.inside.Arena.{shape_over, shapes, tree_below, total, marks, number_mark}
use Rattle.tree_arena.specs.inside.Arena.{lent_mark}

pub length-shapes : (nodes : List Node) → length (shapes nodes) ≡ length nodes
length-shapes [] = refl
length-shapes (node ∷ nodes) = ap suc (length-shapes nodes)

-- the tree of a node by the trees after it
pub shapes-at : (nodes : List Node) (at : ℕ) (default : Node) → at < length nodes
    → tree_below nodes at ≡ shape_over (get_or nodes at default).kind (drop (suc at) (shapes nodes))
shapes-at [] at default within = absurd (omega arith)
shapes-at (node ∷ nodes) zero default within = refl
shapes-at (node ∷ nodes) (suc at) default within = shapes-at nodes at default (omega arith)

-- a function of trees that leaves an open leaf and goes into the halves of a branch
pub get_or-mapped : (change : Tree → Tree) → change open_leaf ≡ open_leaf → (trees : List Tree) (at
    : ℕ)
    → get_or (map change trees) at open_leaf ≡ change (get_or trees at open_leaf)
get_or-mapped change leaf [] at = sym leaf
get_or-mapped change leaf (tree ∷ trees) zero = refl
get_or-mapped change leaf (tree ∷ trees) (suc at) = get_or-mapped change leaf trees at

-- such a function of the tree of a split is one of its halves
split_mapped : (change : Tree → Tree) → change open_leaf ≡ open_leaf
    → (test : Test) (fresh : Bool) (half : ℕ) (trees : List Tree)
    → ((yes_half no_half : Tree) → change (branch test fresh yes_half no_half)
    ≡ branch test fresh (change yes_half) (change no_half))
    → change (shape_over (Split test fresh half) trees)
    ≡ shape_over (Split test fresh half) (map change trees)
split_mapped change leaf test fresh half trees into =
    into (get_or trees half open_leaf) (get_or trees (suc half) open_leaf)
    ∙ ap (λ tree. branch test fresh tree (change (get_or trees (suc half) open_leaf)))
    (sym (get_or-mapped change leaf trees half))
    ∙ ap (λ tree. branch test fresh (get_or (map change trees) half open_leaf) tree)
    (sym (get_or-mapped change leaf trees (suc half)))

-- if a node is not lent under the number, the tree that is put there comes in after it
put_over : (number : ℕ) (new : Tree) (kind : Kind) (trees : List Tree)
    → number_mark number kind ≡ 0
    → put number new (shape_over kind trees) ≡ shape_over kind (map (put number new) trees)
put_over number new Open trees none = refl
put_over number new (Lent other) trees none = at_leaf (other == number) none
  where
    at_leaf : (b : Bool) → cond {A = ℕ} b 1 0 ≡ 0 → cond b new (lent_leaf other) ≡ lent_leaf other
    at_leaf true one = absurd (omega arith)
    at_leaf false one = refl
put_over number new (Refuted reason fresh) trees none = refl
put_over number new (Split test fresh half) trees none =
    split_mapped (put number new) refl test fresh half trees (λ yes_half no_half. refl)

-- if no node is lent under the number, all trees stay
pub shapes-absent : (number : ℕ) (new : Tree) (nodes : List Node)
    → total (marks (number_mark number) nodes) ≡ 0
    → map (put number new) (shapes nodes) ≡ shapes nodes
shapes-absent number new [] none = refl
shapes-absent number new (node ∷ nodes) none =
    let rest = shapes-absent number new nodes (omega arith) in
    ap (λ tree. tree ∷ map (put number new) (shapes nodes))
    (put_over number new node.kind (shapes nodes) (omega arith))
    ∙ ap (λ trees. shape_over node.kind trees ∷ trees) rest

-- a node that is lent under the number counts
lent_counts : (number : ℕ) (nodes : List Node) (at : ℕ) (default : Node) → at < length nodes
    → (get_or nodes at default).kind ≡ Lent number
    → 1 ≤ total (marks (number_mark number) nodes)
lent_counts number [] at default within lent = absurd (omega arith)
lent_counts number (node ∷ nodes) zero default within lent =
    let marked : number_mark number node.kind ≡ 1 =
    ap (number_mark number) lent ∙ ap (λ b. cond b 1 0) (eq-eqb number number refl) in
    omega arith
lent_counts number (node ∷ nodes) (suc at) default within lent =
    let rest = lent_counts number nodes at default (omega arith) lent in omega arith

-- if one node alone is lent under the number, what is written there is put in place of it
pub shapes-set_lent : (number : ℕ) (new : Tree) (written : Node) (nodes : List Node) (at : ℕ)
    (default : Node) → at < length nodes → (get_or nodes at default).kind ≡ Lent number
    → total (marks (number_mark number) nodes) ≡ 1
    → shape_over written.kind (drop (suc at) (shapes nodes)) ≡ new
    → shapes (set nodes at written) ≡ map (put number new) (shapes nodes)
shapes-set_lent number new written [] at default within lent once is = absurd (omega arith)
shapes-set_lent number new written (node ∷ nodes) zero default within lent once is =
    let marked : number_mark number node.kind ≡ 1 =
    ap (number_mark number) lent ∙ same_number number in
    let rest = shapes-absent number new nodes (omega arith) in
    let put_here : put number new (shape_over node.kind (shapes nodes)) ≡ new =
    ap (λ kind. put number new (shape_over kind (shapes nodes))) lent ∙ put_same number new in
    ap (λ tree. tree ∷ shapes nodes) (is ∙ sym put_here)
    ∙ ap (λ trees. put number new (shape_over node.kind (shapes nodes)) ∷ trees) (sym rest)
  where
    same_number : (k : ℕ) → number_mark k (Lent k) ≡ 1
    same_number k = ap (λ b. cond b 1 0) (eq-eqb k k refl)

    put_same : (k : ℕ) (tree : Tree) → put k tree (lent_leaf k) ≡ tree
    put_same k tree = ap (λ b. cond b tree (lent_leaf k)) (eq-eqb k k refl)
shapes-set_lent number new written (node ∷ nodes) (suc at) default within lent once is =
    let some : 1 ≤ total (marks (number_mark number) nodes) =
    lent_counts number nodes at default (omega arith) lent in
    let none : number_mark number node.kind ≡ 0 = omega arith in
    let rest = shapes-set_lent number new written nodes at default (omega arith) lent (omega arith)
    is in
    ap (λ trees. shape_over node.kind trees ∷ trees) rest
    ∙ ap (λ tree. tree ∷ map (put number new) (shapes nodes))
    (sym (put_over number new node.kind (shapes nodes) none))

-- if a lent leaf is opened, the tree with all leaves open is the same
pub shapes-set_opened : (written : Node) (nodes : List Node) (at : ℕ) (default : Node)
    → at < length nodes → lent_mark (get_or nodes at default).kind ≡ 1 → written.kind ≡ Open
    → map all_opened (shapes (set nodes at written)) ≡ map all_opened (shapes nodes)
shapes-set_opened written [] at default within lent is = absurd (omega arith)
shapes-set_opened written (node ∷ nodes) zero default within lent is =
    ap (λ tree. tree ∷ map all_opened (shapes nodes))
    (ap (λ kind. all_opened (shape_over kind (shapes nodes))) is ∙ sym (opened node.kind lent))
  where
    opened : (kind : Kind) → lent_mark kind ≡ 1
        → all_opened (shape_over kind (shapes nodes)) ≡ open_leaf
    opened Open one = refl
    opened (Lent number) one = refl
    opened (Refuted reason fresh) one = absurd (omega arith)
    opened (Split test fresh half) one = absurd (omega arith)
shapes-set_opened written (node ∷ nodes) (suc at) default within lent is =
    let rest = shapes-set_opened written nodes at default (omega arith) lent is in
    ap (λ tree. tree ∷ map all_opened (shapes (set nodes at written)))
    (opened_over node.kind (shapes (set nodes at written)) (shapes nodes) rest)
    ∙ ap (λ trees. all_opened (shape_over node.kind (shapes nodes)) ∷ trees) rest
  where
    opened_over : (kind : Kind) (trees others : List Tree)
        → map all_opened trees ≡ map all_opened others
        → all_opened (shape_over kind trees) ≡ all_opened (shape_over kind others)
    opened_over Open trees others same = refl
    opened_over (Lent number) trees others same = refl
    opened_over (Refuted reason fresh) trees others same = refl
    opened_over (Split test fresh half) trees others same =
        split_mapped all_opened refl test fresh half trees (λ yes_half no_half. refl)
        ∙ ap (shape_over (Split test fresh half)) same
        ∙ sym (split_mapped all_opened refl test fresh half others (λ yes_half no_half. refl))

-- open nodes at the end change no tree
get_or-padded : (trees : List Tree) (at : ℕ)
    → get_or (trees ++ open_leaf ∷ open_leaf ∷ []) at open_leaf ≡ get_or trees at open_leaf
get_or-padded [] zero = refl
get_or-padded [] (suc zero) = refl
get_or-padded [] (suc (suc at)) = refl
get_or-padded (tree ∷ trees) zero = refl
get_or-padded (tree ∷ trees) (suc at) = get_or-padded trees at

pub shapes-longer : (nodes : List Node) (first second : Node) → first.kind ≡ Open
    → second.kind ≡ Open
    → shapes (nodes ++ first ∷ second ∷ []) ≡ shapes nodes ++ open_leaf ∷ open_leaf ∷ []
shapes-longer [] first second one two =
    ap (λ kind. shape_over kind (shape_over second.kind [] ∷ []) ∷ shape_over second.kind [] ∷ [])
    one
    ∙ ap (λ kind. open_leaf ∷ shape_over kind [] ∷ []) two
shapes-longer (node ∷ nodes) first second one two =
    ap (λ trees. shape_over node.kind trees ∷ trees) (shapes-longer nodes first second one two)
    ∙ ap (λ tree. tree ∷ (shapes nodes ++ open_leaf ∷ open_leaf ∷ []))
    (over node.kind (shapes nodes))
  where
    over : (kind : Kind) (trees : List Tree)
        → shape_over kind (trees ++ open_leaf ∷ open_leaf ∷ []) ≡ shape_over kind trees
    over Open trees = refl
    over (Lent number) trees = refl
    over (Refuted reason fresh) trees = refl
    over (Split test fresh half) trees =
        ap (λ tree. branch test fresh tree
        (get_or (trees ++ open_leaf ∷ open_leaf ∷ []) (suc half) open_leaf))
        (get_or-padded trees half)
        ∙ ap (λ tree. branch test fresh (get_or trees half open_leaf) tree)
        (get_or-padded trees (suc half))

-- what is at a node of all trees is a function of what was there
pub tree_below-mapped : (change : Tree → Tree) → change open_leaf ≡ open_leaf
    → (trees : List Tree) (nodes : List Node) → trees ≡ map change (shapes nodes)
    → get_or trees 0 open_leaf ≡ change (tree_below nodes 0)
tree_below-mapped change leaf trees nodes is =
    ap (λ list. get_or list 0 open_leaf) is ∙ get_or-mapped change leaf (shapes nodes) 0
