-- The trees of an arena that is being made from a list: places that still wait stand for the trees
-- that come there.
use Rattle.std.proofs.Common.{◌≡◌, ℕ, zero, suc, ◌+◌, ◌<◌, Bool, List, [], ◌∷◌, ◌++◌, length}
use Rattle.std.proofs.Common.{get_or, set, Option, Some, None, refl, sym, ap, ◌∙◌, subst, arith}
use Rattle.std.proofs.lemmas.List.{get_or_append_left}
use Rattle.std.proofs.lemmas.Option.{none-some, same_Some}
use Rattle.league_core.specs.declared.zone.Test.{Test}
use Rattle.league_core.specs.search.Trees.{Tree, open_leaf, branch}
use Rattle.tree_arena.specs.declared.node.Kind.{Kind}
use Rattle.tree_arena.specs.declared.node.Kind.TheVariants.{Open, Lent, Refuted, Split}
use Rattle.tree_arena.specs.declared.node.Node.{Node}
use Rattle.tree_arena.specs.inside.Arena.{shape_over, shapes, AllWithin, AreHalvesWithin}
use Rattle.tree_arena.specs.inside.Arena.{IsLeafKind, filled}
use Rattle.league_core.proofs.plain.Slots.{at_end}

-- no node is given a tree
abbrev pub NoneGiven : List (Option Tree) → Type 0
NoneGiven given = (at : ℕ) → get_or given at None ≡ None

pub filled-none : (given : List (Option Tree)) (nodes : List Node) → NoneGiven given
    → filled given nodes ≡ shapes nodes
filled-none given [] none = refl
filled-none [] (node ∷ nodes) none =
    ap (λ trees. shape_over node.kind trees ∷ trees) (filled-none [] nodes (λ at. refl))
filled-none (None ∷ given) (node ∷ nodes) none =
    ap (λ trees. shape_over node.kind trees ∷ trees)
    (filled-none given nodes (λ at. none (suc at)))
filled-none (Some tree ∷ given) (node ∷ nodes) none = absurd (none-some tree (sym (none 0)))

pub length-filled : (given : List (Option Tree)) (nodes : List Node)
    → length (filled given nodes) ≡ length nodes
length-filled given [] = refl
length-filled [] (node ∷ nodes) = ap suc (length-filled [] nodes)
length-filled (None ∷ given) (node ∷ nodes) = ap suc (length-filled given nodes)
length-filled (Some tree ∷ given) (node ∷ nodes) = ap suc (length-filled given nodes)

leaf_shape : (kind : Kind) (trees others : List Tree) → IsLeafKind kind
    → shape_over kind trees ≡ shape_over kind others
leaf_shape Open trees others leaf = refl
leaf_shape (Lent number) trees others leaf = refl
leaf_shape (Refuted reason fresh) trees others leaf = refl
leaf_shape (Split test fresh half) trees others leaf = absurd leaf

-- a leaf that is written where its tree was given
pub filled-set_leaf : (given : List (Option Tree)) (nodes : List Node) (at : ℕ) (written : Node)
    (tree : Tree) → at < length nodes → get_or given at None ≡ Some tree
    → IsLeafKind written.kind → shape_over written.kind [] ≡ tree
    → filled (set given at None) (set nodes at written) ≡ filled given nodes
filled-set_leaf given [] at written tree within is leaf shape = absurd (omega arith)
filled-set_leaf [] (node ∷ nodes) at written tree within is leaf shape =
    absurd (none-some tree is)
filled-set_leaf (None ∷ given) (node ∷ nodes) zero written tree within is leaf shape =
    absurd (none-some tree is)
filled-set_leaf (Some other ∷ given) (node ∷ nodes) zero written tree within is leaf shape =
    ap (λ t. t ∷ filled given nodes)
    (leaf_shape written.kind (filled given nodes) [] leaf ∙ shape ∙ sym (same_Some other tree is))
filled-set_leaf (None ∷ given) (node ∷ nodes) (suc at) written tree within is leaf shape =
    ap (λ trees. shape_over node.kind trees ∷ trees)
    (filled-set_leaf given nodes at written tree (omega arith) is leaf shape)
filled-set_leaf (Some other ∷ given) (node ∷ nodes) (suc at) written tree within is leaf shape =
    ap (λ trees. other ∷ trees)
    (filled-set_leaf given nodes at written tree (omega arith) is leaf shape)

-- trees further after change nothing for a node whose halves stand before them
shape_over-within : (kind : Kind) (trees more : List Tree) → AreHalvesWithin kind (length trees)
    → shape_over kind (trees ++ more) ≡ shape_over kind trees
shape_over-within Open trees more within = refl
shape_over-within (Lent number) trees more within = refl
shape_over-within (Refuted reason fresh) trees more within = refl
shape_over-within (Split test fresh half) trees more within =
    ap (λ t. branch test fresh t (get_or (trees ++ more) (suc half) open_leaf))
    (get_or_append_left trees more open_leaf half (omega arith))
    ∙ ap (λ t. branch test fresh (get_or trees half open_leaf) t)
    (get_or_append_left trees more open_leaf (suc half) within)

-- two nodes more at the end, whose trees are given
filled-longer : (given : List (Option Tree)) (nodes : List Node) (first second : Node) (a b : Tree)
    → length given ≡ length nodes → AllWithin nodes
    → filled (given ++ Some a ∷ Some b ∷ []) (nodes ++ first ∷ second ∷ [])
    ≡ filled given nodes ++ a ∷ b ∷ []
filled-longer [] [] first second a b long within = refl
filled-longer [] (node ∷ nodes) first second a b long within = absurd (omega arith)
filled-longer (one ∷ given) [] first second a b long within = absurd (omega arith)
filled-longer (None ∷ given) (node ∷ nodes) first second a b long within =
    let count = length-filled given nodes in
    ap (λ trees. shape_over node.kind trees ∷ trees)
    (filled-longer given nodes first second a b (omega arith) within.1)
    ∙ ap (λ t. t ∷ (filled given nodes ++ a ∷ b ∷ []))
    (shape_over-within node.kind (filled given nodes) (a ∷ b ∷ [])
    (subst (λ (n : ℕ). AreHalvesWithin node.kind n) (sym count) within.0))
filled-longer (Some tree ∷ given) (node ∷ nodes) first second a b long within =
    ap (λ trees. tree ∷ trees)
    (filled-longer given nodes first second a b (omega arith) within.1)

-- a split that is written where its tree was given, over two nodes with the trees of its halves
pub filled_split : (given : List (Option Tree)) (nodes : List Node) (at : ℕ)
    (written first second : Node) (test : Test) (fresh : Bool) (half : ℕ) (a b : Tree)
    → at < length nodes → length given ≡ length nodes → AllWithin nodes
    → get_or given at None ≡ Some (branch test fresh a b) → written.kind ≡ Split test fresh half
    → half + suc at ≡ length nodes
    → filled (set given at None ++ Some a ∷ Some b ∷ [])
    (set nodes at written ++ first ∷ second ∷ []) ≡ filled given nodes ++ a ∷ b ∷ []
filled_split given [] at written first second test fresh half a b within long all is kind far =
    absurd (omega arith)
filled_split [] (node ∷ nodes) at written first second test fresh half a b within long all is kind
    far = absurd (omega arith)
filled_split (None ∷ given) (node ∷ nodes) zero written first second test fresh half a b within long
    all is kind far = absurd (none-some (branch test fresh a b) is)
filled_split (Some other ∷ given) (node ∷ nodes) zero written first second test fresh half a b
    within long all is kind far =
    let count = length-filled given nodes in
    let ends = at_end (filled given nodes) a b open_leaf half (omega arith) in
    ap (λ trees. shape_over written.kind trees ∷ trees)
    (filled-longer given nodes first second a b (omega arith) all.1)
    ∙ ap (λ k. shape_over k (filled given nodes ++ a ∷ b ∷ [])
    ∷ (filled given nodes ++ a ∷ b ∷ [])) kind
    ∙ ap (λ t. branch test fresh t
    (get_or (filled given nodes ++ a ∷ b ∷ []) (suc half) open_leaf)
    ∷ (filled given nodes ++ a ∷ b ∷ [])) ends.0
    ∙ ap (λ t. branch test fresh a t ∷ (filled given nodes ++ a ∷ b ∷ [])) ends.1
    ∙ ap (λ t. t ∷ (filled given nodes ++ a ∷ b ∷ [])) (sym (same_Some other _ is))
filled_split (None ∷ given) (node ∷ nodes) (suc at) written first second test fresh half a b within
    long all is kind far =
    let count = length-filled given nodes in
    ap (λ trees. shape_over node.kind trees ∷ trees)
    (filled_split given nodes at written first second test fresh half a b (omega arith) (omega
    arith)
    all.1 is kind (omega arith))
    ∙ ap (λ t. t ∷ (filled given nodes ++ a ∷ b ∷ []))
    (shape_over-within node.kind (filled given nodes) (a ∷ b ∷ [])
    (subst (λ (n : ℕ). AreHalvesWithin node.kind n) (sym count) all.0))
filled_split (Some other ∷ given) (node ∷ nodes) (suc at) written first second test fresh half a b
    within long all is kind far =
    ap (λ trees. other ∷ trees)
    (filled_split given nodes at written first second test fresh half a b (omega arith) (omega
    arith)
    all.1 is kind (omega arith))
