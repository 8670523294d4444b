-- The nodes so far are the prefix of a tree: with the nodes of any trees for the zones that are due
-- after them, they are the nodes of a whole tree.
use Rattle.std.proofs.Common.{◌≡◌, List, [], ◌∷◌, ◌++◌, length, replicate}
use Rattle.std.proofs.Common.{true, false, refl, sym, ap, ◌∙◌, subst, append_assoc, append-nil}
use Rattle.std.specs.List.{AllZip, flat_map, list_all}
use Rattle.std.proofs.Common.{◌&&◌}
use Rattle.std.proofs.lemmas.Bool.{and_from}
use Rattle.std.proofs.lemmas.List.Folds.{list_all-append}
use Rattle.std.proofs.lemmas.List.{reverse-append, reverse-reverse}
use Rattle.league_core.specs.declared.zone.Literal.{Literal}
use Rattle.league_core.specs.declared.zone.Test.{Test}
use Rattle.league_core.specs.search.Zones.{with_test}
use Rattle.league_core.specs.inside.Pending.{pending_of, to_come}
use Rattle.depth_search.specs.declared.kind.CaseNode.{CaseNode}
use Rattle.depth_search.specs.declared.kind.CaseNode.TheVariants as node
use Rattle.depth_search.specs.declared.kind.ZoneLook.{ZoneLook}
use Rattle.depth_search.specs.declared.kind.ZoneLook.TheVariants as look
use Rattle.depth_search.specs.inside.Cases.{AreOfTree, Cases, HoldsBelow, case_nodes, is_made}
use Rattle.depth_search.specs.inside.Cases.{left_open, refuted, split}
use Rattle.depth_search.specs.inside.Searches.{FitHalves, IsFoundBy}

module _ {R : Type 0} (refutes : List Literal → R → Type 0) (splits : List Literal → Test → Type 0)
  where
    -- trees for zones, one for each
    abbrev pub AreBelow : List (List Literal) → List (Cases R) → Type 0
    AreBelow zones trees = AllZip (HoldsBelow refutes splits) zones trees

    -- these nodes are the prefix of a tree of which these zones are due
    abbrev pub IsPrefixOfTree : List (CaseNode R) → List (List Literal) → Type 0
    IsPrefixOfTree nodes zones =
        (trees : List (Cases R)) → AreBelow zones trees
        → AreOfTree refutes splits (nodes ++ flat_map case_nodes trees)

    -- at the start the root is due
    pub prefix_start : IsPrefixOfTree [] ([] ∷ [])
    prefix_start [] below = absurd below
    prefix_start (tree ∷ []) below = (tree, below.0, sym (append-nil (case_nodes tree)))
    prefix_start (tree ∷ other ∷ trees) below = absurd below.1

    -- after a leaf that is refuted
    pub prefix_refuted : (nodes : List (CaseNode R)) (zone : List Literal) (zones : List (List
        Literal))
        (reason : R) → refutes zone reason → IsPrefixOfTree nodes (zone ∷ zones)
        → IsPrefixOfTree (nodes ++ node.Refuted reason ∷ []) zones
    prefix_refuted nodes zone zones reason holds prefix trees below =
        let whole = prefix (refuted reason ∷ trees) (holds, below) in (
          whole.0,
          whole.1,
          whole.2 ∙ sym (append_assoc nodes (node.Refuted reason ∷ []) (flat_map case_nodes trees)),
        )

    -- after a split the half where its test is true is due, then the other
    pub prefix_split : (nodes : List (CaseNode R)) (zone : List Literal) (zones : List (List
        Literal))
        (test : Test) → splits zone test → IsPrefixOfTree nodes (zone ∷ zones)
        → IsPrefixOfTree (nodes ++ node.Split test ∷ [])
        (with_test zone test true ∷ with_test zone test false ∷ zones)
    prefix_split nodes zone zones test holds prefix [] below = absurd below
    prefix_split nodes zone zones test holds prefix (first ∷ []) below = absurd below.1
    prefix_split nodes zone zones test holds prefix (first ∷ second ∷ trees) below =
        let whole = prefix (split test first second ∷ trees) (
          (holds, below.0, below.1.0),
          below.1.1,
        )
        in (
          whole.0,
          whole.1,
          whole.2
              ∙ ap (λ rest. nodes ++ node.Split test ∷ rest)
              (append_assoc (case_nodes first) (case_nodes second) (flat_map case_nodes trees))
              ∙ sym (append_assoc nodes (node.Split test ∷ [])
              (case_nodes first ++ (case_nodes second ++ flat_map case_nodes trees))),
        )

    -- where nothing is due it is whole
    pub prefix_whole : (nodes : List (CaseNode R)) → IsPrefixOfTree nodes [] → AreOfTree refutes
        splits nodes
    prefix_whole nodes prefix =
        let whole = prefix [] tt in (whole.0, whole.1, whole.2 ∙ append-nil nodes)

    -- open leaves are trees for any zones
    abbrev opens : List (List Literal) → List (Cases R)
    opens [] = []
    opens (zone ∷ zones) = left_open ∷ opens zones

    opens_below : (zones : List (List Literal)) → AreBelow zones (opens zones)
    opens_below [] = tt
    opens_below (zone ∷ zones) = (tt, opens_below zones)

    opens_nodes : (zones : List (List Literal))
        → flat_map case_nodes (opens zones) ≡ replicate (length zones) node.Open
    opens_nodes [] = refl
    opens_nodes (zone ∷ zones) = ap (λ rest. node.Open ∷ rest) (opens_nodes zones)

    -- with an open leaf for each zone that is due it is whole
    pub prefix_opened : (nodes : List (CaseNode R)) (zones : List (List Literal)) → IsPrefixOfTree
        nodes zones
        → AreOfTree refutes splits (nodes ++ replicate (length zones) node.Open)
    prefix_opened nodes zones prefix =
        let whole = prefix (opens zones) (opens_below zones) in (
          whole.0,
          whole.1,
          whole.2 ∙ ap (λ rest. nodes ++ rest) (opens_nodes zones),
        )

    -- after a leaf that is refuted, by what was pushed and what is due
    pub refuted_on : (nodes after : List (CaseNode R)) (zone : List Literal) (due left : List (List
        Literal))
        (reason : R) → IsPrefixOfTree nodes (zone ∷ due) → refutes zone reason
        → after ≡ nodes ++ node.Refuted reason ∷ [] → due ≡ left → IsPrefixOfTree after left
    refuted_on nodes after zone due left reason prefix holds is same =
        let P : List (List Literal) → Type 0 = λ it. IsPrefixOfTree after it in
        let Q : List (CaseNode R) → Type 0 = λ it. IsPrefixOfTree it due in
        subst P same (subst Q (sym is) (prefix_refuted nodes zone due reason holds prefix))

    -- after a split, by what was pushed and where the way goes
    pub split_on : (nodes after : List (CaseNode R)) (zone way : List Literal) (due : List (List
        Literal))
        (test : Test) → IsPrefixOfTree nodes (zone ∷ due) → splits zone test
        → after ≡ nodes ++ node.Split test ∷ [] → way ≡ with_test zone test true
        → IsPrefixOfTree after (way ∷ with_test zone test false ∷ due)
    split_on nodes after zone way due test prefix holds is goes =
        let P : List Literal → Type 0 = λ it. IsPrefixOfTree after (it ∷ with_test zone test false ∷
        due) in
        let Q : List (CaseNode R) → Type 0 =
        λ it. IsPrefixOfTree it (with_test zone test true ∷ with_test zone test false ∷ due) in
        subst P (sym goes) (subst Q (sym is) (prefix_split nodes zone due test holds prefix))

-- one more that was made
pub made_more : {R : Type 0} (nodes after : List (CaseNode R)) (it : CaseNode R)
    → list_all is_made nodes ≡ true → is_made it ≡ true → after ≡ nodes ++ it ∷ []
    → list_all is_made after ≡ true
made_more nodes after it made one is =
    ap (list_all is_made) is ∙ list_all-append is_made nodes (it ∷ [])
    ∙ and_from (list_all is_made nodes) (is_made it && true) made (and_from (is_made it) true one
    refl)

-- a yes at the end of a way leaves its no due
pub due_after : (zone : List Literal) (test : Test)
    → pending_of (with_test zone test true) ≡ with_test zone test false ∷ pending_of zone
due_after zone test =
    ap to_come (reverse-append zone (record { test = test; yes = true } ∷ []))
    ∙ ap (λ it. with_test it test false ∷ pending_of zone) (reverse-reverse zone)

-- what is found in a zone, by what it is and which zone it is
pub refuted_found : {E R : Type 0} (shows : E → Type 0) (refutes : List Literal → R → Type 0)
    (splits : List Literal → Test → Type 0) (zone path : List Literal) (found : ZoneLook E R)
    (reason : R)
    → IsFoundBy shows (refutes zone) (splits zone) found → found ≡ look.Refuted reason → zone ≡ path
    → refutes path reason
refuted_found shows refutes splits zone path found reason is same there =
    let P : ZoneLook _ _ → Type 0 = λ it. IsFoundBy shows (refutes zone) (splits zone) it in
    subst (λ it. refutes it reason) there (subst P same is)

pub split_found : {E R : Type 0} (shows : E → Type 0) (refutes : List Literal → R → Type 0)
    (splits : List Literal → Test → Type 0) (zone path : List Literal) (found : ZoneLook E R) (test
    : Test)
    → IsFoundBy shows (refutes zone) (splits zone) found → found ≡ look.Split test → zone ≡ path
    → splits path test
split_found shows refutes splits zone path found test is same there =
    let P : ZoneLook _ _ → Type 0 = λ it. IsFoundBy shows (refutes zone) (splits zone) it in
    subst (λ it. splits it test) there (subst P same is)

-- a kind that can look in each of these zones
abbrev pub AreFit : (List Literal → Type 0) → List (List Literal) → Type 0
AreFit fits [] = Unit {0}
AreFit fits (zone ∷ zones) = fits zone × AreFit fits zones

-- the halves of a split, by what was found and in which zone
pub halves_fit : {E R : Type 0} (fits : List Literal → Type 0) (zone path : List Literal)
    (found : ZoneLook E R) (test : Test) → FitHalves fits zone found → found ≡ look.Split test
    → zone ≡ path → fits (with_test path test true) × fits (with_test path test false)
halves_fit fits zone path found test fit same there =
    let P : ZoneLook _ _ → Type 0 = λ it. FitHalves fits zone it in
    subst (λ it. fits (with_test it test true) × fits (with_test it test false)) there
    (subst P same fit)
