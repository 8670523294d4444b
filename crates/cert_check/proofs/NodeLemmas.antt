-- Trees line by line: a node with what is due after it is a tree, and the first line of a tree
-- leaves due what its other lines are.
use Rattle.std.proofs.Common.{◌≡◌, ℕ, Bool, true, false, ◌&&◌, List, [], ◌∷◌, ◌++◌, Option, Some}
use Rattle.std.proofs.Common.{None, refl, sym, ap, ◌∙◌, subst, append_assoc, arith}
use Rattle.std.specs.Prelude.{IsTrue}
use Rattle.std.specs.Bool.{OnTrue}
use Rattle.std.proofs.Math.Bool.{or-true, or-false}
use Rattle.std.proofs.lemmas.Bool.{OnTrue_at, OnTrue_from, and_parts, and_from}
use Rattle.std.proofs.lemmas.List.{map-append}
use Rattle.league_core.specs.declared.question.Question.{Question}
use Rattle.league_core.specs.declared.zone.Literal.{Literal}
use Rattle.league_core.specs.search.Zones.{with_test}
use Rattle.cert_text.specs.declared.proof_line.ProofLine.{ProofLine}
use Rattle.cert_text.specs.declared.proof_line.ProofLine.TheVariants as line
use Rattle.wide_lines.specs.declared.wide_reason.WideReason.TheVariants as why
use Rattle.wide_lines.specs.declared.wide_line.WideLine.{WideLine}
use Rattle.wide_lines.specs.declared.wide_line.WideLine.TheVariants as wide
use Rattle.wide_lines.specs.declared.wide_node.WideNode.{WideNode}
use Rattle.wide_lines.specs.declared.wide_node.WideNode.TheVariants as node
use Rattle.wide_lines.specs.WideReasons.{has_wide_reason}
use Rattle.wide_lines.specs.WideTrees.{WideTree, open_leaf, refuted_leaf, branch, wide_preorder}
use Rattle.wide_lines.specs.WideTrees.{has_wide_open}
use Rattle.line_tokens.specs.declared.token.Token.{Token}
use Rattle.line_tokens.specs.declared.token.Token.TheVariants.{Blank, Row, Proof, Near, Unknown}
use Rattle.line_tokens.specs.declared.tree_line.TreeKind.{TreeKind}
use Rattle.line_tokens.specs.declared.tree_line.TreeKind.TheVariants.{Refutation, Spent}
use Rattle.cert_check.specs.declared.expected.Tally.{Tally}
use Rattle.cert_check.specs.LineGrammars.{go}
use Rattle.cert_check.specs.ExpectedItems.{Basis, Expected, nodes, with_fresh}
use Rattle.line_tokens.specs.TreeNodes.{wide_node_in}
use Rattle.line_tokens.specs.Tokens.{counts, token_of_wide}
use Rattle.cert_check.specs.ExpectedItems.{with_open, is_tally_whole, after_leaf, after_node}
use Rattle.cert_check.specs.ExpectedItems.{after, after_node_if, may_refute}
use Rattle.cert_text.specs.TreeLines.{is_test_for}
use Rattle.cert_check.specs.inside.Grammar.{report_parts}
use Rattle.cert_check.specs.inside.Grammar.{NodeFits, TreesFit, line_of_node, lines_of_tree}
use Rattle.cert_check.specs.inside.Grammar.{lines_of_trees, with_tree, tally_after, AreTrees}
use Rattle.cert_check.specs.inside.Grammar.{AreParts}
use Rattle.cert_check.proofs.NextLemmas.{go-same, bad-go, go-if, if-go, only_part, as_only_part}
use Rattle.cert_check.proofs.NextLemmas.{Parted}
use Rattle.league_core.proofs.plain.Options.{OnTrue-weaker}
use Rattle.league_core.proofs.plain.TruthValues.{or_assoc}

-- tallies with the same parts are the same
same_tally : (tally other : Tally) → tally.news ≡ other.news → tally.some_open ≡ other.some_open
    → tally ≡ other
same_tally tally other news some_open = λ i. record { news = news i; some_open = some_open i }

-- the tally after a branch is that after its halves
with_tree-branch : (tally : Tally) (fresh : Bool) (yes_half no_half : WideTree) (test : _)
    → with_tree (with_tree (with_fresh fresh tally) yes_half) no_half
    ≡ with_tree tally (branch test fresh yes_half no_half)
with_tree-branch tally true yes_half no_half test =
    same_tally _ _ (omega arith)
    (or_assoc tally.some_open (has_wide_open yes_half) (has_wide_open no_half))
with_tree-branch tally false yes_half no_half test =
    same_tally _ _ (omega arith)
    (or_assoc tally.some_open (has_wide_open yes_half) (has_wide_open no_half))

-- that after a refuted leaf counts it if it is new
with_tree-refuted : (tally : Tally) (fresh : Bool) (reason : _)
    → with_tree tally (refuted_leaf reason fresh) ≡ with_fresh fresh tally
with_tree-refuted tally true reason =
    same_tally _ _ refl (or-false tally.some_open)
with_tree-refuted tally false reason =
    same_tally _ _ (omega arith) (or-false tally.some_open)

-- that after an open leaf has one
with_tree-open : (tally : Tally) → with_tree tally open_leaf ≡ with_open tally
with_tree-open tally = same_tally _ _ (omega arith) (or-true tally.some_open)

-- ---- a line with what is due after it

-- a test's line before the lines of its halves
branch_lines : (kind : TreeKind) (test : _) (fresh : Bool) (yes_half no_half : WideTree)
    (trees : List WideTree)
    → lines_of_trees kind (branch test fresh yes_half no_half ∷ trees)
    ≡ token_of_wide (line_of_node kind (node.Split test fresh))
    ∷ lines_of_trees kind (yes_half ∷ no_half ∷ trees)
branch_lines kind test fresh yes_half no_half trees =
    let shown = λ (it : WideNode). token_of_wide (line_of_node kind it) in
    ap (λ it. (token_of_wide (line_of_node kind (node.Split test fresh)) ∷ it) ++ lines_of_trees
    kind trees)
    (map-append shown (wide_preorder yes_half) (wide_preorder no_half))
    ∙ ap (λ it. token_of_wide (line_of_node kind (node.Split test fresh)) ∷ it)
    (append_assoc (lines_of_tree kind yes_half) (lines_of_tree kind no_half)
    (lines_of_trees kind trees))

-- a split whose halves follow, and what else was due
join_split : (proved : Bool) (basis : Basis) (kind : TreeKind) (question : Question)
    (zone : List Literal) (zones : List (List Literal)) (tally : Tally) (test : _) (fresh : Bool)
    (holds : Bool) (more : List Expected) (tokens : List Token)
    → after_node basis kind question zone zones tally (node.Split test fresh) ≡ go holds more
    → AreParts proved basis more tokens
    → AreTrees proved basis kind question (zone ∷ zones) tally
    (token_of_wide (line_of_node kind (node.Split test fresh)) ∷ tokens)
join_split proved basis kind question zone zones tally test fresh holds more tokens goes parts =
    let fits = go-if (is_test_for basis.sheet question test) _ holds more goes in
    let dues = (go-same true holds _ more fits.1).1 in
    let P : List Expected → Type 0 = λ it. AreParts proved basis it tokens in
    let halves = only_part report_parts proved basis
    (nodes kind question (with_test zone test true) (with_test zone test false ∷ zones)
    (with_fresh fresh tally)) tokens (subst P (sym dues) parts) in
    joined halves.0 fits.0 halves.1 halves.2 halves.3
  where
    joined : (trees : List WideTree) → is_test_for basis.sheet question test ≡ true
        → TreesFit proved basis kind question
        (with_test zone test true ∷ with_test zone test false ∷ zones) trees
        → OnTrue proved (IsTrue (is_tally_whole basis.sheet.budget kind
        (tally_after (with_fresh fresh tally) trees)))
        → tokens ≡ lines_of_trees kind trees
        → AreTrees proved basis kind question (zone ∷ zones) tally
        (token_of_wide (line_of_node kind (node.Split test fresh)) ∷ tokens)
    joined [] fits trees_fit whole lines = absurd trees_fit
    joined (yes_half ∷ []) fits trees_fit whole lines = absurd trees_fit.1
    joined (yes_half ∷ no_half ∷ trees) fits trees_fit whole lines =
        let T : Tally → Type 0 = λ it. OnTrue proved
        (IsTrue (is_tally_whole basis.sheet.budget kind (tally_after it trees))) in (
          branch test fresh yes_half no_half ∷ trees,
          ((fits, trees_fit.0, trees_fit.1.0), trees_fit.1.1),
          subst T (with_tree-branch tally fresh yes_half no_half test) whole,
          ap (λ it. token_of_wide (line_of_node kind (node.Split test fresh)) ∷ it) lines
              ∙ sym (branch_lines kind test fresh yes_half no_half trees),
        )

-- a leaf, and what else was due
join_leaf : (proved : Bool) (basis : Basis) (kind : TreeKind) (question : Question)
    (zone : List Literal) (zones : List (List Literal)) (tally behind : Tally) (leaf : WideTree)
    (shown : Token) (says holds : Bool) (more : List Expected) (tokens : List Token)
    → ((proved ≡ true → says ≡ true)
    → TreesFit proved basis kind question (zone ∷ []) (leaf ∷ []))
    → with_tree tally leaf ≡ behind → lines_of_tree kind leaf ≡ shown ∷ []
    → after_leaf basis kind question zones behind says ≡ go holds more
    → (proved ≡ true → holds ≡ true) → AreParts proved basis more tokens
    → AreTrees proved basis kind question (zone ∷ zones) tally (shown ∷ tokens)
join_leaf proved basis kind question zone [] tally behind leaf shown says holds more tokens fits
    counted lines goes so parts =
    let same = go-same (says && is_tally_whole basis.sheet.budget kind behind) holds [] more goes in
    let P : List Expected → Type 0 = λ it. AreParts proved basis it tokens in
    let ends : tokens ≡ [] = subst P (sym same.1) parts in
    let both : proved ≡ true → (says ≡ true)
    × (is_tally_whole basis.sheet.budget kind behind ≡ true) =
    λ it. and_parts says (is_tally_whole basis.sheet.budget kind behind) (same.0 ∙ so it) in (
      leaf ∷ [],
      fits (λ it. (both it).0),
      OnTrue_from proved _
          (λ it. ap (is_tally_whole basis.sheet.budget kind) counted ∙ (both it).1),
      ap (λ it. shown ∷ it) ends ∙ ap (λ it. it ++ []) (sym lines),
    )
join_leaf proved basis kind question zone (next ∷ zones) tally behind leaf shown says holds more
    tokens fits counted lines goes so parts =
    let same = go-same says holds (nodes kind question next zones behind ∷ []) more goes in
    let P : List Expected → Type 0 = λ it. AreParts proved basis it tokens in
    let rest = only_part report_parts proved basis (nodes kind question next zones behind) tokens
    (subst P (sym same.1) parts) in
    let T : Tally → Type 0 = λ it. OnTrue proved
    (IsTrue (is_tally_whole basis.sheet.budget kind (tally_after it rest.0))) in (
      leaf ∷ rest.0,
      ((fits (λ it. same.0 ∙ so it)).0, rest.1),
      subst T (sym counted) rest.2,
      ap (λ it. shown ∷ it) rest.3
          ∙ ap (λ it. it ++ lines_of_trees kind rest.0) (sym lines),
    )

-- the node that a proof line stands for in a tree is written as this line
proof_line : (kind : TreeKind) (shown : ProofLine) (it : WideNode)
    → wide_node_in kind (Proof shown) ≡ Some it
    → Proof shown ≡ token_of_wide (line_of_node kind it)
proof_line Refutation (line.Split test) it is = cc
proof_line Refutation (line.Leaf reason) it is = cc
proof_line Refutation _ it is = absurd cc
proof_line Spent (line.Split test) it is = cc
proof_line Spent (line.NewSplit test) it is = cc
proof_line Spent (line.Leaf reason) it is = cc
proof_line Spent (line.NewLeaf reason) it is = cc
proof_line Spent line.OpenLeaf it is = cc
proof_line Spent _ it is = absurd cc

-- so is that of a near leaf
near_line : (kind : TreeKind) (rival : ℕ) (fresh : Bool) (it : WideNode)
    → wide_node_in kind (Near rival fresh) ≡ Some it
    → Near rival fresh ≡ token_of_wide (line_of_node kind it)
near_line Refutation rival true it is = absurd cc
near_line Refutation rival false it is = cc
near_line Spent rival true it is = cc
near_line Spent rival false it is = cc

-- and that of any line
node_line : (kind : TreeKind) (shown : Token) (it : WideNode) → wide_node_in kind shown ≡ Some it
    → shown ≡ token_of_wide (line_of_node kind it)
node_line kind Blank it is = absurd cc
node_line kind (Row fields) it is = absurd cc
node_line kind (Proof shown) it is = proof_line kind shown it is
node_line kind (Near rival fresh) it is = near_line kind rival fresh it is
node_line kind Unknown it is = absurd cc

-- no line of a refutation stands for an open leaf
none_open : (shown : Token) → wide_node_in Refutation shown ≡ Some node.Open → ⊥
none_open Blank is = cc
none_open (Row fields) is = cc
none_open (Proof (line.Split test)) is = cc
none_open (Proof (line.Leaf reason)) is = cc
none_open (Proof _) is = cc
none_open (Near rival true) is = cc
none_open (Near rival false) is = cc
none_open Unknown is = cc

-- an open leaf stands in a spent tree
open_fits : (proved : Bool) (basis : Basis) (kind : TreeKind) (question : Question)
    (zone : List Literal) (shown : Token) → wide_node_in kind shown ≡ Some node.Open
    → NodeFits proved basis kind question zone node.Open
open_fits proved basis Refutation question zone shown is = none_open shown is
open_fits proved basis Spent question zone shown is = tt

-- a line of a tree, with what is due after it, is the tree
pub join_nodes : (proved : Bool) (basis : Basis) (kind : TreeKind) (question : Question)
    (zone : List Literal) (zones : List (List Literal)) (tally : Tally) (shown : Token)
    (holds : Bool) (more : List Expected) (tokens : List Token)
    → after_node_if basis kind question zone zones tally (wide_node_in kind shown) ≡ go holds more
    → (proved ≡ true → holds ≡ true) → AreParts proved basis more tokens
    → AreTrees proved basis kind question (zone ∷ zones) tally (shown ∷ tokens)
join_nodes proved basis kind question zone zones tally shown holds more tokens goes so parts =
    by_node (wide_node_in kind shown) refl goes
  where
    written : (it : WideNode) → wide_node_in kind shown ≡ Some it
        → AreTrees proved basis kind question (zone ∷ zones) tally
        (token_of_wide (line_of_node kind it) ∷ tokens)
        → AreTrees proved basis kind question (zone ∷ zones) tally (shown ∷ tokens)
    written it is joined =
        let P : Token → Type 0 = λ first. AreTrees proved basis kind question
        (zone ∷ zones) tally (first ∷ tokens) in
        subst P (sym (node_line kind shown it is)) joined

    by_node : (found : Option WideNode) → wide_node_in kind shown ≡ found
        → after_node_if basis kind question zone zones tally found ≡ go holds more
        → AreTrees proved basis kind question (zone ∷ zones) tally (shown ∷ tokens)
    by_node None is goes = absurd (bad-go holds more goes)
    by_node (Some (node.Split test fresh)) is goes =
        written (node.Split test fresh) is
        (join_split proved basis kind question zone zones tally test fresh holds more tokens goes
        parts)
    by_node (Some (node.Refuted reason fresh)) is goes =
        let says = has_wide_reason basis.sheet basis.season question zone reason in
        let fits = go-if (may_refute basis.kind basis.sheet question reason) (after_leaf basis kind
        question zones (with_fresh fresh tally) says) holds more goes in
        written (node.Refuted reason fresh) is
        (join_leaf proved basis kind question zone zones tally (with_fresh fresh tally)
        (refuted_leaf reason fresh) (token_of_wide (line_of_node kind (node.Refuted reason fresh)))
        says holds more tokens (λ it. ((fits.0, OnTrue_from proved (IsTrue says) it), tt))
        (with_tree-refuted tally fresh reason) refl fits.1 so parts)
    by_node (Some node.Open) is goes =
        written node.Open is
        (join_leaf proved basis kind question zone zones tally (with_open tally) open_leaf
        (token_of_wide (line_of_node kind node.Open)) true holds more tokens
        (λ it. (open_fits proved basis kind question zone shown is, tt)) (with_tree-open tally) refl
        goes so parts)

-- ---- a tree's first line

-- in a refutation no node is marked new
kept : TreeKind → Bool → Bool
kept Refutation fresh = false
kept Spent fresh = fresh

-- the line of a split stands for it
line_split : (kind : TreeKind) (test : _) (fresh : Bool)
    → wide_node_in kind (token_of_wide (line_of_node kind (node.Split test fresh)))
    ≡ Some (node.Split test (kept kind fresh))
unfolding kept
line_split Refutation test fresh = refl
line_split Spent test true = refl
line_split Spent test false = refl

-- the line of a refuted leaf stands for it
line_refuted : (kind : TreeKind) (reason : _) (fresh : Bool)
    → wide_node_in kind (token_of_wide (line_of_node kind (node.Refuted reason fresh)))
    ≡ Some (node.Refuted reason (kept kind fresh))
unfolding kept
line_refuted Refutation (why.Plain reason) fresh = refl
line_refuted Refutation (why.Near rival) fresh = refl
line_refuted Spent (why.Plain reason) true = refl
line_refuted Spent (why.Plain reason) false = refl
line_refuted Spent (why.Near rival) true = refl
line_refuted Spent (why.Near rival) false = refl

-- a tree is as whole without the marks of a refutation
whole_kept : (budget : ℕ) (kind : TreeKind) (fresh : Bool) (tally : Tally) (trees : List WideTree)
    → is_tally_whole budget kind (tally_after (with_fresh fresh tally) trees) ≡ true
    → is_tally_whole budget kind (tally_after (with_fresh (kept kind fresh) tally) trees) ≡ true
unfolding kept
whole_kept budget Refutation fresh tally trees whole = refl
whole_kept budget Spent fresh tally trees whole = whole

-- what a leaf leaves due, and that it proves what it says
leaf_goes : (proved : Bool) (basis : Basis) (kind : TreeKind) (question : Question)
    (zones : List (List Literal)) (behind : Tally) (says : Bool) (trees : List WideTree)
    → (proved ≡ true → says ≡ true) → TreesFit proved basis kind question zones trees
    → OnTrue proved (IsTrue (is_tally_whole basis.sheet.budget kind (tally_after behind trees)))
    → (holds : Bool) × (more : List Expected)
    × (after_leaf basis kind question zones behind says ≡ go holds more)
    × (proved ≡ true → holds ≡ true) × AreParts proved basis more (lines_of_trees kind trees)
leaf_goes proved basis kind question [] behind says [] so fits whole = (
  says && is_tally_whole basis.sheet.budget kind behind,
  [],
  refl,
  λ it. and_from says (is_tally_whole basis.sheet.budget kind behind) (so it)
      (OnTrue_at {b = proved} it whole),
  refl,
)
leaf_goes proved basis kind question [] behind says (tree ∷ trees) so fits whole = absurd fits
leaf_goes proved basis kind question (zone ∷ zones) behind says trees so fits whole = (
  says,
  nodes kind question zone zones behind ∷ [],
  refl,
  so,
  as_only_part report_parts proved basis (nodes kind question zone zones behind)
      (lines_of_trees kind trees)
      (trees, fits, whole, refl),
)

-- the line of an open leaf stands for it
open_line : (proved : Bool) (basis : Basis) (kind : TreeKind) (question : Question)
    (zone : List Literal) → NodeFits proved basis kind question zone node.Open
    → wide_node_in kind (token_of_wide (line_of_node kind node.Open)) ≡ Some node.Open
open_line proved basis Refutation question zone fits = absurd fits
open_line proved basis Spent question zone fits = refl

-- a line of a tree is read as the node that it stands for
node_after : (basis : Basis) (kind : TreeKind) (question : Question) (zone : List Literal)
    (zones : List (List Literal)) (tally : Tally) (shown : WideLine)
    → after basis (nodes kind question zone zones tally) (token_of_wide shown)
    ≡ after_node_if basis kind question zone zones tally (wide_node_in kind (token_of_wide shown))
node_after basis kind question zone zones tally (wide.Plain shown) = refl
node_after basis kind question zone zones tally (wide.Near rival) = refl
node_after basis kind question zone zones tally (wide.NewNear rival) = refl

-- and counts
pub node_counts : (shown : WideLine) → counts (token_of_wide shown) ≡ true
node_counts (wide.Plain shown) = refl
node_counts (wide.Near rival) = refl
node_counts (wide.NewNear rival) = refl

-- the first line of trees leaves due what the other lines are
pub part_nodes : (proved : Bool) (basis : Basis) (kind : TreeKind) (question : Question)
    (zone : List Literal) (zones : List (List Literal)) (tally : Tally) (tokens : List Token)
    → AreTrees proved basis kind question (zone ∷ zones) tally tokens
    → Parted report_parts proved basis (after basis) (nodes kind question zone zones tally) tokens
part_nodes proved basis kind question zone zones tally tokens are =
    by_tree are.0 are.1 are.2 are.3
  where
    first_line : (it : WideNode) (holds : Bool) (more : List Expected) (rest : List Token)
        → tokens ≡ token_of_wide (line_of_node kind it) ∷ rest
        → after_node_if basis kind question zone zones tally
        (wide_node_in kind (token_of_wide (line_of_node kind it)))
        ≡ go holds more
        → (proved ≡ true → holds ≡ true) → AreParts proved basis more rest
        → Parted report_parts proved basis (after basis)
        (nodes kind question zone zones tally) tokens
    first_line it holds more rest lines goes so parts =
        let shown = line_of_node kind it in (
          token_of_wide shown,
          rest,
          holds,
          more,
          lines,
          node_after basis kind question zone zones tally shown ∙ goes,
          so,
          node_counts shown,
          parts,
        )

    by_tree : (trees : List WideTree) → TreesFit proved basis kind question (zone ∷ zones) trees
        → OnTrue proved (IsTrue (is_tally_whole basis.sheet.budget kind (tally_after tally trees)))
        → tokens ≡ lines_of_trees kind trees
        → Parted report_parts proved basis (after basis)
        (nodes kind question zone zones tally) tokens
    by_tree [] fits whole lines = absurd fits
    by_tree (branch test fresh yes_half no_half ∷ trees) fits whole lines =
        let behind = with_fresh (kept kind fresh) tally in
        let due = nodes kind question (with_test zone test true)
        (with_test zone test false ∷ zones) behind in
        let halves = yes_half ∷ no_half ∷ trees in
        let T : Tally → Type 0 = λ it. OnTrue proved
        (IsTrue (is_tally_whole basis.sheet.budget kind (tally_after it trees))) in
        let moved = subst T (sym (with_tree-branch tally fresh yes_half no_half test)) whole in
        first_line (node.Split test fresh) true (due ∷ []) (lines_of_trees kind halves)
        (lines ∙ branch_lines kind test fresh yes_half no_half trees)
        (ap (after_node_if basis kind question zone zones tally) (line_split kind test fresh)
        ∙ if-go (is_test_for basis.sheet question test) (go true (due ∷ [])) fits.0.0) (λ _. refl)
        (as_only_part report_parts proved basis due (lines_of_trees kind halves) (
          halves,
          (fits.0.1, (fits.0.2, fits.1)),
          OnTrue-weaker proved
              (IsTrue (is_tally_whole basis.sheet.budget kind
              (tally_after (with_fresh fresh tally) halves)))
              (IsTrue (is_tally_whole basis.sheet.budget kind (tally_after behind halves)))
              (whole_kept basis.sheet.budget kind fresh tally halves) moved,
          refl,
        ))
    by_tree (refuted_leaf reason fresh ∷ trees) fits whole lines =
        let says = has_wide_reason basis.sheet basis.season question zone reason in
        let behind = with_fresh (kept kind fresh) tally in
        let T : Tally → Type 0 = λ it. OnTrue proved
        (IsTrue (is_tally_whole basis.sheet.budget kind (tally_after it trees))) in
        let moved = OnTrue-weaker proved
        (IsTrue (is_tally_whole basis.sheet.budget kind
        (tally_after (with_fresh fresh tally) trees)))
        (IsTrue (is_tally_whole basis.sheet.budget kind (tally_after behind trees)))
        (whole_kept basis.sheet.budget kind fresh tally trees)
        (subst T (with_tree-refuted tally fresh reason) whole) in
        let goes = leaf_goes proved basis kind question zones behind says trees
        (λ it. OnTrue_at {b = proved} it fits.0.1) fits.1 moved in
        first_line (node.Refuted reason fresh) goes.0 goes.1 (lines_of_trees kind trees) lines
        (ap (after_node_if basis kind question zone zones tally) (line_refuted kind reason fresh)
        ∙ if-go (may_refute basis.kind basis.sheet question reason)
        (after_leaf basis kind question zones behind says) fits.0.0 ∙ goes.2) goes.3 goes.4
    by_tree (open_leaf ∷ trees) fits whole lines =
        let T : Tally → Type 0 = λ it. OnTrue proved
        (IsTrue (is_tally_whole basis.sheet.budget kind (tally_after it trees))) in
        let goes = leaf_goes proved basis kind question zones (with_open tally) true trees
        (λ _. refl) fits.1 (subst T (with_tree-open tally) whole) in
        first_line node.Open goes.0 goes.1 (lines_of_trees kind trees) lines
        (ap (after_node_if basis kind question zone zones tally) (open_line proved basis kind
        question
        zone fits.0) ∙ goes.2)
        goes.3 goes.4
