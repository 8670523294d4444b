-- Trees about a group line by line: a node with what is due after it is a tree, and the first line
-- of a tree leaves due what its other lines are.
use Rattle.std.proofs.Common.{◌≡◌, Bool, true, false, ◌&&◌, List, [], ◌∷◌, ◌++◌, Option, Some}
use Rattle.std.proofs.Common.{None, refl, sym, ap, ◌∙◌, subst, append_assoc}
use Rattle.std.specs.Prelude.{IsTrue}
use Rattle.std.specs.Bool.{OnTrue}
use Rattle.std.proofs.lemmas.Bool.{OnTrue_at, OnTrue_from, and_parts, and_from}
use Rattle.league_core.specs.declared.zone.Literal.{Literal}
use Rattle.league_core.specs.declared.zone.Test.{Test}
use Rattle.league_core.specs.search.Zones.{with_test}
use Rattle.line_tokens.specs.declared.tree_line.TreeKind.{TreeKind}
use Rattle.cert_check.specs.declared.expected.Tally.{Tally}
use Rattle.cert_check.specs.ExpectedItems.{is_tally_whole, with_fresh, with_open}
use Rattle.cert_check.specs.LineGrammars.{go}
use Rattle.cert_check.proofs.NextLemmas.{go-same, bad-go, go-if, if-go, as_only_part}
use Rattle.cert_check.proofs.NextLemmas.{Parted}
use Rattle.cup_sheet.specs.declared.question.GroupReason.{GroupReason}
use Rattle.cup_sheet.specs.CupLimits.{direct_places}
use Rattle.cup_sheet.specs.GroupQuestions.{GroupQuestion, has_group_reason}
use Rattle.cup_sheet.specs.GroupTrees.{GroupTree, open_zone, refuted_zone}
use Rattle.cup_sheet.specs.GroupTrees.{split_zone}
use Rattle.cup_text.specs.declared.cup_line.CupLine.{CupLine}
use Rattle.cup_grammar.specs.declared.token.CupToken.{CupToken}
use Rattle.cup_grammar.specs.declared.token.CupToken.TheVariants.{Proof}
use Rattle.cup_grammar.specs.PlacedGroups.{CupBasis, PlacedGroup, OwnNode, split_node}
use Rattle.cup_grammar.specs.PlacedGroups.{refuted_node, open_node, is_group_test}
use Rattle.cup_grammar.specs.PlacedGroups.{is_reason_of_kind, own_node}
use Rattle.cup_grammar.specs.CupDues.{CupDue, nodes, after_group_leaf, after_group_node}
use Rattle.cup_grammar.specs.CupDues.{after_group_node_if}
use Rattle.cup_grammar.specs.CupExpected.{after_in_cup}
use Rattle.cup_stops.specs.inside.GroupTreeCases.{AllNodesFit, AreGroupTrees, AreNodeLines}
use Rattle.cup_stops.specs.inside.GroupTreeCases.{NodesFitBelow, nodes_in_order, nodes_of_trees}
use Rattle.cup_stops.specs.inside.GroupTreeCases.{tally_past, tally_past_all}
use Rattle.cup_stops.specs.inside.CupCases.{cup_cases}
use Rattle.cup_stops.proofs.DueCaseLemmas.{AreCasesOf, left_case, left_cases}
use Rattle.cup_stops.proofs.DueCaseLemmas.{nodes_of_trees-split, tally_past-open}
use Rattle.cup_stops.proofs.DueCaseLemmas.{tally_past-refuted, tally_past-split}

module _ (proved : Bool) (basis : CupBasis) (kind : TreeKind) (group : PlacedGroup)
    (question : GroupQuestion) where
  -- a reason holds in a zone
  abbrev says_in : List Literal → GroupReason → Bool
  says_in zone reason =
      has_group_reason direct_places group.sheet group.season question zone reason

  -- proved, the tally past these trees is that of a whole tree
  abbrev EndsWhole : Tally → List GroupTree → Type 0
  EndsWhole tally trees =
      OnTrue proved
      (IsTrue (is_tally_whole group.sheet.budget kind (tally_past_all tally trees)))

  abbrev AreTrees : List (List Literal) → Tally → List CupToken → Type 0
  AreTrees zones tally tokens = AreGroupTrees proved kind group question zones tally tokens

  -- ---- a line with what is due after it

  -- a split whose halves follow, and what else was due
  join_split : (zone : List Literal) (zones : List (List Literal)) (tally : Tally) (it : CupLine)
      (test : Test) (fresh holds : Bool) (more : List CupDue) (tokens : List CupToken)
      → own_node kind group it ≡ Some (split_node test fresh)
      → after_group_node kind group question zone zones tally (split_node test fresh)
      ≡ go holds more
      → AreCasesOf proved basis more tokens → AreTrees (zone ∷ zones) tally (Proof it ∷ tokens)
  join_split zone zones tally it test fresh holds more tokens own goes parts =
      let due = nodes kind group question (with_test zone test true)
      (with_test zone test false ∷ zones) (with_fresh fresh tally) in
      let fits = go-if (is_group_test group question test) (go true (due ∷ [])) holds more goes in
      let halves = left_case proved basis true holds due more tokens fits.1 parts in
      joined halves.0 fits.0 halves.1 halves.2 halves.3
    where
      joined : (trees : List GroupTree) → is_group_test group question test ≡ true
          → AllNodesFit proved group question
          (with_test zone test true ∷ with_test zone test false ∷ zones) trees
          → EndsWhole (with_fresh fresh tally) trees
          → AreNodeLines kind group (nodes_of_trees trees) tokens
          → AreTrees (zone ∷ zones) tally (Proof it ∷ tokens)
      joined [] fits below whole lines = absurd below
      joined (yes_half ∷ []) fits below whole lines = absurd below.1
      joined (yes_half ∷ no_half ∷ trees) fits below whole lines =
          let T : Tally → Type 0 = λ other. EndsWhole other trees in
          let L : List OwnNode → Type 0 =
          λ other. AreNodeLines kind group other (Proof it ∷ tokens) in (
            split_zone test fresh yes_half no_half ∷ trees,
            ((fits, below.0, below.1.0), below.1.1),
            subst T (tally_past-split tally test fresh yes_half no_half) whole,
            subst L (sym (nodes_of_trees-split test fresh yes_half no_half trees))
                (it, tokens, own, lines, refl),
          )

  -- a leaf, and what else was due
  join_leaf : (zone : List Literal) (zones : List (List Literal)) (tally behind : Tally)
      (leaf : GroupTree) (it : CupLine) (says holds : Bool) (more : List CupDue)
      (tokens : List CupToken)
      → ((proved ≡ true → says ≡ true) → NodesFitBelow proved group question zone leaf)
      → tally_past tally leaf ≡ behind
      → ((later : List OwnNode) → AreNodeLines kind group later tokens
      → AreNodeLines kind group (nodes_in_order leaf ++ later) (Proof it ∷ tokens))
      → after_group_leaf kind group question zones behind says ≡ go holds more
      → (proved ≡ true → holds ≡ true) → AreCasesOf proved basis more tokens
      → AreTrees (zone ∷ zones) tally (Proof it ∷ tokens)
  join_leaf zone [] tally behind leaf it says holds more tokens fits counted line goes so parts =
      let budget = group.sheet.budget in
      let same = go-same (says && is_tally_whole budget kind behind) holds [] more goes in
      let ends : tokens ≡ [] =
      left_cases proved basis (says && is_tally_whole budget kind behind) holds [] more tokens goes
      parts in
      let both : proved ≡ true → (says ≡ true) × (is_tally_whole budget kind behind ≡ true) =
      λ is. and_parts says (is_tally_whole budget kind behind) (same.0 ∙ so is) in (
        leaf ∷ [],
        (fits (λ is. (both is).0), tt),
        OnTrue_from proved _
            (λ is. ap (is_tally_whole budget kind) counted ∙ (both is).1),
        line [] ends,
      )
  join_leaf zone (next ∷ zones) tally behind leaf it says holds more tokens fits counted line goes
      so parts =
      let due = nodes kind group question next zones behind in
      let same = go-same says holds (due ∷ []) more goes in
      let rest = left_case proved basis says holds due more tokens goes parts in
      let T : Tally → Type 0 = λ other. EndsWhole other rest.0 in (
        leaf ∷ rest.0,
        (fits (λ is. same.0 ∙ so is), rest.1),
        subst T (sym counted) rest.2,
        line (nodes_of_trees rest.0) rest.3,
      )

  -- a line of a tree, with what is due after it, is the tree
  pub join_tree_line : (zone : List Literal) (zones : List (List Literal)) (tally : Tally)
      (it : CupLine) (holds : Bool) (more : List CupDue) (tokens : List CupToken)
      → after_group_node_if kind group question zone zones tally (own_node kind group it)
      ≡ go holds more
      → (proved ≡ true → holds ≡ true) → AreCasesOf proved basis more tokens
      → AreTrees (zone ∷ zones) tally (Proof it ∷ tokens)
  join_tree_line zone zones tally it holds more tokens goes so parts =
      by_node (own_node kind group it) refl goes
    where
      by_node : (found : Option OwnNode) → own_node kind group it ≡ found
          → after_group_node_if kind group question zone zones tally found ≡ go holds more
          → AreTrees (zone ∷ zones) tally (Proof it ∷ tokens)
      by_node None is goes = absurd (bad-go holds more goes)
      by_node (Some (split_node test fresh)) is goes =
          join_split zone zones tally it test fresh holds more tokens is goes parts
      by_node (Some (refuted_node reason fresh)) is goes =
          let says = says_in zone reason in
          let behind = with_fresh fresh tally in
          let fits = go-if (is_reason_of_kind group question reason)
          (after_group_leaf kind group question zones behind says) holds more goes in
          join_leaf zone zones tally behind (refuted_zone reason fresh) it says holds more tokens
          (λ shown. (fits.0, OnTrue_from proved (IsTrue says) shown))
          (tally_past-refuted tally reason fresh)
          (λ later lines. (it, tokens, is, lines, refl)) fits.1 so parts
      by_node (Some open_node) is goes =
          join_leaf zone zones tally (with_open tally) open_zone it true holds more tokens
          (λ shown. tt) (tally_past-open tally) (λ later lines. (it, tokens, is, lines, refl)) goes
          so parts

  -- ---- a tree's first line

  -- what a leaf leaves due, and that it proves what it says
  leaf_leaves : (zones : List (List Literal)) (behind : Tally) (says : Bool)
      (trees : List GroupTree) (tokens : List CupToken) → (proved ≡ true → says ≡ true)
      → AllNodesFit proved group question zones trees → EndsWhole behind trees
      → AreNodeLines kind group (nodes_of_trees trees) tokens
      → (holds : Bool) × (more : List CupDue)
      × (after_group_leaf kind group question zones behind says ≡ go holds more)
      × (proved ≡ true → holds ≡ true) × AreCasesOf proved basis more tokens
  leaf_leaves [] behind says [] tokens so fits whole lines = (
    says && is_tally_whole group.sheet.budget kind behind,
    [],
    refl,
    λ is. and_from says (is_tally_whole group.sheet.budget kind behind) (so is)
        (OnTrue_at {b = proved} is whole),
    lines,
  )
  leaf_leaves [] behind says (tree ∷ trees) tokens so fits whole lines = absurd fits
  leaf_leaves (zone ∷ zones) behind says trees tokens so fits whole lines = (
    says,
    nodes kind group question zone zones behind ∷ [],
    refl,
    so,
    as_only_part cup_cases proved basis (nodes kind group question zone zones behind) tokens
        (trees, fits, whole, lines),
  )

  -- the first line of trees leaves due what the other lines are
  pub part_tree_line : (zone : List Literal) (zones : List (List Literal)) (tally : Tally)
      (tokens : List CupToken) → AreTrees (zone ∷ zones) tally tokens
      → Parted cup_cases proved basis (after_in_cup basis)
      (nodes kind group question zone zones tally) tokens
  part_tree_line zone zones tally tokens are = by_tree are.0 are.1 are.2 are.3
    where
      -- the line of a node
      first_line : (node : OwnNode) (it : CupLine) (holds : Bool) (more : List CupDue)
          (rest : List CupToken) → own_node kind group it ≡ Some node → tokens ≡ Proof it ∷ rest
          → after_group_node kind group question zone zones tally node ≡ go holds more
          → (proved ≡ true → holds ≡ true) → AreCasesOf proved basis more rest
          → Parted cup_cases proved basis (after_in_cup basis)
          (nodes kind group question zone zones tally) tokens
      first_line node it holds more rest own lines goes so parts = (
        Proof it,
        rest,
        holds,
        more,
        lines,
        ap (after_group_node_if kind group question zone zones tally) own ∙ goes,
        so,
        refl,
        parts,
      )

      by_tree : (trees : List GroupTree)
          → AllNodesFit proved group question (zone ∷ zones) trees → EndsWhole tally trees
          → AreNodeLines kind group (nodes_of_trees trees) tokens
          → Parted cup_cases proved basis (after_in_cup basis)
          (nodes kind group question zone zones tally) tokens
      by_tree [] fits whole lines = absurd fits
      by_tree (split_zone test fresh yes_half no_half ∷ trees) fits whole lines =
          let behind = with_fresh fresh tally in
          let due = nodes kind group question (with_test zone test true)
          (with_test zone test false ∷ zones) behind in
          let T : Tally → Type 0 = λ other. EndsWhole other trees in
          let L : List OwnNode → Type 0 = λ other. AreNodeLines kind group other lines.1 in
          let below = append_assoc (nodes_in_order yes_half) (nodes_in_order no_half)
          (nodes_of_trees trees) in
          first_line (split_node test fresh) lines.0 true (due ∷ []) lines.1 lines.2 lines.4
          (if-go (is_group_test group question test) (go true (due ∷ [])) fits.0.0) (λ _. refl)
          (as_only_part cup_cases proved basis due lines.1 (
            yes_half ∷ no_half ∷ trees,
            (fits.0.1, (fits.0.2, fits.1)),
            subst T (sym (tally_past-split tally test fresh yes_half no_half)) whole,
            subst L below lines.3,
          ))
      by_tree (refuted_zone reason fresh ∷ trees) fits whole lines =
          let says = says_in zone reason in
          let behind = with_fresh fresh tally in
          let T : Tally → Type 0 = λ other. EndsWhole other trees in
          let goes = leaf_leaves zones behind says trees lines.1
          (λ is. OnTrue_at {b = proved} is fits.0.1) fits.1
          (subst T (tally_past-refuted tally reason fresh) whole) lines.3 in
          first_line (refuted_node reason fresh) lines.0 goes.0 goes.1 lines.1 lines.2 lines.4
          (if-go (is_reason_of_kind group question reason)
          (after_group_leaf kind group question zones behind says) fits.0.0 ∙ goes.2) goes.3 goes.4
      by_tree (open_zone ∷ trees) fits whole lines =
          let T : Tally → Type 0 = λ other. EndsWhole other trees in
          let goes = leaf_leaves zones (with_open tally) true trees lines.1 (λ _. refl) fits.1
          (subst T (tally_past-open tally) whole) lines.3 in
          first_line open_node lines.0 goes.0 goes.1 lines.1 lines.2 lines.4 goes.2 goes.3 goes.4
