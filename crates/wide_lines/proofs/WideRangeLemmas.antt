-- The lines of wide trees are in range: the reasons of their leaves are, and so are the rivals by
-- which near reasons hold.
use Rattle.std.proofs.Common.{◌≡◌, ℕ, Bool, true, false, not, ◌&&◌, List, [], ◌∷◌, ◌++◌, map, refl}
use Rattle.std.proofs.Common.{ap, ap₂, ◌∙◌}
use Rattle.std.specs.List.{list_all}
use Rattle.std.proofs.lemmas.Bool.{and_parts, and_from}
use Rattle.std.proofs.lemmas.List.Folds.{list_all-append}
use Rattle.league_core.specs.declared.sheet.Sheet.{Sheet}
use Rattle.league_core.specs.declared.question.Question.{Question}
use Rattle.league_core.specs.declared.zone.Test.{Test}
use Rattle.league_core.specs.declared.zone.Test.TheVariants.{Home, Draw, HomeMost, AwayMost, Rival}
use Rattle.league_core.specs.declared.zone.Literal.{Literal}
use Rattle.league_core.specs.game.Results.{Results}
use Rattle.league_core.specs.search.Zones.{with_test, is_test_of, is_of_rival}
use Rattle.league_core.specs.search.Trees as trees
use Rattle.cert_text.specs.declared.proof_line.ProofLine.TheVariants as line
use Rattle.cert_text.specs.Ranges.{is_in_range, is_test_in_range}
use Rattle.cert_text.specs.TreeLines.{is_test_for}
use Rattle.cert_text.proofs.TreeRangeLemmas.{is_rival_in_range, are_rivals_in_range}
use Rattle.cert_text.proofs.TreeRangeLemmas.{marked_lines_below}
use Rattle.wide_lines.specs.declared.wide_reason.WideReason.{WideReason}
use Rattle.wide_lines.specs.declared.wide_reason.WideReason.TheVariants as reason
use Rattle.wide_lines.specs.declared.wide_node.WideNode.{WideNode}
use Rattle.wide_lines.specs.declared.wide_node.WideNode.TheVariants.{Split, Open, Refuted}
use Rattle.wide_lines.specs.declared.wide_line.WideLine.{WideLine}
use Rattle.wide_lines.specs.WideReasons.{has_wide_reason}
use Rattle.wide_lines.specs.WideTrees.{WideTree, open_leaf, refuted_leaf, branch, wide_preorder}
use Rattle.wide_lines.specs.WideTrees.{AreWideReasonsTrue}
use Rattle.wide_lines.specs.WideTexts.{is_wide_in_range}
use Rattle.wide_lines.specs.WideTreeLines.{leaf_line, plain_wide_line, marked_wide_line}
use Rattle.wide_lines.specs.WideTreeLines.{are_wide_tests_for}
use Rattle.wide_lines.specs.WideTreeLines.{ShowsWideRefuted, ShowsWideSpent, IsWideRefutation}
use Rattle.wide_lines.specs.WideTreeLines.{IsWideSpentTree}
use Rattle.wide_lines.proofs.RivalLemmas.{near_rival_fits, tests_with}

-- a test of the question is in range
test_in_range : (sheet : Sheet) (question : Question) (test : Test)
    → is_test_for sheet question test ≡ true → is_test_in_range test ≡ true
test_in_range sheet question test fits =
    (and_parts (is_test_in_range test) (is_test_of sheet test)
    (and_parts (is_test_in_range test && is_test_of sheet test)
    (not (is_of_rival question.club test)) fits).0).0

rival_in_range : (test : Test) → is_test_in_range test ≡ true → is_rival_in_range test ≡ true
rival_in_range (Home fixture) known = refl
rival_in_range (Draw fixture) known = refl
rival_in_range (HomeMost fixture most) known = refl
rival_in_range (AwayMost fixture most) known = refl
rival_in_range (Rival club) known = known

-- so are the rivals of a zone with such tests
rivals_in_range : (sheet : Sheet) (question : Question) (zone : List Literal)
    → list_all (λ it. is_test_for sheet question it.test) zone ≡ true
    → are_rivals_in_range zone ≡ true
rivals_in_range sheet question [] tests = refl
rivals_in_range sheet question (literal ∷ zone) tests =
    let parts = and_parts (is_test_for sheet question literal.test)
    (list_all (λ it. is_test_for sheet question it.test) zone) tests in
    and_from (is_rival_in_range literal.test) (are_rivals_in_range zone)
    (rival_in_range literal.test (test_in_range sheet question literal.test parts.0))
    (rivals_in_range sheet question zone parts.1)

-- a wide reason that holds is in range
reason_in_range : (sheet : Sheet) (season : Results) (question : Question) (zone : List Literal)
    (why : WideReason) → list_all (λ it. is_test_for sheet question it.test) zone ≡ true
    → has_wide_reason sheet season question zone why ≡ true
    → is_wide_in_range (leaf_line why) ≡ true
reason_in_range sheet season question zone (reason.Plain why) tests holds =
    (and_parts (is_in_range (line.Leaf why)) true
    (marked_lines_below sheet season question (trees.refuted_leaf why false) zone
    (rivals_in_range sheet question zone tests) refl holds)).0
reason_in_range sheet season question zone (reason.Near rival) tests holds =
    test_in_range sheet question (Rival rival)
    (near_rival_fits sheet season question zone rival tests holds)

-- what a line says of its node is in range
abbrev is_node_in_range : WideNode → Bool
is_node_in_range (Split test fresh) = is_test_in_range test
is_node_in_range Open = true
is_node_in_range (Refuted why fresh) = is_wide_in_range (leaf_line why)

-- the nodes of a tree are
nodes_in_range : (sheet : Sheet) (season : Results) (question : Question) (tree : WideTree)
    (zone : List Literal) → list_all (λ it. is_test_for sheet question it.test) zone ≡ true
    → are_wide_tests_for sheet question tree ≡ true
    → AreWideReasonsTrue sheet season question zone tree
    → list_all is_node_in_range (wide_preorder tree) ≡ true
nodes_in_range sheet season question open_leaf zone within tests reasons = refl
nodes_in_range sheet season question (refuted_leaf why fresh) zone within tests reasons =
    and_from (is_wide_in_range (leaf_line why)) true
    (reason_in_range sheet season question zone why within reasons) refl
nodes_in_range sheet season question (branch test fresh yes_half no_half) zone within tests
    reasons =
    let parts = and_parts (is_test_for sheet question test && are_wide_tests_for sheet question
    yes_half)
    (are_wide_tests_for sheet question no_half) tests in
    let first = and_parts (is_test_for sheet question test) (are_wide_tests_for sheet question
    yes_half)
    parts.0 in
    and_from (is_test_in_range test)
    (list_all is_node_in_range (wide_preorder yes_half ++ wide_preorder no_half))
    (test_in_range sheet question test first.0)
    (list_all-append is_node_in_range (wide_preorder yes_half) (wide_preorder no_half)
    ∙ and_from (list_all is_node_in_range (wide_preorder yes_half))
    (list_all is_node_in_range (wide_preorder no_half))
    (nodes_in_range sheet season question yes_half (with_test zone test true)
    (tests_with sheet question zone test true within first.0) first.1 reasons.1)
    (nodes_in_range sheet season question no_half (with_test zone test false)
    (tests_with sheet question zone test false within first.0) parts.1 reasons.2))

lines_of_nodes : (line : WideNode → WideLine)
    → ((node : WideNode) → is_wide_in_range (line node) ≡ is_node_in_range node)
    → (nodes : List WideNode) → list_all is_wide_in_range (map line nodes)
    ≡ list_all is_node_in_range nodes
lines_of_nodes line same [] = refl
lines_of_nodes line same (node ∷ nodes) =
    ap₂ (λ (first rest : Bool). first && rest) (same node) (lines_of_nodes line same nodes)

plain_range : (node : WideNode) → is_wide_in_range (plain_wide_line node) ≡ is_node_in_range node
plain_range (Split test fresh) = refl
plain_range Open = refl
plain_range (Refuted why fresh) = refl

marked_range : (node : WideNode) → is_wide_in_range (marked_wide_line node) ≡ is_node_in_range node
marked_range (Split test true) = refl
marked_range (Split test false) = refl
marked_range Open = refl
marked_range (Refuted (reason.Plain why) true) = refl
marked_range (Refuted (reason.Near rival) true) = refl
marked_range (Refuted why false) = refl

-- the lines of a refutation
pub refutation_in_range : (sheet : Sheet) (season : Results) (question : Question)
    (lines : List WideLine) → ShowsWideRefuted sheet season question lines
    → list_all is_wide_in_range lines ≡ true
refutation_in_range sheet season question lines shown =
    let is : IsWideRefutation sheet season question shown.0 = shown.1 in
    ap (list_all is_wide_in_range) shown.2
    ∙ lines_of_nodes plain_wide_line plain_range (wide_preorder shown.0)
    ∙ nodes_in_range sheet season question shown.0 [] refl is.tests is.reasons

-- those of a tree on which a budget was spent
pub spent_in_range : (sheet : Sheet) (season : Results) (question : Question) (budget : ℕ)
    (lines : List WideLine) → ShowsWideSpent sheet season question budget lines
    → list_all is_wide_in_range lines ≡ true
spent_in_range sheet season question budget lines shown =
    let is : IsWideSpentTree sheet season question budget shown.0 = shown.1 in
    ap (list_all is_wide_in_range) shown.2
    ∙ lines_of_nodes marked_wide_line marked_range (wide_preorder shown.0)
    ∙ nodes_in_range sheet season question shown.0 [] refl is.tests is.reasons
