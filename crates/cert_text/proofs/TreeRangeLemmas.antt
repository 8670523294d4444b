-- The lines of trees are in range: their tests are, and a set of marked clubs names clubs of a
-- league.
use Rattle.std.proofs.Common.{◌≡◌, ℕ, Bool, true, false, not, ◌&&◌, ◌||◌, List, [], ◌∷◌}
use Rattle.std.proofs.Common.{◌++◌, map, refl, ap, subst, ◌∙◌}
use Rattle.std.specs.Prelude.{int_lt}
use Rattle.std.specs.List.{list_all, list_any}
use Rattle.std.proofs.lemmas.Bool.{and_parts, and_from, eqb-true, false≢true}
use Rattle.std.proofs.lemmas.List.Folds.{list_all-append}
use Rattle.league_core.specs.declared.sheet.Sheet.{Sheet}
use Rattle.league_core.specs.declared.question.Question.{Question}
use Rattle.league_core.specs.declared.zone.Test.{Test}
use Rattle.league_core.specs.declared.zone.Test.TheVariants.{Home, Draw, HomeMost, AwayMost, Rival}
use Rattle.league_core.specs.declared.zone.Literal.{Literal}
use Rattle.league_core.specs.declared.zone.Reason.{Reason}
use Rattle.league_core.specs.declared.zone.Reason.TheVariants.{Count, Window, Low, High, Tie}
use Rattle.league_core.specs.declared.tree.TreeNode.{TreeNode}
use Rattle.league_core.specs.declared.tree.TreeNode.TheVariants.{Split, Open, Lent, Refuted}
use Rattle.league_core.specs.game.Results.{Results}
use Rattle.league_core.specs.game.ClubSets.{clubs_in}
use Rattle.league_core.specs.search.Zones.{is_test_of, is_of_rival, with_test, marked_after}
use Rattle.league_core.specs.search.Zones.{marked_before}
use Rattle.league_core.specs.search.Options.{has_finish}
use Rattle.league_core.specs.search.PointRanges.{least_points_of, most_points_of, own_most}
use Rattle.league_core.specs.search.PointRanges.{own_least}
use Rattle.league_core.specs.search.Reasons.{has_member, has_reason, refutes, times}
use Rattle.league_core.specs.search.Trees.{Tree, open_leaf, lent_leaf, refuted_leaf, branch}
use Rattle.league_core.specs.search.Trees.{preorder}
use Rattle.league_core.specs.search.Splits.{AreReasonsTrue}
use Rattle.league_core.proofs.HalfLemmas.{list_all-with}
use Rattle.league_core.proofs.ClubLemmas.{each_member, all_members}
use Rattle.cert_text.specs.declared.proof_line.ProofLine.{ProofLine}
use Rattle.cert_text.specs.Ranges.{is_club_number, is_test_in_range, is_reason_in_range}
use Rattle.cert_text.specs.Ranges.{is_in_range}
use Rattle.cert_text.specs.TreeLines.{plain_line, marked_line, plain_lines, marked_lines}
use Rattle.cert_text.specs.TreeLines.{is_test_for, are_tests_for}

-- a rival that the test names is a club of a league
abbrev pub is_rival_in_range : Test → Bool
is_rival_in_range (Home fixture) = true
is_rival_in_range (Draw fixture) = true
is_rival_in_range (HomeMost fixture most) = true
is_rival_in_range (AwayMost fixture most) = true
is_rival_in_range (Rival club) = is_club_number club

-- so is each rival that the zone names
abbrev pub are_rivals_in_range : List Literal → Bool
are_rivals_in_range zone = list_all (λ literal. is_rival_in_range literal.test) zone

rival_in_range : (test : Test) → is_test_in_range test ≡ true → is_rival_in_range test ≡ true
rival_in_range (Home fixture) known = refl
rival_in_range (Draw fixture) known = refl
rival_in_range (HomeMost fixture most) known = refl
rival_in_range (AwayMost fixture most) known = refl
rival_in_range (Rival club) known = known

-- a marked rival is a club of a league
marked_is_club : (side : Literal → Bool) (zone : List Literal) (club : ℕ)
    → are_rivals_in_range zone ≡ true
    → list_any (λ literal. is_of_rival club literal.test && side literal) zone ≡ true
    → is_club_number club ≡ true
marked_is_club side [] club within marked = absurd (false≢true marked)
marked_is_club side (literal ∷ zone) club within marked =
    let parts = and_parts (is_rival_in_range literal.test) (are_rivals_in_range zone) within in
    by_first (is_of_rival club literal.test && side literal) refl parts.0
    (λ more. marked_is_club side zone club parts.1 more) marked
  where
    of_test : (test : Test) → is_rival_in_range test ≡ true → is_of_rival club test ≡ true
        → is_club_number club ≡ true
    of_test (Home fixture) known of = absurd (false≢true of)
    of_test (Draw fixture) known of = absurd (false≢true of)
    of_test (HomeMost fixture most) known of = absurd (false≢true of)
    of_test (AwayMost fixture most) known of = absurd (false≢true of)
    of_test (Rival rival) known of =
        subst (λ (x : ℕ). is_club_number x ≡ true) (eqb-true rival club of) known

    by_first : (b : Bool) → (is_of_rival club literal.test && side literal) ≡ b
        → is_rival_in_range literal.test ≡ true
        → (list_any (λ l. is_of_rival club l.test && side l) zone ≡ true
        → is_club_number club ≡ true)
        → (b || list_any (λ l. is_of_rival club l.test && side l) zone) ≡ true
        → is_club_number club ≡ true
    by_first true here known rest either =
        of_test literal.test known
        (and_parts (is_of_rival club literal.test) (side literal) here).0
    by_first false here known rest either = rest either

set_in_range : (clubs : List ℕ) (marked : ℕ → Bool) (test : Bool)
    → ((club : ℕ) → marked club ≡ true → is_club_number club ≡ true)
    → (has_member clubs && list_all marked clubs && test) ≡ true
    → (has_member clubs && list_all is_club_number clubs) ≡ true
set_in_range clubs marked test known holds =
    let both = (and_parts (has_member clubs && list_all marked clubs) test holds).0 in
    let parts = and_parts (has_member clubs) (list_all marked clubs) both in
    and_from (has_member clubs) (list_all is_club_number clubs) parts.0
    (all_members is_club_number clubs
    (λ club has. known club (each_member marked clubs parts.1 club has)))

-- a reason that holds is in range
reason_in_range : (sheet : Sheet) (season : Results) (question : Question) (zone : List Literal)
    (reason : Reason) → are_rivals_in_range zone ≡ true
    → has_reason sheet season question zone reason ≡ true → is_reason_in_range reason ≡ true
unfolding has_reason
reason_in_range sheet season question zone Count within holds = refl
reason_in_range sheet season question zone Window within holds = refl
reason_in_range sheet season question zone (Low set) within holds =
    set_in_range (clubs_in set) (marked_after zone)
    (int_lt (times (clubs_in set) (own_most sheet season question zone))
    (least_points_of sheet season zone (clubs_in set)))
    (λ club marked. marked_is_club (λ literal. not literal.yes) zone club within marked)
    (and_parts (has_finish sheet season zone)
    (refutes sheet season question zone (Low set)) holds).1
reason_in_range sheet season question zone (High set) within holds =
    set_in_range (clubs_in set) (marked_before zone)
    (int_lt (most_points_of sheet season zone (clubs_in set))
    (times (clubs_in set) (own_least sheet season question zone)))
    (λ club marked. marked_is_club (λ literal. literal.yes) zone club within marked)
    (and_parts (has_finish sheet season zone)
    (refutes sheet season question zone (High set)) holds).1
reason_in_range sheet season question zone Tie within holds = refl

-- what a line says of its node is in range
abbrev is_node_in_range : TreeNode → Bool
is_node_in_range (Split test fresh) = is_test_in_range test
is_node_in_range Open = true
is_node_in_range (Lent number) = true
is_node_in_range (Refuted reason fresh) = is_reason_in_range reason

zone_with : (zone : List Literal) (test : Test) (holds : Bool) → are_rivals_in_range zone ≡ true
    → is_test_in_range test ≡ true → are_rivals_in_range (with_test zone test holds) ≡ true
zone_with zone test holds within known =
    list_all-with (λ literal. is_rival_in_range literal.test) zone test holds
    ∙ and_from (are_rivals_in_range zone) (is_rival_in_range test) within
    (rival_in_range test known)

-- the nodes of a tree are
nodes_in_range : (sheet : Sheet) (season : Results) (question : Question) (tree : Tree)
    (zone : List Literal) → are_rivals_in_range zone ≡ true
    → are_tests_for sheet question tree ≡ true
    → AreReasonsTrue sheet season question zone tree
    → list_all is_node_in_range (preorder tree) ≡ true
nodes_in_range sheet season question open_leaf zone within tests reasons = refl
nodes_in_range sheet season question (lent_leaf number) zone within tests reasons = refl
nodes_in_range sheet season question (refuted_leaf reason fresh) zone within tests reasons =
    and_from (is_reason_in_range reason) true
    (reason_in_range sheet season question zone reason within reasons) refl
nodes_in_range sheet season question (branch test fresh yes_half no_half) zone within tests
    reasons =
    let parts = and_parts (is_test_for sheet question test && are_tests_for sheet question yes_half)
    (are_tests_for sheet question no_half) tests in
    let first = and_parts (is_test_for sheet question test) (are_tests_for sheet question yes_half)
    parts.0 in
    let of = (and_parts (is_test_in_range test && is_test_of sheet test)
    (not (is_of_rival question.club test)) first.0).0 in
    let known = (and_parts (is_test_in_range test) (is_test_of sheet test) of).0 in
    and_from (is_test_in_range test)
    (list_all is_node_in_range (preorder yes_half ++ preorder no_half)) known
    (list_all-append is_node_in_range (preorder yes_half) (preorder no_half)
    ∙ and_from (list_all is_node_in_range (preorder yes_half))
    (list_all is_node_in_range (preorder no_half))
    (nodes_in_range sheet season question yes_half (with_test zone test true)
    (zone_with zone test true within known) first.1 reasons.1)
    (nodes_in_range sheet season question no_half (with_test zone test false)
    (zone_with zone test false within known) parts.1 reasons.2))

lines_of_nodes : (line : TreeNode → ProofLine)
    → ((node : TreeNode) → is_in_range (line node) ≡ is_node_in_range node)
    → (nodes : List TreeNode) → list_all is_in_range (map line nodes)
    ≡ list_all is_node_in_range nodes
lines_of_nodes line same [] = refl
lines_of_nodes line same (node ∷ nodes) =
    ap (λ b. b && list_all is_in_range (map line nodes)) (same node)
    ∙ ap (λ b. is_node_in_range node && b) (lines_of_nodes line same nodes)

plain_range : (node : TreeNode) → is_in_range (plain_line node) ≡ is_node_in_range node
plain_range (Split test fresh) = refl
plain_range Open = refl
plain_range (Lent number) = refl
plain_range (Refuted reason fresh) = refl

marked_range : (node : TreeNode) → is_in_range (marked_line node) ≡ is_node_in_range node
marked_range (Split test true) = refl
marked_range (Split test false) = refl
marked_range Open = refl
marked_range (Lent number) = refl
marked_range (Refuted reason true) = refl
marked_range (Refuted reason false) = refl

-- the lines of a tree without marks
pub plain_lines_in_range : (sheet : Sheet) (season : Results) (question : Question) (tree : Tree)
    → are_tests_for sheet question tree ≡ true → AreReasonsTrue sheet season question [] tree
    → list_all is_in_range (plain_lines tree) ≡ true
plain_lines_in_range sheet season question tree tests reasons =
    lines_of_nodes plain_line plain_range (preorder tree)
    ∙ nodes_in_range sheet season question tree [] refl tests reasons

-- and with marks, also below a zone
pub marked_lines_below : (sheet : Sheet) (season : Results) (question : Question) (tree : Tree)
    (zone : List Literal) → are_rivals_in_range zone ≡ true
    → are_tests_for sheet question tree ≡ true → AreReasonsTrue sheet season question zone tree
    → list_all is_in_range (marked_lines tree) ≡ true
marked_lines_below sheet season question tree zone within tests reasons =
    lines_of_nodes marked_line marked_range (preorder tree)
    ∙ nodes_in_range sheet season question tree zone within tests reasons

pub marked_lines_in_range : (sheet : Sheet) (season : Results) (question : Question) (tree : Tree)
    → are_tests_for sheet question tree ≡ true → AreReasonsTrue sheet season question [] tree
    → list_all is_in_range (marked_lines tree) ≡ true
marked_lines_in_range sheet season question tree tests reasons =
    marked_lines_below sheet season question tree [] refl tests reasons
