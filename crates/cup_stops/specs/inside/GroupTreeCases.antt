-- Trees about a group by cases, over their lines without those that are passed over. With `proved`
-- true a tree also proves what it says; with `proved` false it need not.
use Rattle.std.specs.Prelude.{◌≡◌, ◌+◌, Bool, false, ◌||◌, IsTrue, List, [], ◌∷◌, ◌++◌, Some}
use Rattle.std.specs.Bool.{OnTrue}
use Rattle.std.specs.List.{flat_map}
use Rattle.league_core.specs.declared.zone.Literal.{Literal}
use Rattle.line_tokens.specs.declared.tree_line.TreeKind.{TreeKind}
use Rattle.line_tokens.specs.declared.tree_line.TreeKind.TheVariants.{Refutation}
use Rattle.cert_check.specs.declared.expected.Tally.{Tally}
use Rattle.cert_check.specs.ExpectedItems.{is_tally_whole}
use Rattle.cup_sheet.specs.CupLimits.{direct_places}
use Rattle.cup_sheet.specs.GroupQuestions.{GroupQuestion, has_group_reason}
use Rattle.cup_sheet.specs.GroupTrees.{GroupTree, ZonesMeet, has_open_zone, new_nodes, open_zone}
use Rattle.cup_sheet.specs.GroupTrees.{refuted_zone, split_zone}
use Rattle.cup_text.specs.declared.cup_line.CupLine.{CupLine}
use Rattle.cup_text.specs.declared.cup_line.CupLine.TheVariants as line
use Rattle.cup_grammar.specs.declared.token.CupToken.{CupToken}
use Rattle.cup_grammar.specs.declared.token.CupToken.TheVariants.{Proof}
use Rattle.cup_grammar.specs.PlacedGroups.{PlacedGroup, OwnNode, split_node, refuted_node}
use Rattle.cup_grammar.specs.PlacedGroups.{open_node, is_group_test, is_reason_of_kind, own_node}

-- ---- lines

-- the nodes of a tree: each before those of its halves, and first the half where its test is true
abbrev pub nodes_in_order : GroupTree → List OwnNode
nodes_in_order open_zone = open_node ∷ []
nodes_in_order (refuted_zone reason fresh) = refuted_node reason fresh ∷ []
nodes_in_order (split_zone test fresh yes_half no_half) =
    split_node test fresh ∷ (nodes_in_order yes_half ++ nodes_in_order no_half)

-- the nodes of trees, one tree after another
abbrev pub nodes_of_trees : List GroupTree → List OwnNode
nodes_of_trees trees = flat_map nodes_in_order trees

-- each line stands for its node in a tree of this kind about the group
abbrev pub AreNodeLines : TreeKind → PlacedGroup → List OwnNode → List CupToken → Type 0
AreNodeLines kind group [] tokens = tokens ≡ []
AreNodeLines kind group (node ∷ nodes) tokens =
    (it : CupLine) × (later : List CupToken) × (own_node kind group it ≡ Some node)
    × AreNodeLines kind group nodes later × (tokens ≡ Proof it ∷ later)

-- ---- nodes

-- below a root with this zone each test and each reason may stand in a tree about the question, and
-- a proved reason holds in its zone
abbrev pub NodesFitBelow : Bool → PlacedGroup → GroupQuestion → List Literal → GroupTree → Type 0
NodesFitBelow proved group question zone tree =
    ZonesMeet
    (λ it reason fresh. IsTrue (is_reason_of_kind group question reason)
    × OnTrue proved
    (IsTrue (has_group_reason direct_places group.sheet group.season question it reason)))
    (λ it test fresh. IsTrue (is_group_test group question test)) zone tree

-- so it is in each of these trees; their roots have these zones
abbrev pub AllNodesFit : Bool → PlacedGroup → GroupQuestion → List (List Literal)
    → List GroupTree → Type 0
AllNodesFit proved group question [] [] = Unit {0}
AllNodesFit proved group question [] (tree ∷ trees) = ⊥
AllNodesFit proved group question (zone ∷ zones) [] = ⊥
AllNodesFit proved group question (zone ∷ zones) (tree ∷ trees) =
    NodesFitBelow proved group question zone tree × AllNodesFit proved group question zones trees

-- the tally with the new nodes and the open leaves of a tree
abbrev pub tally_past : Tally → GroupTree → Tally
tally_past tally tree = record {
  news = tally.news + new_nodes tree;
  some_open = tally.some_open || has_open_zone tree;
}

-- the same of trees
abbrev pub tally_past_all : Tally → List GroupTree → Tally
tally_past_all tally [] = tally
tally_past_all tally (tree ∷ trees) = tally_past_all (tally_past tally tree) trees

-- ---- whole trees

-- the lines are trees for these zones; proved, the tally with which they end is that of a whole
-- tree: where the budget was spent, so many nodes are new, and a leaf is open
abbrev pub AreGroupTrees : Bool → TreeKind → PlacedGroup → GroupQuestion → List (List Literal)
    → Tally → List CupToken → Type 0
AreGroupTrees proved kind group question zones tally tokens =
    (trees : List GroupTree) × AllNodesFit proved group question zones trees
    × OnTrue proved
    (IsTrue (is_tally_whole group.sheet.budget kind (tally_past_all tally trees)))
    × AreNodeLines kind group (nodes_of_trees trees) tokens

-- one tree from its root on
abbrev pub IsGroupTree : Bool → TreeKind → PlacedGroup → GroupQuestion → List CupToken → Type 0
IsGroupTree proved kind group question tokens =
    AreGroupTrees proved kind group question ([] ∷ [])
    (record { news = 0; some_open = false }) tokens

-- a refutation under its head
abbrev pub IsHeadedRefutation : Bool → PlacedGroup → GroupQuestion → List CupToken → Type 0
IsHeadedRefutation proved group question tokens =
    (rest : List CupToken) × IsGroupTree proved Refutation group question rest
    × (tokens ≡ Proof (line.Tree question.kind (group.start.club + question.club)) ∷ rest)
