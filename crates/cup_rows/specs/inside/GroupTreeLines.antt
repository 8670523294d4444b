-- The nodes of a search of a group as lines of a cup's proof, one by one.
use Rattle.std.specs.Prelude.{ℕ, ◌+◌, List, ◌∷◌, map, ◌<◌}
use Rattle.league_core.specs.declared.zone.Test.{Test}
use Rattle.league_core.specs.declared.zone.Test.TheVariants.{Home, Draw, HomeMost, AwayMost, Rival}
use Rattle.club_keys.specs.declared.club_key.ClubKey.{ClubKey}
use Rattle.club_keys.specs.inside.KeyEnds.{key_parts}
use Rattle.depth_search.specs.declared.kind.CaseNode.{CaseNode}
use Rattle.depth_search.specs.declared.kind.CaseNode.TheVariants as node
use Rattle.cup_sheet.specs.CupLimits.{most_cup_clubs, most_cup_fixtures}
use Rattle.cup_sheet.specs.declared.question.GroupKind.{GroupKind}
use Rattle.cup_sheet.specs.declared.question.GroupReason.{GroupReason}
use Rattle.cup_text.specs.declared.cup_line.CupKey.{CupKey}
use Rattle.cup_text.specs.declared.cup_line.CupLine.{CupLine}
use Rattle.cup_text.specs.declared.cup_line.CupLine.TheVariants as line
use Rattle.cup_text.specs.CupItems.{key_of_question}
use Rattle.cup_text.specs.GroupNodeLines.{test_in_cup, leaf_in_cup}
use Rattle.cup_groups.specs.declared.question.KindQuestion.{KindQuestion}
use Rattle.cup_groups.specs.declared.start.GroupStart.{GroupStart}

-- ---- nodes

-- a node of a refutation: there nothing is told as new
abbrev pub refuted_node_line : GroupStart → CaseNode GroupReason → CupLine
refuted_node_line start (node.Split test) = line.Split (test_in_cup start test)
refuted_node_line start (node.Refuted reason) = line.Leaf (leaf_in_cup start reason)
refuted_node_line start node.Open = line.OpenLeaf

-- a node of a tree on which the budget was spent: splits and refuted leaves are new
abbrev pub spent_node_line : GroupStart → CaseNode GroupReason → CupLine
spent_node_line start (node.Split test) = line.NewSplit (test_in_cup start test)
spent_node_line start (node.Refuted reason) = line.NewLeaf (leaf_in_cup start reason)
spent_node_line start node.Open = line.OpenLeaf

-- the test is of a club or a fixture that a cup can have
abbrev pub IsCupTestWithin : GroupStart → Test → Type 0
IsCupTestWithin start (Home fixture) = start.fixture + fixture < most_cup_fixtures
IsCupTestWithin start (Draw fixture) = start.fixture + fixture < most_cup_fixtures
IsCupTestWithin start (HomeMost fixture most) = start.fixture + fixture < most_cup_fixtures
IsCupTestWithin start (AwayMost fixture most) = start.fixture + fixture < most_cup_fixtures
IsCupTestWithin start (Rival club) = start.club + club < most_cup_clubs

-- a split is by such a test
abbrev pub IsNodeWithin : GroupStart → CaseNode GroupReason → Type 0
IsNodeWithin start (node.Split test) = IsCupTestWithin start test
IsNodeWithin start (node.Refuted reason) = Unit {0}
IsNodeWithin start node.Open = Unit {0}

-- ---- trees under their heads

-- the refutation of a question of this kind about a club of the group
abbrev pub group_tree_lines : GroupStart → GroupKind → ℕ → List (CaseNode GroupReason)
    → List CupLine
group_tree_lines start kind club nodes =
    line.Tree kind (start.club + club) ∷ map (refuted_node_line start) nodes

-- a key as it is written
abbrev pub cup_key : ClubKey → CupKey
cup_key key = record { parts = key_parts key }

-- a tree on which the budget for a question was spent
abbrev pub group_spent_lines : GroupStart → KindQuestion → List (CaseNode GroupReason)
    → List CupLine
group_spent_lines start question nodes =
    line.Spent question.kind (start.club + question.club)
    (key_of_question question.kind (key_parts question.key))
    ∷ map (spent_node_line start) nodes
