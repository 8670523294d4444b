-- The groups of a cup with what has been played of them, and what a line says of one: the lines
-- have the numbers of the cup, a tree about a group those that its clubs and fixtures have there.
use Rattle.std.specs.Prelude.{ℕ, ◌+◌, ◌-◌, Bool, true, false, not, ◌&&◌, nat_le, nat_lt, List, []}
use Rattle.std.specs.Prelude.{◌∷◌, length, map, slice_get, Option, Some, None, option_map}
use Rattle.std.specs.Prelude.{if◌then◌else◌}
use Rattle.std.specs.List.{list_all}
use Rattle.league_core.specs.declared.sheet.Sheet.{Sheet}
use Rattle.league_core.specs.declared.club_set.ClubSet.{ClubSet}
use Rattle.league_core.specs.declared.zone.Reason.{Reason}
use Rattle.league_core.specs.declared.zone.Reason.TheVariants as why
use Rattle.league_core.specs.declared.zone.Test.{Test}
use Rattle.league_core.specs.declared.zone.Test.TheVariants.{Home, Draw, HomeMost, AwayMost, Rival}
use Rattle.league_core.specs.game.Results.{Results}
use Rattle.cert_text.specs.Places.{bits_at}
use Rattle.cert_text.specs.TreeLines.{is_test_for}
use Rattle.line_tokens.specs.LineRanges.{is_reason_for}
use Rattle.line_tokens.specs.declared.tree_line.TreeKind.{TreeKind}
use Rattle.line_tokens.specs.declared.tree_line.TreeKind.TheVariants.{Spent}
use Rattle.cup_sheet.specs.declared.cup.Cup.{Cup}
use Rattle.cup_sheet.specs.declared.question.GroupReason.{GroupReason}
use Rattle.cup_sheet.specs.declared.question.GroupReason.TheVariants as reason
use Rattle.cup_sheet.specs.CupLimits.{direct_places}
use Rattle.cup_sheet.specs.GroupQuestions.{GroupQuestion, is_of_place, place_question}
use Rattle.cup_groups.specs.declared.start.GroupStart.{GroupStart}
use Rattle.cup_groups.specs.GroupStarts.{start_after}
use Rattle.cup_text.specs.declared.cup_line.CupReason.{CupReason}
use Rattle.cup_text.specs.declared.cup_line.CupReason.TheVariants as told
use Rattle.cup_text.specs.declared.cup_line.CupLeaf.{CupLeaf}
use Rattle.cup_text.specs.declared.cup_line.CupLeaf.TheVariants as leaf
use Rattle.cup_text.specs.declared.cup_line.CupLine.{CupLine}
use Rattle.cup_text.specs.declared.cup_line.CupLine.TheVariants as line

-- what a part of a report is judged by: the cup, the season of each group, and the number of events
-- before its ask
pub record CupBasis : Type 0 where
  pub cup : Cup
  pub seasons : List Results
  pub epoch : ℕ

-- a group with what has been played of it, and where its numbers begin in the cup
pub record PlacedGroup : Type 0 where
  pub start : GroupStart
  pub sheet : Sheet
  pub season : Results

-- the groups from one on, which starts here
abbrev pub placed_from : GroupStart → List Sheet → List Results → List PlacedGroup
placed_from start [] seasons = []
placed_from start (group ∷ groups) [] = []
placed_from start (group ∷ groups) (season ∷ seasons) =
    record { start = start; sheet = group; season = season }
    ∷ placed_from (start_after start group) groups seasons

-- all groups of the cup
abbrev pub placed_groups : CupBasis → List PlacedGroup
placed_groups basis =
    placed_from (record { club = 0; fixture = 0 }) basis.cup.groups basis.seasons

-- the club of the cup is one of the group
abbrev pub has_placed_club : PlacedGroup → ℕ → Bool
has_placed_club group club =
    nat_le group.start.club club
    && nat_lt club (group.start.club + length group.sheet.clubs)

-- the fixture of the cup is one of the group
abbrev pub has_placed_fixture : PlacedGroup → ℕ → Bool
has_placed_fixture group fixture =
    nat_le group.start.fixture fixture
    && nat_lt fixture (group.start.fixture + length group.sheet.fixtures)

-- the group among these in which a club of the cup plays
abbrev pub group_with : List PlacedGroup → ℕ → Option PlacedGroup
group_with [] club = None
group_with (group ∷ groups) club =
    if has_placed_club group club then Some group else group_with groups club

-- a group before others, if it is there
abbrev pub with_group : Option PlacedGroup → List PlacedGroup → List PlacedGroup
with_group None groups = groups
with_group (Some group) groups = group ∷ groups

-- the groups with these numbers
abbrev pub groups_at : List PlacedGroup → List ℕ → List PlacedGroup
groups_at groups [] = []
groups_at groups (number ∷ numbers) =
    with_group (slice_get groups number) (groups_at groups numbers)

-- the number in the group of a club of the cup
abbrev pub own_club : PlacedGroup → ℕ → ℕ
own_club group club = club - group.start.club

-- ---- lines about a group, by its own numbers

-- the number of a fixture in the group, if it is one of it
abbrev pub own_fixture : PlacedGroup → ℕ → Option ℕ
own_fixture group fixture =
    if has_placed_fixture group fixture then Some (fixture - group.start.fixture) else None

-- a test of the group, if it names a fixture or a club of it
abbrev pub own_test : PlacedGroup → Test → Option Test
own_test group (Home fixture) = option_map (λ own. Home own) (own_fixture group fixture)
own_test group (Draw fixture) = option_map (λ own. Draw own) (own_fixture group fixture)
own_test group (HomeMost fixture most) =
    option_map (λ own. HomeMost own most) (own_fixture group fixture)
own_test group (AwayMost fixture most) =
    option_map (λ own. AwayMost own most) (own_fixture group fixture)
own_test group (Rival club) =
    if has_placed_club group club then Some (Rival (own_club group club)) else None

-- the clubs of a cut as a set, if all are of the group
abbrev pub own_set : PlacedGroup → List ℕ → Option ClubSet
own_set group clubs =
    if list_all (has_placed_club group) clubs
    then Some (record { bits = bits_at (map (own_club group) clubs) }) else None

-- a reason of a table
abbrev pub own_reason : PlacedGroup → CupReason → Option Reason
own_reason group told.Count = Some why.Count
own_reason group told.Window = Some why.Window
own_reason group (told.Low cut) = option_map (λ set. why.Low set) (own_set group cut.list)
own_reason group (told.High cut) = option_map (λ set. why.High set) (own_set group cut.list)
own_reason group told.Tie = Some why.Tie

-- the reason of a leaf
abbrev pub own_leaf : PlacedGroup → CupLeaf → Option GroupReason
own_leaf group (leaf.Plain said) = option_map (λ it. reason.Plain it) (own_reason group said)
own_leaf group (leaf.In said) = option_map (λ it. reason.In it) (own_reason group said)
own_leaf group (leaf.Out said) = option_map (λ it. reason.Out it) (own_reason group said)
own_leaf group leaf.ByKey = Some reason.ByKey

-- the test is such as a line has, for a tree about this question
abbrev pub is_group_test : PlacedGroup → GroupQuestion → Test → Bool
is_group_test group question test =
    is_test_for group.sheet (place_question direct_places question.kind question.club) test

-- the reason is one of the kind, and its sets name clubs of the group other than the question's
abbrev pub is_reason_of_kind : PlacedGroup → GroupQuestion → GroupReason → Bool
is_reason_of_kind group question (reason.Plain why) =
    is_of_place question.kind
    && is_reason_for group.sheet (place_question direct_places question.kind question.club) why
is_reason_of_kind group question (reason.In why) =
    not (is_of_place question.kind)
    && is_reason_for group.sheet (place_question direct_places question.kind question.club) why
is_reason_of_kind group question (reason.Out why) =
    not (is_of_place question.kind)
    && is_reason_for group.sheet (place_question direct_places question.kind question.club) why
is_reason_of_kind group question reason.ByKey = not (is_of_place question.kind)

-- a node of a tree about a group
pub data OwnNode : Type 0 where
  split_node : Test → Bool → OwnNode
  refuted_node : GroupReason → Bool → OwnNode
  open_node : OwnNode

-- the node that a line stands for, if trees of this kind have such a line and what it names is of
-- the group: in a refutation nothing is told as new, and nothing is open
abbrev pub own_node : TreeKind → PlacedGroup → CupLine → Option OwnNode
own_node kind group (line.Split test) =
    option_map (λ own. split_node own false) (own_test group test)
own_node kind group (line.Leaf leaf) =
    option_map (λ own. refuted_node own false) (own_leaf group leaf)
own_node Spent group (line.NewSplit test) =
    option_map (λ own. split_node own true) (own_test group test)
own_node Spent group (line.NewLeaf leaf) =
    option_map (λ own. refuted_node own true) (own_leaf group leaf)
own_node Spent group line.OpenLeaf = Some open_node
own_node kind group _ = None
