-- The trees about a group as lines of a cup's proof. The clubs and the fixtures of a group follow
-- those of the groups before it: so many are added to the numbers that a tree has.
use Rattle.std.specs.Prelude.{ℕ, ◌+◌, Bool, true, false, ◌&&◌, List, [], ◌∷◌, ◌++◌, map}
use Rattle.league_core.specs.declared.zone.Reason.{Reason}
use Rattle.league_core.specs.declared.zone.Reason.TheVariants as why
use Rattle.league_core.specs.declared.zone.Test.{Test}
use Rattle.league_core.specs.declared.zone.Test.TheVariants.{Home, Draw, HomeMost, AwayMost, Rival}
use Rattle.league_core.specs.game.ClubSets.{clubs_in}
use Rattle.cert_text.specs.declared.proof_line.ClubList.{ClubList}
use Rattle.cup_sheet.specs.declared.question.GroupReason.{GroupReason}
use Rattle.cup_sheet.specs.declared.question.GroupReason.TheVariants as reason
use Rattle.cup_sheet.specs.GroupTrees.{GroupTree, open_zone, refuted_zone, split_zone}
use Rattle.cup_groups.specs.declared.start.GroupStart.{GroupStart}
use Rattle.cup_text.specs.declared.cup_line.CupReason.{CupReason}
use Rattle.cup_text.specs.declared.cup_line.CupReason.TheVariants as shown
use Rattle.cup_text.specs.declared.cup_line.CupLeaf.{CupLeaf}
use Rattle.cup_text.specs.declared.cup_line.CupLeaf.TheVariants.{Plain, In, Out, ByKey}
use Rattle.cup_text.specs.declared.cup_line.CupLine.{CupLine}
use Rattle.cup_text.specs.declared.cup_line.CupLine.TheVariants as line

-- a test of the group by the numbers of the cup
abbrev pub test_in_cup : GroupStart → Test → Test
test_in_cup start (Home fixture) = Home (start.fixture + fixture)
test_in_cup start (Draw fixture) = Draw (start.fixture + fixture)
test_in_cup start (HomeMost fixture most) = HomeMost (start.fixture + fixture) most
test_in_cup start (AwayMost fixture most) = AwayMost (start.fixture + fixture) most
test_in_cup start (Rival club) = Rival (start.club + club)

-- clubs of the group, whose first club has this number, by those of the cup
abbrev pub clubs_in_cup : ℕ → List ℕ → ClubList
clubs_in_cup first clubs = record { list = map (λ club. first + club) clubs }

-- a reason of a table
abbrev pub reason_in_cup : GroupStart → Reason → CupReason
reason_in_cup start why.Count = shown.Count
reason_in_cup start why.Window = shown.Window
reason_in_cup start (why.Low cut) = shown.Low (clubs_in_cup start.club (clubs_in cut))
reason_in_cup start (why.High cut) = shown.High (clubs_in_cup start.club (clubs_in cut))
reason_in_cup start why.Tie = shown.Tie

-- a reason of the group
abbrev pub leaf_in_cup : GroupStart → GroupReason → CupLeaf
leaf_in_cup start (reason.Plain why) = Plain (reason_in_cup start why)
leaf_in_cup start (reason.In why) = In (reason_in_cup start why)
leaf_in_cup start (reason.Out why) = Out (reason_in_cup start why)
leaf_in_cup start reason.ByKey = ByKey

-- the line of a refuted leaf
abbrev pub group_leaf_line : Bool → CupLeaf → CupLine
group_leaf_line true leaf = line.NewLeaf leaf
group_leaf_line false leaf = line.Leaf leaf

-- the line of a split
abbrev pub group_split_line : Bool → Test → CupLine
group_split_line true test = line.NewSplit test
group_split_line false test = line.Split test

-- the lines of a tree, each branch before its halves; nodes are told as new only if marks are
-- written: in a refutation they are not
abbrev pub lines_of_group_tree : Bool → GroupStart → GroupTree → List CupLine
lines_of_group_tree marks start open_zone = line.OpenLeaf ∷ []
lines_of_group_tree marks start (refuted_zone reason fresh) =
    group_leaf_line (marks && fresh) (leaf_in_cup start reason) ∷ []
lines_of_group_tree marks start (split_zone test fresh yes_half no_half) =
    group_split_line (marks && fresh) (test_in_cup start test)
    ∷ (lines_of_group_tree marks start yes_half ++ lines_of_group_tree marks start no_half)
