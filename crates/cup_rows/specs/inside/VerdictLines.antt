-- What is written under a club's verdict. Clinched and lost: the key on which it turns, the other
-- groups that are listed, and refutations: about the club's place, about a key farther in, and
-- about each club of the listed groups in its order. Possible: a joint finish for qualifying, then
-- one for missing. Unsettled: for each side, in the same order, a joint finish or a tree.
use Rattle.std.specs.Prelude.{◌<◌, ◌≤◌, ℕ, ◌+◌, List, [], ◌∷◌, ◌++◌, length, take, All}
use Rattle.std.specs.List.{flat_map}
use Rattle.league_core.specs.declared.question.Claim.{Claim}
use Rattle.league_core.specs.declared.question.Claim.TheVariants.{Inside, Outside}
use Rattle.league_core.specs.game.Results.{Results}
use Rattle.cup_sheet.specs.declared.cup.Cup.{Cup}
use Rattle.cup_sheet.specs.declared.question.GroupKind.{GroupKind}
use Rattle.cup_sheet.specs.CupAnswers.{listed_groups}
use Rattle.cup_sheet.specs.JointFinishes.{AreFinishesOf}
use Rattle.cup_sheet.specs.KeyBounds.{place_kind, nearer_kind, others_kind}
use Rattle.cup_text.specs.declared.cup_line.CupLine.{CupLine}
use Rattle.cup_text.specs.declared.cup_line.CupLine.TheVariants as line
use Rattle.cup_text.specs.CupItems.{joint_lines}
use Rattle.cup_sheet.specs.CupLimits.{most_cup_clubs}
use Rattle.runners_up.specs.declared.joint.JointFinish.{JointFinish}
use Rattle.cup_groups.specs.declared.seat.ClubSeat.{ClubSeat}
use Rattle.runners_up.specs.declared.survey.EmptyGroup.{EmptyGroup}
use Rattle.runners_up.specs.declared.survey.OpenGroup.{OpenGroup}
use Rattle.runners_up.specs.inside.GroupsAsked.{GroupNodes}
use Rattle.runners_up.specs.inside.GroupSurveys.{group_numbers}
use Rattle.runners_up.specs.inside.JointEnds.{group_finishes}
use Rattle.runners_up.specs.declared.finding.SideRefutation.{SideRefutation}
use Rattle.runners_up.specs.declared.finding.ClubFinding.{ClubFinding}
use Rattle.runners_up.specs.declared.finding.ClubFinding.TheVariants.{Clinched, Lost, Possible}
use Rattle.runners_up.specs.declared.finding.ClubFinding.TheVariants.{Unsettled}
use Rattle.runners_up.specs.declared.finding.OpenSide.{OpenSide}
use Rattle.runners_up.specs.declared.finding.OpenSide.TheVariants.{Shown, Spent}
use Rattle.cup_groups.specs.declared.start.GroupStart.{GroupStart}
use Rattle.answer_rows.specs.declared.word.Word.{Word}
use Rattle.answer_rows.specs.declared.word.Word.TheVariants as word
use Rattle.cup_rows.specs.inside.GroupTreeLines.{group_tree_lines, group_spent_lines, cup_key}
use Rattle.cup_rows.specs.inside.GroupTreeLines.{IsNodeWithin}
use Rattle.cup_groups.specs.GroupStarts.{start_of_group}

-- ---- a side that is refuted

-- the refutations for the clubs of a group from one on, by their numbers there
abbrev pub club_trees_from : GroupStart → GroupKind → ℕ → List GroupNodes → List CupLine
club_trees_from start kind club [] = []
club_trees_from start kind club (nodes ∷ trees) =
    group_tree_lines start kind club nodes.items
    ++ club_trees_from start kind (club + 1) trees

-- those of a listed group
abbrev pub listed_group_lines : Cup → Claim → EmptyGroup → List CupLine
listed_group_lines cup claim group =
    club_trees_from (start_of_group cup.groups group.group) (others_kind claim) 0 group.trees.items

-- the trees about the club itself
abbrev pub own_tree_lines : Cup → Claim → ClubSeat → SideRefutation → List CupLine
own_tree_lines cup claim seat found =
    group_tree_lines (start_of_group cup.groups seat.group) (place_kind claim) seat.own
    found.place.items
    ++ group_tree_lines (start_of_group cup.groups seat.group) (nearer_kind claim) seat.own
    found.nearer.items

-- of the groups that were found as many are listed as are needed
abbrev pub listed_of : Cup → Claim → SideRefutation → List EmptyGroup
listed_of cup claim found = take (listed_groups cup claim) found.listed.items

-- the key and the list of groups
abbrev pub refutation_heads : Cup → Claim → SideRefutation → List CupLine
refutation_heads cup claim found =
    line.KeyLine (cup_key found.key)
    ∷ line.Groups (record { list = group_numbers (listed_of cup claim found) })
    ∷ []

-- all of it
abbrev pub refuted_side_lines : Cup → Claim → ClubSeat → SideRefutation → List CupLine
refuted_side_lines cup claim seat found =
    refutation_heads cup claim found
    ++ (own_tree_lines cup claim seat found
    ++ flat_map (listed_group_lines cup claim) (listed_of cup claim found))

-- ---- a side that is not

-- a tree on which the budget was spent
abbrev pub open_group_lines : Cup → OpenGroup → List CupLine
open_group_lines cup group =
    group_spent_lines (start_of_group cup.groups group.group) group.spent.question
    group.spent.nodes.items

-- what stands for the side
abbrev pub open_side_lines : Cup → List Results → Claim → OpenSide → List CupLine
open_side_lines cup seasons claim (Shown joint) =
    joint_lines claim seasons (group_finishes joint.ends) joint.lots
open_side_lines cup seasons claim (Spent group) = open_group_lines cup group

-- ---- a verdict

-- the word for what is found
abbrev pub word_of_finding : ClubFinding → Word
word_of_finding (Clinched found) = word.Clinched
word_of_finding (Lost found) = word.Lost
word_of_finding (Possible inside outside) = word.Possible
word_of_finding (Unsettled inside outside) = word.Unsettled

-- the lines of a verdict on the club that plays there
abbrev pub verdict_lines : Cup → List Results → ClubSeat → ClubFinding → List CupLine
verdict_lines cup seasons seat (Clinched found) = refuted_side_lines cup Outside seat found
verdict_lines cup seasons seat (Lost found) = refuted_side_lines cup Inside seat found
verdict_lines cup seasons seat (Possible inside outside) =
    joint_lines Inside seasons (group_finishes inside.ends) inside.lots
    ++ joint_lines Outside seasons (group_finishes outside.ends) outside.lots
verdict_lines cup seasons seat (Unsettled inside outside) =
    open_side_lines cup seasons Inside inside ++ open_side_lines cup seasons Outside outside

-- ---- what can be written so

-- the trees of a listed group have numbers that a cup can have
pub record IsListedWithin (cup : Cup) (group : EmptyGroup) : Type 0 where
  pub of_cup : group.group < length cup.groups
  pub clubs : (start_of_group cup.groups group.group).club + length group.trees.items
      ≤ most_cup_clubs
  pub trees : All (λ (nodes : GroupNodes). All
      (IsNodeWithin (start_of_group cup.groups group.group)) nodes.items) group.trees.items

-- so have those of a refuted side, and enough groups were found
pub record IsRefutationWithin (cup : Cup) (claim : Claim) (seat : ClubSeat)
    (found : SideRefutation) : Type 0 where
  pub of_cup : seat.group < length cup.groups
  pub club : (start_of_group cup.groups seat.group).club + seat.own < most_cup_clubs
  pub place : All (IsNodeWithin (start_of_group cup.groups seat.group)) found.place.items
  pub nearer : All (IsNodeWithin (start_of_group cup.groups seat.group)) found.nearer.items
  pub enough : listed_groups cup claim ≤ length found.listed.items
  pub listed : All (IsListedWithin cup) (listed_of cup claim found)

-- so has a tree on which the budget was spent
pub record IsOpenGroupWithin (cup : Cup) (group : OpenGroup) : Type 0 where
  pub of_cup : group.group < length cup.groups
  pub club : (start_of_group cup.groups group.group).club + group.spent.question.club
      < most_cup_clubs
  pub nodes : All (IsNodeWithin (start_of_group cup.groups group.group)) group.spent.nodes.items

-- each group of a joint finish ends as it may
abbrev pub IsJointWithin : Cup → List Results → JointFinish → Type 0
IsJointWithin cup seasons joint = AreFinishesOf cup.groups seasons (group_finishes joint.ends)

-- what stands for a side
abbrev pub IsOpenSideWithin : Cup → List Results → OpenSide → Type 0
IsOpenSideWithin cup seasons (Shown joint) = IsJointWithin cup seasons joint
IsOpenSideWithin cup seasons (Spent group) = IsOpenGroupWithin cup group

-- a verdict
abbrev pub IsVerdictWithin : Cup → List Results → ClubSeat → ClubFinding → Type 0
IsVerdictWithin cup seasons seat (Clinched found) = IsRefutationWithin cup Outside seat found
IsVerdictWithin cup seasons seat (Lost found) = IsRefutationWithin cup Inside seat found
IsVerdictWithin cup seasons seat (Possible inside outside) =
    IsJointWithin cup seasons inside × IsJointWithin cup seasons outside
IsVerdictWithin cup seasons seat (Unsettled inside outside) =
    IsOpenSideWithin cup seasons inside × IsOpenSideWithin cup seasons outside
