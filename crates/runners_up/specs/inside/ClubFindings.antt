-- What is known of a club of a cup, with what shows it.
use Rattle.std.specs.Prelude.{◌≡◌, ℕ, Bool, true, false, ◌||◌, IsTrue, List, take, slice_get, Some}
use Rattle.league_core.specs.declared.question.Claim.{Claim}
use Rattle.league_core.specs.declared.question.Claim.TheVariants.{Inside, Outside}
use Rattle.league_core.specs.game.Results.{Results}
use Rattle.club_keys.specs.inside.KeyEnds.{key_parts}
use Rattle.depth_search.specs.inside.Cases.{Cases, case_nodes}
use Rattle.cup_sheet.specs.declared.cup.Cup.{Cup}
use Rattle.cup_sheet.specs.declared.question.GroupReason.{GroupReason}
use Rattle.cup_sheet.specs.CupAnswers.{IsCupExample, IsCupRefuted, IsCupSpent, IsUnsettledInCup}
use Rattle.cup_sheet.specs.CupAnswers.{listed_groups}
use Rattle.cup_sheet.specs.CupLimits.{direct_places}
use Rattle.cup_sheet.specs.JointFinishes.{GroupState, states_of}
use Rattle.cup_sheet.specs.KeyBounds.{IsTurningKey}
use Rattle.cup_sheet.specs.Qualifying.{IsClinchedInCup, IsLostInCup, IsPossibleInCup}
use Rattle.cup_groups.specs.declared.seat.ClubSeat.{ClubSeat}
use Rattle.cup_groups.specs.inside.ClubSeats.{IsSeatOf}
use Rattle.cup_groups.specs.inside.KindQuestions.{group_question_of}
use Rattle.group_search.specs.inside.GroupTasks.{new_group_tree}
use Rattle.runners_up.specs.declared.joint.JointFinish.{JointFinish}
use Rattle.runners_up.specs.declared.survey.OpenGroup.{OpenGroup}
use Rattle.runners_up.specs.inside.GroupSurveys.{group_numbers}
use Rattle.runners_up.specs.inside.JointEnds.{group_finishes}
use Rattle.runners_up.specs.inside.SideLaws.{IsSideRefuted}
use Rattle.runners_up.specs.declared.finding.SideRefutation.{SideRefutation}
use Rattle.runners_up.specs.declared.finding.ClubFinding.{ClubFinding}
use Rattle.runners_up.specs.declared.finding.ClubFinding.TheVariants.{Clinched, Lost, Possible}
use Rattle.runners_up.specs.declared.finding.ClubFinding.TheVariants.{Unsettled}
use Rattle.runners_up.specs.declared.finding.OpenSide.{OpenSide}
use Rattle.runners_up.specs.declared.finding.OpenSide.TheVariants.{Shown, Spent}

-- the trees refute the side: those about the club itself, and those of the first groups listed, as
-- many as are needed; the key is the one on which the side turns in the club's group
pub record IsSideRefutedBy (cup : Cup) (seasons : List Results) (claim : Claim) (club : ℕ)
    (found : SideRefutation) : Type 0 where
  pub seat : ClubSeat
  pub seated : IsSeatOf cup club seat
  pub trees : IsSideRefuted cup seasons claim seat (key_parts found.key) found.place.items
      found.nearer.items found.listed.items
  pub turning : IsTurningKey direct_places trees.sheet trees.season claim seat.own
      (key_parts found.key)
  pub refuted : IsCupRefuted cup seasons claim club (key_parts found.key)
      (take (listed_groups cup claim) (group_numbers found.listed.items))

-- the budget was spent on the question about the group, which is on the way to the side; the nodes
-- are those of the tree
pub record IsSideSpentBy (cup : Cup) (seasons : List Results) (claim : Claim) (club : ℕ)
    (group : OpenGroup) : Type 0 where
  pub state : GroupState
  pub there : slice_get (states_of cup seasons) group.group ≡ Some state
  pub cases : Cases GroupReason
  pub nodes : case_nodes cases ≡ group.spent.nodes.items
  pub spent : IsCupSpent cup seasons claim club state (group_question_of group.spent.question)
      (new_group_tree cases)

-- the joint finish has the club on the side
abbrev pub IsSideShownBy : Cup → List Results → Claim → ℕ → JointFinish → Type 0
IsSideShownBy cup seasons claim club joint =
    IsCupExample cup seasons claim club (group_finishes joint.ends) joint.lots

-- a joint finish, or a tree on which the budget was spent
abbrev pub IsOpenSide : Cup → List Results → Claim → ℕ → OpenSide → Type 0
IsOpenSide cup seasons claim club (Shown joint) = IsSideShownBy cup seasons claim club joint
IsOpenSide cup seasons claim club (Spent group) = IsSideSpentBy cup seasons claim club group

-- the budget was spent on the way to the side
abbrev pub is_spent_side : OpenSide → Bool
is_spent_side (Shown joint) = false
is_spent_side (Spent group) = true

-- the word is true, and each part shows what it has to; a club that is not settled has a side on
-- which the budget was spent
abbrev pub IsClubFinding : Cup → List Results → ℕ → ClubFinding → Type 0
IsClubFinding cup seasons club (Clinched found) =
    IsClinchedInCup cup seasons club × IsSideRefutedBy cup seasons Outside club found
IsClubFinding cup seasons club (Lost found) =
    IsLostInCup cup seasons club × IsSideRefutedBy cup seasons Inside club found
IsClubFinding cup seasons club (Possible inside outside) =
    IsPossibleInCup cup seasons club × IsSideShownBy cup seasons Inside club inside
    × IsSideShownBy cup seasons Outside club outside
IsClubFinding cup seasons club (Unsettled inside outside) =
    IsUnsettledInCup cup seasons club × IsTrue (is_spent_side inside || is_spent_side outside)
    × IsOpenSide cup seasons Inside club inside × IsOpenSide cup seasons Outside club outside
