-- What both sides of a club come to.
use Rattle.std.proofs.Common.{ℕ, true, false, List, refl}
use Rattle.league_core.specs.declared.question.Claim.{Claim}
use Rattle.league_core.specs.declared.question.Claim.TheVariants.{Inside, Outside}
use Rattle.league_core.specs.game.Results.{Results}
use Rattle.club_keys.specs.inside.KeyEnds.{key_parts}
use Rattle.group_search.specs.inside.GroupTasks.{new_group_tree}
use Rattle.cup_groups.specs.inside.KindQuestions.{group_question_of}
use Rattle.cup_sheet.specs.declared.cup.Cup.{Cup}
use Rattle.cup_sheet.specs.CupAnswers.{HasCupExample, HasCupSpent}
use Rattle.cup_sheet.specs.Cups.{IsCup}
use Rattle.cup_laws.specs.inside.CupTruths.{AreCupResults}
use Rattle.cup_laws.proofs.CupTruthLemmas.{clinched_is_true, lost_is_true}
use Rattle.runners_up.specs.declared.joint.JointFinish.{JointFinish}
use Rattle.runners_up.specs.declared.survey.OpenGroup.{OpenGroup}
use Rattle.runners_up.specs.inside.JointEnds.{group_finishes}
use Rattle.cup_sides.specs.declared.cup_side.CupSide.{CupSide}
use Rattle.cup_sides.specs.declared.cup_side.CupSide.TheVariants as side
use Rattle.runners_up.specs.declared.finding.SideRefutation.{SideRefutation}
use Rattle.runners_up.specs.declared.finding.ClubFinding.TheVariants.{Clinched}
use Rattle.runners_up.specs.declared.finding.OpenSide.{OpenSide}
use Rattle.runners_up.specs.declared.finding.OpenSide.TheVariants.{Shown, Spent}
use Rattle.cup_sides.specs.inside.CupSides.{IsCupSide}
use Rattle.runners_up.specs.inside.ClubFindings.{IsSideRefutedBy, IsSideSpentBy}
use Rattle.runners_up.specs.inside.ClubFindings.{IsSideShownBy, IsOpenSide, IsClubFinding}
use Rattle.cup_sides.specs.inside.CupSides.{finding_with}

-- a joint finish, and a tree, as the words of an answer have them
has_example : (cup : Cup) (seasons : List Results) (claim : Claim) (club : ℕ)
    (joint : JointFinish) → IsSideShownBy cup seasons claim club joint
    → HasCupExample cup seasons claim club
has_example cup seasons claim club joint is = (group_finishes joint.ends, joint.lots, is)

has_spent : (cup : Cup) (seasons : List Results) (claim : Claim) (club : ℕ) (group : OpenGroup)
    → IsSideSpentBy cup seasons claim club group → HasCupSpent cup seasons claim club
has_spent cup seasons claim club group is =
    (is.state, group_question_of group.spent.question, new_group_tree is.cases, is.spent)

module _ (cup : Cup) (seasons : List Results) (club : ℕ) (is_cup : IsCup cup)
    (results : AreCupResults seasons) where
  -- a club that cannot miss
  pub clinched_if_refuted : (found : SideRefutation)
      → IsSideRefutedBy cup seasons Outside club found
      → IsClubFinding cup seasons club (Clinched found)
  clinched_if_refuted found is = (
    clinched_is_true cup seasons club (key_parts found.key) _ is_cup results is.refuted,
    is,
  )

  -- any other club
  pub verdict_is : (inside : CupSide) (outside : OpenSide)
      → IsCupSide cup seasons Inside club inside → IsOpenSide cup seasons Outside club outside
      → IsClubFinding cup seasons club (finding_with inside outside)
  verdict_is (side.Refuted found) outside is other = (
    lost_is_true cup seasons club (key_parts found.key) _ is_cup results is.refuted,
    is,
  )
  verdict_is (side.Shown joint) (Shown last) is other = (
    (
      (group_finishes joint.ends, joint.lots, is.joint, is.on_side),
      (group_finishes last.ends, last.lots, other.joint, other.on_side),
    ),
    is,
    other,
  )
  verdict_is (side.Shown joint) (Spent group) is other = (
    (
      false,
      true,
      refl,
      has_example cup seasons Inside club joint is,
      has_spent cup seasons Outside club group other,
    ),
    refl,
    is,
    other,
  )
  verdict_is (side.Spent group) (Shown last) is other = (
    (
      true,
      false,
      refl,
      has_spent cup seasons Inside club group is,
      has_example cup seasons Outside club last other,
    ),
    refl,
    is,
    other,
  )
  verdict_is (side.Spent group) (Spent last) is other = (
    (
      true,
      true,
      refl,
      has_spent cup seasons Inside club group is,
      has_spent cup seasons Outside club last other,
    ),
    refl,
    is,
    other,
  )
