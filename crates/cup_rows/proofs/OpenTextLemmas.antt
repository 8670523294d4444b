-- The lines of a side that is not refuted are those of an answer, and so are all lines of what is
-- found of a club.
use Rattle.std.proofs.Common.{◌≡◌, ℕ, ◌+◌, ℤ, true, List, ◌∷◌, ◌++◌, map, refl, sym, ap, ◌∙◌}
use Rattle.league_core.specs.declared.question.Claim.{Claim}
use Rattle.league_core.specs.declared.question.Claim.TheVariants.{Inside, Outside}
use Rattle.league_core.specs.game.Results.{Results}
use Rattle.club_keys.specs.inside.KeyEnds.{key_parts}
use Rattle.cup_sheet.specs.declared.cup.Cup.{Cup}
use Rattle.cup_sheet.specs.declared.question.GroupKind.{GroupKind}
use Rattle.cup_sheet.specs.declared.question.GroupKind.TheVariants.{Top, Below, SecondLess}
use Rattle.cup_sheet.specs.declared.question.GroupKind.TheVariants.{SecondAtLeast, SecondMore}
use Rattle.cup_sheet.specs.declared.question.GroupKind.TheVariants.{SecondAtMost}
use Rattle.cup_sheet.specs.Cups.{IsCup}
use Rattle.cup_groups.specs.declared.seat.ClubSeat.{ClubSeat}
use Rattle.cup_groups.specs.inside.ClubSeats.{IsSeatOf}
use Rattle.cup_groups.specs.inside.KindQuestions.{asked_key, group_question_of}
use Rattle.cup_groups.specs.GroupStarts.{start_of_group}
use Rattle.group_search.specs.inside.GroupTasks.{new_group_tree}
use Rattle.cup_text.specs.declared.cup_line.CupLine.TheVariants as line
use Rattle.cup_text.specs.CupItems.{ArePossibleLines, AreUnsettledLines, IsSpentText, IsCupPartText}
use Rattle.cup_text.specs.CupItems.{joint_lines, key_of_question}
use Rattle.runners_up.specs.declared.finding.ClubFinding.{ClubFinding}
use Rattle.runners_up.specs.declared.finding.ClubFinding.TheVariants.{Clinched, Lost, Possible}
use Rattle.runners_up.specs.declared.finding.ClubFinding.TheVariants.{Unsettled}
use Rattle.runners_up.specs.declared.finding.OpenSide.{OpenSide}
use Rattle.runners_up.specs.declared.finding.OpenSide.TheVariants.{Shown, Spent}
use Rattle.runners_up.specs.declared.joint.JointFinish.{JointFinish}
use Rattle.runners_up.specs.declared.survey.OpenGroup.{OpenGroup}
use Rattle.runners_up.specs.inside.ClubFindings.{IsClubFinding, IsOpenSide, IsSideSpentBy}
use Rattle.runners_up.specs.inside.ClubFindings.{is_spent_side}
use Rattle.runners_up.specs.inside.JointEnds.{group_finishes}
use Rattle.cup_answers.specs.CupTexts.{ShowsInCup}
use Rattle.cup_rows.specs.inside.GroupTreeLines.{spent_node_line}
use Rattle.cup_rows.specs.inside.VerdictLines.{open_group_lines, open_side_lines, verdict_lines}
use Rattle.cup_rows.specs.inside.VerdictLines.{word_of_finding}
use Rattle.cup_rows.proofs.RefutedTextLemmas.{side_refuted_text}
use Rattle.cup_rows.proofs.TreeLineLemmas.{marked_tree-lines}

-- the key that is written is the one that is asked about
key_of_asked : (kind : GroupKind) (key : List ℤ)
    → key_of_question kind key ≡ key_of_question kind (asked_key kind key)
key_of_asked Top key = refl
key_of_asked Below key = refl
key_of_asked SecondLess key = refl
key_of_asked SecondAtLeast key = refl
key_of_asked SecondMore key = refl
key_of_asked SecondAtMost key = refl

module _ (cup : Cup) (seasons : List Results) where
  spent_text : (claim : Claim) (club : ℕ) (group : OpenGroup)
      → IsSideSpentBy cup seasons claim club group
      → IsSpentText cup seasons claim club (open_group_lines cup group)
  spent_text claim club group is =
      let asked = group.spent.question in
      let start = start_of_group cup.groups group.group in
      let number : ℕ = start.club + asked.club in (
        group.group,
        is.state,
        is.there,
        group_question_of asked,
        new_group_tree is.cases,
        is.spent,
        ap (λ key. line.Spent asked.kind number key
            ∷ map (spent_node_line start) group.spent.nodes.items)
            (key_of_asked asked.kind (key_parts asked.key))
            ∙ ap (λ lines. line.Spent asked.kind number
            (key_of_question asked.kind (asked_key asked.kind (key_parts asked.key))) ∷ lines)
            (ap (map (spent_node_line start)) (sym is.nodes)
            ∙ marked_tree-lines start is.cases),
      )

  part_text : (claim : Claim) (club : ℕ) (side : OpenSide) → IsOpenSide cup seasons claim club side
      → IsCupPartText cup seasons claim club (is_spent_side side)
      (open_side_lines cup seasons claim side)
  part_text claim club (Shown joint) is = (group_finishes joint.ends, joint.lots, is, refl)
  part_text claim club (Spent group) is = spent_text claim club group is

  pub possible_text : (club : ℕ) (inside outside : JointFinish)
      → IsClubFinding cup seasons club (Possible inside outside)
      → ArePossibleLines cup seasons club
      (joint_lines Inside seasons (group_finishes inside.ends) inside.lots
      ++ joint_lines Outside seasons (group_finishes outside.ends) outside.lots)
  possible_text club inside outside is = (
    joint_lines Inside seasons (group_finishes inside.ends) inside.lots,
    joint_lines Outside seasons (group_finishes outside.ends) outside.lots,
    part_text Inside club (Shown inside) is.1,
    part_text Outside club (Shown outside) is.2,
    refl,
  )

  pub unsettled_text : (club : ℕ) (inside outside : OpenSide)
      → IsClubFinding cup seasons club (Unsettled inside outside)
      → AreUnsettledLines cup seasons club
      (open_side_lines cup seasons Inside inside ++ open_side_lines cup seasons Outside outside)
  unsettled_text club inside outside is = (
    is_spent_side inside,
    is_spent_side outside,
    is.1,
    (
      open_side_lines cup seasons Inside inside,
      open_side_lines cup seasons Outside outside,
      part_text Inside club inside is.2,
      part_text Outside club outside is.3,
      refl,
    ),
  )

  -- what is found of a club
  pub found_shown : (club : ℕ) (seat : ClubSeat) (found : ClubFinding) → IsCup cup
      → IsSeatOf cup club seat → IsClubFinding cup seasons club found
      → ShowsInCup true cup seasons club (word_of_finding found)
      (verdict_lines cup seasons seat found)
  found_shown club seat (Clinched found) is_cup at is =
      (is.0, side_refuted_text cup seasons Outside club seat found is_cup at is.1)
  found_shown club seat (Lost found) is_cup at is =
      (is.0, side_refuted_text cup seasons Inside club seat found is_cup at is.1)
  found_shown club seat (Possible inside outside) is_cup at is =
      (is.0, possible_text club inside outside is)
  found_shown club seat (Unsettled inside outside) is_cup at is =
      unsettled_text club inside outside is
