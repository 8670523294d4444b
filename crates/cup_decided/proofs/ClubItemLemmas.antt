-- Each club has an item: by what stands for its two sides, a word that is true and lines for it.
use Rattle.std.proofs.Common.{◌<◌, inl, inr, ℕ, Bool, true, false, List, [], ◌++◌, refl}
use Rattle.league_core.specs.declared.question.Claim.{Claim}
use Rattle.league_core.specs.declared.question.Claim.TheVariants.{Inside, Outside}
use Rattle.league_core.specs.game.Results.{Results}
use Rattle.cup_sheet.specs.declared.cup.Cup.{Cup}
use Rattle.cup_sheet.specs.Cups.{IsCup, AreSeasonsOf, clubs_together}
use Rattle.cup_sheet.specs.CupAnswers.{HasCupExample}
use Rattle.cup_laws.specs.inside.CupTruths.{AreCupResults}
use Rattle.cup_laws.proofs.CupTruthLemmas.{clinched_is_true, lost_is_true}
use Rattle.cup_text.specs.declared.cup_line.CupLine.{CupLine}
use Rattle.cup_text.specs.CupItems.{IsRefutedAtTurn, joint_lines}
use Rattle.cup_answers.specs.CupTexts.{RefutesInCup, ShowsInCup}
use Rattle.answer_rows.specs.declared.word.Word.{Word}
use Rattle.answer_rows.specs.declared.word.Word.TheVariants.{Clinched, Lost, Possible}
use Rattle.cup_decided.proofs.TextTruthLemmas.{text_refutes}
use Rattle.cup_decided.proofs.SideDecidedLemmas.{side_decided}

-- a word and lines that may stand for the club
abbrev HasCupItem : Bool → Cup → List Results → ℕ → Type 0
HasCupItem proofs cup seasons club =
    (word : Word) × (lines : List CupLine) × ShowsInCup proofs cup seasons club word lines

-- lines that refute a side are what is written of it, or nothing is
lines_if_asked : (proofs : Bool) (cup : Cup) (seasons : List Results) (claim : Claim) (club : ℕ)
    (lines : List CupLine) → IsRefutedAtTurn cup seasons claim club lines
    → (written : List CupLine) × RefutesInCup proofs cup seasons claim club written
lines_if_asked true cup seasons claim club lines at = (lines, at)
lines_if_asked false cup seasons claim club lines at = ([], refl)

-- both sides are shown
possible_item : (proofs : Bool) (cup : Cup) (seasons : List Results) (club : ℕ)
    → HasCupExample cup seasons Inside club → HasCupExample cup seasons Outside club
    → HasCupItem proofs cup seasons club
possible_item proofs cup seasons club inside outside =
    let front = joint_lines Inside seasons inside.0 inside.1 in
    let back = joint_lines Outside seasons outside.0 outside.1 in (
      Possible,
      front ++ back,
      (
        (
          (inside.0, inside.1, inside.2.joint, inside.2.on_side),
          (outside.0, outside.1, outside.2.joint, outside.2.on_side),
        ),
        (
          front,
          back,
          (inside.0, inside.1, inside.2, refl),
          (outside.0, outside.1, outside.2, refl),
          refl,
        ),
      ),
    )

pub club_has_item : (proofs : Bool) (cup : Cup) (seasons : List Results) (club : ℕ) → IsCup cup
    → AreSeasonsOf cup.groups seasons → AreCupResults seasons → club < clubs_together cup.groups
    → (word : Word) × (lines : List CupLine) × ShowsInCup proofs cup seasons club word lines
club_has_item proofs cup seasons club is_cup each results within =
    elim (side_decided cup seasons Outside club is_cup each results within) as
    (λ _. HasCupItem proofs cup seasons club) [
      | inr at ↦
          let text = at.1.2 in
          let written = lines_if_asked proofs cup seasons Outside club at.0 at.1 in (
            Clinched,
            written.0,
            (
              clinched_is_true cup seasons club at.1.0 text.listed is_cup results
                  (text_refutes cup seasons Outside club at.1.0 at.0 text),
              written.1,
            ),
          )
      | inl outside ↦ elim (side_decided cup seasons Inside club is_cup each results within) as
          (λ _. HasCupItem proofs cup seasons club) [
            | inr at ↦
                let text = at.1.2 in
                let written = lines_if_asked proofs cup seasons Inside club at.0 at.1 in (
                  Lost,
                  written.0,
                  (
                    lost_is_true cup seasons club at.1.0 text.listed is_cup results
                        (text_refutes cup seasons Inside club at.1.0 at.0 text),
                    written.1,
                  ),
                )
            | inl inside ↦ possible_item proofs cup seasons club inside outside
          ]
    ]
