-- The text of the verdicts given an outcome, and what goes out of it.
use Rattle.std.proofs.Common.{ℕ, false, List, [], ◌∷◌, ◌++◌, map, Option, Result, refl, subst}
use Rattle.std.specs.Prelude.{All}
use Rattle.std.proofs.lemmas.List.Elements.{All-head, All-tail}
use Rattle.league_core.specs.declared.sheet.Sheet.{Sheet}
use Rattle.league_core.specs.declared.zone.Literal.{Literal}
use Rattle.league_core.specs.game.Results.{Results}
use Rattle.cert_text.specs.Lines.{text_of_proof_line}
use Rattle.cert_text.specs.declared.proof_line.ProofLine.{ProofLine}
use Rattle.answer_rows.specs.declared.output.OutputStop.{OutputStop}
use Rattle.answer_rows.specs.declared.word.Word.{Word}
use Rattle.answer_rows.specs.declared.word.Word.TheVariants.{Clinched, Lost, Possible, Unsettled}
use Rattle.answer_rows.specs.declared.word.Verdict.{Verdict}
use Rattle.answer_rows.specs.Items.{AnswerRow, answer_row}
use Rattle.answer_rows.specs.Parts.{IsMadeOf}
use Rattle.answer_rows.specs.inside.ItemRanges.{lines_shown}
use Rattle.answer_rows.specs.inside.Outputs.{Puts, PutsSomeText}
use Rattle.answer_rows.specs.inside.Verdicts.{item_text, text_of_items}
use Rattle.what_if.specs.declared.outcome.Outcome.{Outcome}
use Rattle.what_if.specs.Bases.{base_of}
use Rattle.what_if.specs.Given.{IsItemGiven, IsShownGiven, AreVerdictsGiven}
use Rattle.what_if.specs.WhenTexts.{when_row, IsItemTextGiven, IsOutcomeText}
use Rattle.what_if.proofs.PartPutsLemmas.{puts_some}

-- no line follows a word that has none given a zone
lines_given : (sheet : Sheet) (season : Results) (zone : List Literal) (line club : ℕ)
    (word : Word) (lines : List ProofLine) → IsItemGiven sheet season zone line club word lines
    → IsItemGiven sheet season zone line club word (lines_shown false word lines)
lines_given sheet season zone line club Clinched lines item = (item.0, refl)
lines_given sheet season zone line club Lost lines item = (item.0, refl)
lines_given sheet season zone line club Possible lines item = item
lines_given sheet season zone line club Unsettled lines item = item

-- the items of verdicts that are right and shown
items_given : (sheet : Sheet) (season : Results) (zone : List Literal)
    (found : List (Verdict ProofLine))
    → All (IsShownGiven sheet season zone) found
    → IsMadeOf (IsItemTextGiven sheet season zone) (map answer_row found)
    (text_of_items text_of_proof_line false sheet found)
items_given sheet season zone [] shown = refl
items_given sheet season zone (verdict ∷ found) shown = (
  item_text text_of_proof_line false sheet verdict,
  text_of_items text_of_proof_line false sheet found,
  refl,
  (
    verdict.word,
    lines_shown false verdict.word verdict.proof.items,
    lines_given sheet season zone verdict.line verdict.club verdict.word verdict.proof.items
        (All-head (IsShownGiven sheet season zone) verdict found shown),
    refl,
  ),
  items_given sheet season zone found
      (All-tail (IsShownGiven sheet season zone) verdict found shown),
)

-- the text of the verdicts given an outcome
outcome_text_is : (sheet : Sheet) (season : Results) (epoch fixture : ℕ) (outcome : Outcome)
    (found : List (Verdict ProofLine)) → AreVerdictsGiven sheet season (base_of fixture outcome)
    found
    → IsOutcomeText sheet season epoch fixture outcome
    (when_row epoch fixture outcome ++ text_of_items text_of_proof_line false sheet found)
outcome_text_is sheet season epoch fixture outcome found are =
    let zone = base_of fixture outcome in
    let P : List AnswerRow → Type 0 = λ rows.
    IsMadeOf (IsItemTextGiven sheet season zone) rows
    (text_of_items text_of_proof_line false sheet found) in (
      text_of_items text_of_proof_line false sheet found,
      refl,
      subst P are.rows (items_given sheet season zone found are.each),
    )

-- the text of an outcome did
pub outcome_put : {A : Type 0} (sheet : Sheet) (season : Results) (epoch fixture : ℕ)
    (outcome : Outcome) (found : List (Verdict ProofLine)) (old now : Option (List ℕ))
    (result : Result A OutputStop)
    → AreVerdictsGiven sheet season (base_of fixture outcome) found
    → Puts (when_row epoch fixture outcome ++ text_of_items text_of_proof_line false sheet found)
    old now result
    → PutsSomeText (IsOutcomeText sheet season epoch fixture outcome) old now result
outcome_put {A} sheet season epoch fixture outcome found old now result are puts =
    puts_some (IsOutcomeText sheet season epoch fixture outcome)
    (when_row epoch fixture outcome ++ text_of_items text_of_proof_line false sheet found)
    old now result
    (outcome_text_is sheet season epoch fixture outcome found are) puts
