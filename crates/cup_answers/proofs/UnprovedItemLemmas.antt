-- An item with proofs is one without them, if the lines of refutations are left out.
use Rattle.std.proofs.Common.{ℕ, true, false, List, refl}
use Rattle.league_core.specs.game.Results.{Results}
use Rattle.cup_sheet.specs.declared.cup.Cup.{Cup}
use Rattle.cup_text.specs.declared.cup_line.CupLine.{CupLine}
use Rattle.answer_rows.specs.declared.word.Word.{Word}
use Rattle.answer_rows.specs.declared.word.Word.TheVariants.{Clinched, Lost, Possible, Unsettled}
use Rattle.answer_rows.specs.inside.ItemRanges.{lines_shown}
use Rattle.cup_answers.specs.CupTexts.{ShowsInCup}

-- by the word
pub cup_item_without : (cup : Cup) (seasons : List Results) (club : ℕ) (word : Word)
    (lines : List CupLine) → ShowsInCup true cup seasons club word lines
    → ShowsInCup false cup seasons club word (lines_shown false word lines)
cup_item_without cup seasons club Clinched lines shown = (shown.0, refl)
cup_item_without cup seasons club Lost lines shown = (shown.0, refl)
cup_item_without cup seasons club Possible lines shown = shown
cup_item_without cup seasons club Unsettled lines shown = shown
