-- That a word is the same with proofs and without: what shows it without proofs is what shows it
-- with them, but for refutations. The statement is the contract of a function of src/laws.rt that
-- does nothing.
use Rattle.std.specs.Prelude.{ℕ, true, false, List}
use Rattle.league_core.specs.game.Results.{Results}
use Rattle.cup_sheet.specs.declared.cup.Cup.{Cup}
use Rattle.cup_text.specs.declared.cup_line.CupLine.{CupLine}
use Rattle.answer_rows.specs.declared.word.Word.{Word}
use Rattle.answer_rows.specs.inside.ItemRanges.{lines_shown}
use Rattle.cup_answers.specs.CupTexts.{ShowsInCup}

-- a word and lines with proofs are an item without them, if the lines of refutations are left out
abbrev pub CupItemsWithoutProofs : Type 0
CupItemsWithoutProofs =
    (cup : Cup) (seasons : List Results) (club : ℕ) (word : Word) (lines : List CupLine)
    → ShowsInCup true cup seasons club word lines
    → ShowsInCup false cup seasons club word (lines_shown false word lines)
