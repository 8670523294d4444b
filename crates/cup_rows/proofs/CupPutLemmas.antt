-- Lines of cups go out row by row, and with the row of its verdict they are the item of a club.
use Rattle.std.proofs.Common.{◌≡◌, ℕ, Bool, List, ◌++◌, Option, Result, Ok, Err, refl, ap, ◌∙◌}
use Rattle.std.proofs.Common.{subst, inr}
use Rattle.std.specs.Io.KnownBytes.{append_known}
use Rattle.port_core.specs.Ports.{AppendsPrefix}
use Rattle.league_core.specs.game.Results.{Results}
use Rattle.answer_rows.specs.declared.output.OutputStop.{OutputStop}
use Rattle.answer_rows.specs.declared.output.OutputStop.TheVariants.{WriteFault, OutOfMemory}
use Rattle.answer_rows.specs.declared.word.Word.{Word}
use Rattle.answer_rows.specs.Rows.{verdict_row}
use Rattle.answer_rows.specs.inside.Outputs.{Puts, PutsSomeText}
use Rattle.answer_rows.proofs.OutputLemmas.{front-more, puts-behind}
use Rattle.cup_sheet.specs.declared.cup.Cup.{Cup}
use Rattle.cup_text.specs.declared.cup_line.CupLine.{CupLine}
use Rattle.cup_text.specs.CupItems.{cup_club_name}
use Rattle.cup_answers.specs.CupTexts.{ShowsInCup, IsCupItemText, text_of_cup_lines}

-- the row of a verdict, and what went out after it
pub rows_put : {A : Type 0} (cup : Cup) (club : ℕ) (word given : Word) (name : List ℕ)
    (lines : List CupLine) (old now next : Option (List ℕ)) (result : Result A OutputStop)
    → name ≡ cup_club_name cup club → given ≡ word
    → now ≡ append_known old (verdict_row cup.quota name given)
    → Puts (text_of_cup_lines lines) now next result
    → Puts (verdict_row cup.quota (cup_club_name cup club) word ++ text_of_cup_lines lines) old next
    result
rows_put {A} cup club word given name lines old now next result named is before puts =
    puts-behind (verdict_row cup.quota (cup_club_name cup club) word) (text_of_cup_lines lines) old
    now next result
    (before ∙ ap (λ (it : List ℕ). append_known old (verdict_row cup.quota it given)) named
    ∙ ap (λ (it : Word). append_known old (verdict_row cup.quota (cup_club_name cup club) it)) is)
    puts

-- or a prefix of that row
pub rows_front : (cup : Cup) (club : ℕ) (word given : Word) (name : List ℕ)
    (lines : List CupLine) (old now : Option (List ℕ)) → name ≡ cup_club_name cup club
    → given ≡ word → AppendsPrefix old now (verdict_row cup.quota name given)
    → AppendsPrefix old now
    (verdict_row cup.quota (cup_club_name cup club) word ++ text_of_cup_lines lines)
rows_front cup club word given name lines old now named is front =
    front-more (verdict_row cup.quota (cup_club_name cup club) word) (text_of_cup_lines lines) old
    now
    (subst (λ (it : Word). AppendsPrefix old now
    (verdict_row cup.quota (cup_club_name cup club) it)) is
    (subst (λ (it : List ℕ). AppendsPrefix old now (verdict_row cup.quota it given)) named front))

-- what went out is an item of the club, or a prefix of one
pub item_puts : {A : Type 0} (proofs : Bool) (cup : Cup) (seasons : List Results) (club : ℕ)
    (word : Word) (lines : List CupLine) (old now : Option (List ℕ)) (result : Result A OutputStop)
    → ShowsInCup proofs cup seasons club word lines
    → Puts (verdict_row cup.quota (cup_club_name cup club) word ++ text_of_cup_lines lines) old now
    result
    → PutsSomeText (IsCupItemText proofs cup seasons club) old now result
item_puts {A} proofs cup seasons club word lines old now (Ok done) shows puts = (
  verdict_row cup.quota (cup_club_name cup club) word ++ text_of_cup_lines lines,
  (word, lines, shows, refl),
  puts,
)
item_puts {A} proofs cup seasons club word lines old now (Err WriteFault) shows puts = (
  verdict_row cup.quota (cup_club_name cup club) word ++ text_of_cup_lines lines,
  (word, lines, shows, refl),
  puts,
)
item_puts {A} proofs cup seasons club word lines old now (Err OutOfMemory) shows puts = inr (
  verdict_row cup.quota (cup_club_name cup club) word ++ text_of_cup_lines lines,
  (word, lines, shows, refl),
  puts,
)
