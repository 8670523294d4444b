-- What the answer of a cup writes: the row of the ask, and then for each club, in the order of the
-- cup, the row of its verdict and the lines that show it. The line of a verdict is the quota. A
-- word is true, and a refutation is written only if proofs are asked for.
use Rattle.std.specs.Prelude.{◌≡◌, ℕ, Bool, true, false, List, [], ◌∷◌, ◌++◌}
use Rattle.std.specs.List.{flat_map, range_with_len}
use Rattle.league_core.specs.declared.question.Claim.{Claim}
use Rattle.league_core.specs.declared.question.Claim.TheVariants.{Inside, Outside}
use Rattle.league_core.specs.game.Results.{Results}
use Rattle.cup_sheet.specs.declared.cup.Cup.{Cup}
use Rattle.cup_sheet.specs.Cups.{clubs_together}
use Rattle.cup_sheet.specs.Qualifying.{IsClinchedInCup, IsLostInCup, IsPossibleInCup}
use Rattle.cup_text.specs.declared.cup_line.CupLine.{CupLine}
use Rattle.cup_text.specs.CupItems.{ArePossibleLines, AreUnsettledLines, IsRefutedAtTurn}
use Rattle.cup_text.specs.CupItems.{cup_club_name}
use Rattle.cup_text.specs.CupLines.{text_of_cup_line}
use Rattle.answer_rows.specs.declared.word.Word.{Word}
use Rattle.answer_rows.specs.declared.word.Word.TheVariants.{Clinched, Lost, Possible, Unsettled}
use Rattle.answer_rows.specs.Parts.{IsMadeOf}
use Rattle.answer_rows.specs.Rows.{ask_row, verdict_row}

-- ---- a word and its lines

-- if proofs are asked for, the lines refute the side; otherwise there are none
abbrev pub RefutesInCup : Bool → Cup → List Results → Claim → ℕ → List CupLine → Type 0
RefutesInCup true cup seasons claim club lines = IsRefutedAtTurn cup seasons claim club lines
RefutesInCup false cup seasons claim club lines = lines ≡ []

-- the word is true of the club, and the lines show what they have to show: clinched that it cannot
-- miss, lost that it cannot qualify, possible both sides, unsettled that the budget was spent
abbrev pub ShowsInCup : Bool → Cup → List Results → ℕ → Word → List CupLine → Type 0
ShowsInCup proofs cup seasons club Clinched lines =
    IsClinchedInCup cup seasons club × RefutesInCup proofs cup seasons Outside club lines
ShowsInCup proofs cup seasons club Lost lines =
    IsLostInCup cup seasons club × RefutesInCup proofs cup seasons Inside club lines
ShowsInCup proofs cup seasons club Possible lines =
    IsPossibleInCup cup seasons club × ArePossibleLines cup seasons club lines
ShowsInCup proofs cup seasons club Unsettled lines = AreUnsettledLines cup seasons club lines

-- ---- texts

-- a line alone on its row
abbrev pub cup_line_row : CupLine → List ℕ
cup_line_row line = text_of_cup_line line ++ 10 ∷ []

-- the lines as a text, each on a row of its own
abbrev pub text_of_cup_lines : List CupLine → List ℕ
text_of_cup_lines lines = flat_map cup_line_row lines

-- the item of a club: the row of its verdict, and then the lines that show it
abbrev pub IsCupItemText : Bool → Cup → List Results → ℕ → List ℕ → Type 0
IsCupItemText proofs cup seasons club text =
    (word : Word) × (lines : List CupLine) × ShowsInCup proofs cup seasons club word lines
    × (text ≡ verdict_row cup.quota (cup_club_name cup club) word ++ text_of_cup_lines lines)

-- the row of the ask, after so many events, and then the items of all clubs in the order of the cup
abbrev pub IsGroupsText : Bool → Cup → List Results → ℕ → List ℕ → Type 0
IsGroupsText proofs cup seasons epoch text =
    (items : List ℕ)
    × IsMadeOf (IsCupItemText proofs cup seasons) (range_with_len 0 (clubs_together cup.groups))
    items
    × (text ≡ ask_row epoch ++ items)
