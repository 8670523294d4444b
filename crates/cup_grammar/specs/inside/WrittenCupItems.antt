-- What an answer on a cup writes of a club with proofs is read as whole, and so is all of the
-- answer. Each statement is the contract of a function of src/laws.rt that does nothing.
use Rattle.std.specs.Prelude.{◌≡◌, ℕ, ◌+◌, ℤ, List, [], ◌∷◌, ◌++◌, length, map}
use Rattle.std.specs.List.{range_with_len}
use Rattle.league_core.specs.declared.question.Claim.TheVariants.{Inside, Outside}
use Rattle.line_tokens.specs.RowFields.{ask_fields, verdict_fields}
use Rattle.line_tokens.specs.declared.row_word.RowWord.{RowWord}
use Rattle.line_tokens.specs.declared.row_word.RowWord.TheVariants as word
use Rattle.cert_check.specs.LineGrammars.{whole_at}
use Rattle.cert_check.specs.inside.Calls.{unsettled_in}
use Rattle.cup_sheet.specs.Cups.{AreSeasonsOf, IsCup, clubs_together}
use Rattle.cup_laws.specs.inside.CupTruths.{AreCupResults}
use Rattle.cup_text.specs.CupItems.{ArePossibleLines, AreUnsettledLines, IsRefutedText}
use Rattle.cup_text.specs.CupItems.{cup_club_name}
use Rattle.cup_text.specs.declared.cup_line.CupLine.{CupLine}
use Rattle.cup_grammar.specs.declared.token.CupToken.{CupToken}
use Rattle.cup_grammar.specs.declared.token.CupToken.TheVariants.{Proof, Row}
use Rattle.cup_grammar.specs.PlacedGroups.{CupBasis}
use Rattle.cup_grammar.specs.CupDues.{CupDue, club_row}
use Rattle.cup_grammar.specs.CupReports.{cup_ending_of, part_of_cup_ask}

-- what is written with proofs after the row of a word
abbrev pub IsWrittenOfClub : CupBasis → ℕ → RowWord → List CupLine → Type 0
IsWrittenOfClub basis club word.Clinched lines =
    (key : List ℤ) × IsRefutedText basis.cup basis.seasons Outside club key lines
IsWrittenOfClub basis club word.Lost lines =
    (key : List ℤ) × IsRefutedText basis.cup basis.seasons Inside club key lines
IsWrittenOfClub basis club word.Possible lines =
    ArePossibleLines basis.cup basis.seasons club lines
IsWrittenOfClub basis club word.Unsettled lines =
    AreUnsettledLines basis.cup basis.seasons club lines

-- the lines of a club: its row, and what comes after it
abbrev pub item_in_cup : CupBasis → ℕ → RowWord → List CupLine → List CupToken
item_in_cup basis club said lines =
    Row (verdict_fields basis.cup.quota (cup_club_name basis.cup club) said) ∷ map Proof lines

-- where the row of a club is due, what is written of it is read as whole, and the reading goes on
-- behind it
abbrev pub WrittenCupItemsAreAccepted : Type 0
WrittenCupItemsAreAccepted =
    (basis : CupBasis) (club : ℕ) (said : RowWord) (lines : List CupLine) (rest : List CupToken)
    (dues : List CupDue) (at unsettled : ℕ) → IsCup basis.cup
    → AreSeasonsOf basis.cup.groups basis.seasons → AreCupResults basis.seasons
    → IsWrittenOfClub basis club said lines
    → cup_ending_of basis (item_in_cup basis club said lines ++ rest) (club_row club ∷ dues) at
    unsettled
    ≡ cup_ending_of basis rest dues (at + length (item_in_cup basis club said lines))
    (unsettled + unsettled_in said)

-- the lines are those of these clubs, one after another, with so many unsettled ones
abbrev pub AreWrittenClubs : CupBasis → List ℕ → List CupToken → ℕ → Type 0
AreWrittenClubs basis [] tokens unsettled = (tokens ≡ []) × (unsettled ≡ 0)
AreWrittenClubs basis (club ∷ clubs) tokens unsettled =
    (said : RowWord) × (lines : List CupLine) × (later : List CupToken) × (left : ℕ)
    × IsWrittenOfClub basis club said lines × AreWrittenClubs basis clubs later left
    × (tokens ≡ item_in_cup basis club said lines ++ later)
    × (unsettled ≡ unsettled_in said + left)

-- the row of an ask with the lines of all clubs is read as its whole part, whatever follows, and
-- its unsettled rows are counted
abbrev pub WrittenCupAnswersAreAccepted : Type 0
WrittenCupAnswersAreAccepted =
    (basis : CupBasis) (tokens rest : List CupToken) (at unsettled : ℕ) → IsCup basis.cup
    → AreSeasonsOf basis.cup.groups basis.seasons → AreCupResults basis.seasons
    → AreWrittenClubs basis (range_with_len 0 (clubs_together basis.cup.groups)) tokens unsettled
    → cup_ending_of basis (Row (ask_fields basis.epoch) ∷ (tokens ++ rest))
    (part_of_cup_ask basis.cup) at 0
    ≡ whole_at (at + 1 + length tokens) unsettled
