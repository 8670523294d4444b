-- What the rows of a report on a cup mean, and that those of an accepted part are true of the
-- seasons.
use Rattle.std.specs.Prelude.{◌≡◌, ℕ, ◌+◌, List, [], ◌∷◌, ◌++◌, length, drop, filter, Bool, true}
use Rattle.std.specs.Prelude.{false}
use Rattle.std.specs.List.{range_with_len}
use Rattle.kept_lines.specs.LineLists.{NumberedLine}
use Rattle.line_tokens.specs.RowFields.{ask_fields, verdict_fields}
use Rattle.line_tokens.specs.declared.row_word.RowWord.{RowWord}
use Rattle.line_tokens.specs.declared.row_word.RowWord.TheVariants as word
use Rattle.cert_check.specs.LineGrammars.{whole_at}
use Rattle.cup_sheet.specs.Cups.{AreSeasonsOf, IsCup, clubs_together}
use Rattle.cup_sheet.specs.Qualifying.{IsClinchedInCup, IsLostInCup, IsPossibleInCup}
use Rattle.cup_laws.specs.inside.CupTruths.{AreCupResults}
use Rattle.cup_text.specs.CupItems.{cup_club_name}
use Rattle.cup_grammar.specs.declared.token.CupToken.{CupToken}
use Rattle.cup_grammar.specs.declared.token.CupToken.TheVariants.{Blank, Row, Proof, Unknown}
use Rattle.cup_grammar.specs.PlacedGroups.{CupBasis}
use Rattle.cup_grammar.specs.CupReports.{cup_part_ending, cup_tokens_of}

-- the line counts: it is not passed over
abbrev pub counts_in_cup : CupToken → Bool
counts_in_cup Blank = false
counts_in_cup (Row fields) = true
counts_in_cup (Proof line) = true
counts_in_cup Unknown = true

-- the lines without those that are passed over
abbrev pub counted_in_cup : List CupToken → List CupToken
counted_in_cup tokens = filter counts_in_cup tokens

-- what a word says of a club is so, whatever joint finish may come; an unsettled club is said
-- nothing of
abbrev pub IsSaidTrulyInCup : CupBasis → ℕ → RowWord → Type 0
IsSaidTrulyInCup basis club word.Clinched = IsClinchedInCup basis.cup basis.seasons club
IsSaidTrulyInCup basis club word.Lost = IsLostInCup basis.cup basis.seasons club
IsSaidTrulyInCup basis club word.Possible = IsPossibleInCup basis.cup basis.seasons club
IsSaidTrulyInCup basis club word.Unsettled = Unit {0}

-- the lines are the row of this club, which is true, and what comes after it
abbrev pub IsTrueClubRow : CupBasis → ℕ → List CupToken → Type 0
IsTrueClubRow basis club tokens =
    (word : RowWord) × (behind : List CupToken) × IsSaidTrulyInCup basis club word
    × (tokens ≡ Row (verdict_fields basis.cup.quota (cup_club_name basis.cup club) word) ∷ behind)

-- the lines are the rows of these clubs in their order, each with what comes after it, and each is
-- true
abbrev pub AreTrueClubRows : CupBasis → List ℕ → List CupToken → Type 0
AreTrueClubRows basis [] tokens = tokens ≡ []
AreTrueClubRows basis (club ∷ clubs) tokens =
    (own : List CupToken) × (later : List CupToken) × IsTrueClubRow basis club own
    × AreTrueClubRows basis clubs later × (tokens ≡ own ++ later)

-- the lines are the row of the ask, and then those of all clubs
abbrev pub IsTrueCupPart : CupBasis → List CupToken → Type 0
IsTrueCupPart basis tokens =
    (later : List CupToken) × (tokens ≡ Row (ask_fields basis.epoch) ∷ later)
    × AreTrueClubRows basis (range_with_len 0 (clubs_together basis.cup.groups)) later

-- the lines from one position up to another are such a part, some lines being passed over
abbrev pub SaysTrulyInCup : CupBasis → List NumberedLine → ℕ → ℕ → Type 0
SaysTrulyInCup basis lines from next =
    (taken : List CupToken) × (rest : List CupToken)
    × (drop from (cup_tokens_of lines) ≡ taken ++ rest) × (next ≡ from + length taken)
    × IsTrueCupPart basis (counted_in_cup taken)

-- the part of an ask that is read as whole is such a part, up to the position that is named
abbrev pub AcceptedCupPartsAreTrue : Type 0
AcceptedCupPartsAreTrue =
    (basis : CupBasis) (lines : List NumberedLine) (from next unsettled : ℕ) → IsCup basis.cup
    → AreSeasonsOf basis.cup.groups basis.seasons → AreCupResults basis.seasons
    → cup_part_ending basis lines from ≡ whole_at next unsettled
    → SaysTrulyInCup basis lines from next
