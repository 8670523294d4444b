-- What the rows of a report mean, and that those of an accepted part are true of the season.
use Rattle.std.specs.Prelude.{◌≡◌, ℕ, true, List, [], ◌∷◌, ◌++◌}
use Rattle.league_core.specs.game.Verdicts.{IsClinched, IsLost, IsPossible}
use Rattle.line_tokens.specs.declared.token.Token.{Token}
use Rattle.line_tokens.specs.declared.token.Token.TheVariants.{Row}
use Rattle.line_tokens.specs.declared.row_word.RowWord.{RowWord}
use Rattle.line_tokens.specs.declared.row_word.RowWord.TheVariants.{Clinched, Lost, Possible}
use Rattle.line_tokens.specs.declared.row_word.RowWord.TheVariants.{Unsettled}
use Rattle.cert_check.specs.ExpectedItems.{Basis, Expected, ask_row, verdict_row}
use Rattle.line_tokens.specs.RowFields.{ask_fields}
use Rattle.line_tokens.specs.RowFields.{verdict_fields}
use Rattle.line_tokens.specs.LineRanges.{name_of_club}
use Rattle.cert_check.specs.Machine.{part_of_ask}
use Rattle.cert_check.specs.inside.Grammar.{AreParts}

-- what a word says of a line and a club is so, whatever finish and lots may come; an unsettled club
-- is said nothing of
abbrev pub IsSaidTruly : Basis → ℕ → ℕ → RowWord → Type 0
IsSaidTruly basis line club Clinched = IsClinched basis.sheet basis.season club line
IsSaidTruly basis line club Lost = IsLost basis.sheet basis.season club line
IsSaidTruly basis line club Possible = IsPossible basis.sheet basis.season club line
IsSaidTruly basis line club Unsettled = Unit {0}

-- the lines are these rows in their order, each with what comes after it, and each is true
abbrev pub AreTrueRows : Basis → List Expected → List Token → Type 0
AreTrueRows basis [] tokens = tokens ≡ []
AreTrueRows basis (ask_row ∷ dues) tokens =
    (later : List Token) × (tokens ≡ Row (ask_fields basis.epoch) ∷ later)
    × AreTrueRows basis dues later
AreTrueRows basis (verdict_row line club ∷ dues) tokens =
    (word : RowWord) × (behind : List Token) × (later : List Token)
    × IsSaidTruly basis line club word
    × (tokens ≡ Row (verdict_fields line (name_of_club basis.sheet club) word) ∷ (behind ++ later))
    × AreTrueRows basis dues later
AreTrueRows basis (_ ∷ dues) tokens = ⊥

-- if lines prove the part of an ask, each of its rows is true
abbrev pub ProvedRowsAreTrue : Type 0
ProvedRowsAreTrue =
    (basis : Basis) (tokens : List Token) → AreParts true basis (part_of_ask basis.sheet) tokens
    → AreTrueRows basis (part_of_ask basis.sheet) tokens
