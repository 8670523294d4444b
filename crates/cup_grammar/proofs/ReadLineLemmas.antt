-- A line of a report that was read is in the range of its form.
use Rattle.std.proofs.Common.{◌≡◌, ℕ, Bool, true, false, List, ◌∷◌, Option, Some, None, refl, subst}
use Rattle.std.proofs.Common.{arith, get_or}
use Rattle.std.specs.Prelude.{All, drop, if◌then◌else◌}
use Rattle.std.proofs.lemmas.List.Elements.{All-drop, All-map}
use Rattle.kept_lines.specs.LineLists.{NumberedLine}
use Rattle.line_tokens.specs.Tokens.{begins_proof, token_of_row}
use Rattle.line_tokens.specs.declared.token.Token.{Token}
use Rattle.line_tokens.specs.declared.token.Token.TheVariants as row
use Rattle.cup_text.specs.CupForms.{cup_line_in}
use Rattle.cup_text.specs.declared.cup_line.CupLine.{CupLine}
use Rattle.cup_text.proofs.ReadRangeLemmas.{read_in_range}
use Rattle.cup_grammar.specs.declared.token.CupToken.{CupToken}
use Rattle.cup_grammar.specs.CupReports.{cup_token_of, cup_token_of_row, cup_tokens_of}
use Rattle.cup_grammar.specs.CupReports.{token_of_cup_line}
use Rattle.cup_grammar.specs.inside.CupParts.{IsReadInCup}

-- a proof line
proof_is_read : (text : List ℕ) (found : Option CupLine) → cup_line_in text ≡ found
    → IsReadInCup (token_of_cup_line found)
proof_is_read text None is = refl
proof_is_read text (Some it) is = read_in_range text it is

-- any other line has no such numbers
row_is_read : (found : Token) → IsReadInCup (cup_token_of_row found)
row_is_read row.Blank = refl
row_is_read (row.Row fields) = refl
row_is_read (row.Proof it) = refl
row_is_read (row.Near rival fresh) = refl
row_is_read row.Unknown = refl

-- whatever the text is
text_is_read : (text : List ℕ) → IsReadInCup (cup_token_of text)
text_is_read text = by_test (begins_proof text)
  where
    by_test : (test : Bool) → IsReadInCup (if test then token_of_cup_line (cup_line_in text)
        else cup_token_of_row (token_of_row text))
    by_test true = proof_is_read text (cup_line_in text) refl
    by_test false = row_is_read (token_of_row text)

-- all lines from a position on
pub lines_are_read : (lines : List NumberedLine) (from : ℕ)
    → All IsReadInCup (drop from (cup_tokens_of lines))
lines_are_read lines from =
    All-drop IsReadInCup from (cup_tokens_of lines)
    (All-map IsReadInCup (λ (it : NumberedLine). cup_token_of it.text) lines
    (λ k d within. text_is_read (get_or lines k d).text))

-- the line at a position
pub line_is_read : (lines : List NumberedLine) (place : ℕ) (token : CupToken)
    (rest : List CupToken) → drop place (cup_tokens_of lines) ≡ token ∷ rest → IsReadInCup token
line_is_read lines place token rest there =
    subst (All IsReadInCup) there (lines_are_read lines place) 0 token (omega arith)
