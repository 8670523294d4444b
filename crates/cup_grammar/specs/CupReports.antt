-- A report on a cup read line by line, by the grammar of the lines that may come.
use Rattle.std.specs.Prelude.{ℕ, Bool, false, List, [], ◌∷◌, map, drop, bytes_eq, codes, get_or}
use Rattle.std.specs.Prelude.{if◌then◌else◌, Option, Some, None}
use Rattle.std.specs.List.{range_with_len}
use Rattle.kept_lines.specs.LineLists.{NumberedLine}
use Rattle.line_tokens.specs.Tokens.{begins_proof, token_of_row}
use Rattle.line_tokens.specs.declared.token.Token.{Token}
use Rattle.line_tokens.specs.declared.token.Token.TheVariants as row
use Rattle.cert_check.specs.LineGrammars.{LineGrammar, Ending, ending_by}
use Rattle.cup_sheet.specs.declared.cup.Cup.{Cup}
use Rattle.cup_sheet.specs.Cups.{clubs_together}
use Rattle.cup_text.specs.declared.cup_line.CupLine.{CupLine}
use Rattle.cup_text.specs.CupForms.{cup_line_in}
use Rattle.cup_grammar.specs.declared.token.CupToken.{CupToken}
use Rattle.cup_grammar.specs.declared.token.CupToken.TheVariants.{Blank, Row, Proof, Unknown}
use Rattle.cup_grammar.specs.PlacedGroups.{CupBasis}
use Rattle.cup_grammar.specs.CupDues.{CupDue, ask_row, club_row}
use Rattle.cup_grammar.specs.CupExpected.{after_in_cup}

-- ---- what a line is

-- what a text that begins with a bracket is
abbrev pub token_of_cup_line : Option CupLine → CupToken
token_of_cup_line None = Unknown
token_of_cup_line (Some line) = Proof line

-- what any other text is, which is no proof line
abbrev pub cup_token_of_row : Token → CupToken
cup_token_of_row row.Blank = Blank
cup_token_of_row (row.Row fields) = Row fields
cup_token_of_row _ = Unknown

-- what the content of a line is
abbrev pub cup_token_of : List ℕ → CupToken
cup_token_of text =
    if begins_proof text then token_of_cup_line (cup_line_in text)
    else cup_token_of_row (token_of_row text)

-- what each line is
abbrev pub cup_tokens_of : List NumberedLine → List CupToken
cup_tokens_of lines = map (λ line. cup_token_of line.text) lines

-- ---- what the lines come to

-- the line is the row of a club that is not settled
abbrev pub is_unsettled_club : CupToken → Bool
is_unsettled_club Blank = false
is_unsettled_club (Row fields) = bytes_eq (get_or fields 3 []) (codes "unsettled")
is_unsettled_club (Proof it) = false
is_unsettled_club Unknown = false

-- the grammar of reports on cups
unfoldable pub cup_grammar : LineGrammar CupBasis CupToken CupDue
cup_grammar = record { after = after_in_cup; is_unsettled = is_unsettled_club }

-- what an answer is made of: the row of the ask, and then that of each club, in the order of the
-- cup
abbrev pub part_of_cup_ask : Cup → List CupDue
part_of_cup_ask cup = ask_row ∷ map club_row (range_with_len 0 (clubs_together cup.groups))

-- what lines from a position on come to if this is due, with so many unsettled clubs so far
abbrev pub cup_ending_of : CupBasis → List CupToken → List CupDue → ℕ → ℕ → Ending
cup_ending_of basis tokens dues at unsettled =
    ending_by cup_grammar basis tokens dues at unsettled

-- what the lines from a position on come to as the part of one ask
abbrev pub cup_part_ending : CupBasis → List NumberedLine → ℕ → Ending
cup_part_ending basis lines from =
    cup_ending_of basis (drop from (cup_tokens_of lines)) (part_of_cup_ask basis.cup) from 0
