-- A report read line by line, by the grammar of the lines that may come.
use Rattle.std.specs.Prelude.{ℕ, ◌+◌, Bool, false, List, [], ◌∷◌, bytes_eq, codes, get_or}
use Rattle.std.specs.Prelude.{if◌then◌else◌, map, drop}
use Rattle.std.specs.List.{flat_map}
use Rattle.league_core.specs.declared.sheet.Sheet.{Sheet}
use Rattle.league_core.specs.game.Sheets.{clubs_of}
use Rattle.league_core.specs.game.Results.{Results}
use Rattle.line_tokens.specs.declared.token.Token.{Token}
use Rattle.line_tokens.specs.declared.token.Token.TheVariants.{Blank, Row, Proof, Near, Unknown}
use Rattle.cert_check.specs.declared.expected.ReportKind.{ReportKind}
use Rattle.cert_check.specs.LineGrammars.{LineGrammar, Ending, ending_by}
use Rattle.cert_check.specs.ExpectedItems.{Basis, Expected, ask_row, verdict_row}
use Rattle.cert_check.specs.ExpectedItems.{after}
use Rattle.kept_lines.specs.LineLists.{NumberedLine}
use Rattle.line_tokens.specs.Tokens.{tokens_of}

-- the line is the row of an unsettled club
abbrev pub is_unsettled_row : Token → Bool
is_unsettled_row Blank = false
is_unsettled_row (Row fields) = bytes_eq (get_or fields 3 []) (codes "unsettled")
is_unsettled_row (Proof it) = false
is_unsettled_row (Near rival fresh) = false
is_unsettled_row Unknown = false

-- one more, if the line is such a row
abbrev pub with_unsettled : ℕ → Token → ℕ
with_unsettled unsettled token = if is_unsettled_row token then unsettled + 1 else unsettled

-- the grammar of reports, by what a part is judged by
unfoldable pub report_grammar : LineGrammar Basis Token Expected
report_grammar = record { after = after; is_unsettled = is_unsettled_row }

-- what the lines from a position on come to if this is due, with so many unsettled rows so far
abbrev pub ending_of : Basis → List Token → List Expected → ℕ → ℕ → Ending
ending_of basis tokens dues at unsettled =
    ending_by report_grammar basis tokens dues at unsettled

-- the rows of a line, one for each of these clubs
abbrev pub rows_on_line : List ℕ → ℕ → List Expected
rows_on_line clubs line = map (verdict_row line) clubs

-- the rows of an answer: for each line in the sheet's order, for each club in the sheet's order
abbrev pub rows_of : Sheet → List Expected
rows_of sheet = flat_map (rows_on_line (clubs_of sheet)) sheet.lines

-- what an answer is made of: the row of the ask, and then the verdicts
abbrev pub part_of_ask : Sheet → List Expected
part_of_ask sheet = ask_row ∷ rows_of sheet

-- the kind of a report, and the sheet, the season and the epoch of an ask, as a basis
abbrev pub basis_of : ReportKind → Sheet → Results → ℕ → Basis
basis_of kind sheet season epoch =
    record { kind = kind; sheet = sheet; season = season; epoch = epoch }

-- what the lines from a position on come to as the part of one ask
abbrev pub part_ending : Basis → List NumberedLine → ℕ → Ending
part_ending basis lines from =
    ending_of basis (drop from (tokens_of lines)) (part_of_ask basis.sheet) from 0
