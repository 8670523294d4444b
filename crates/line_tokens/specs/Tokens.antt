-- What a line of a report is, read alone: a line that begins with `[` is a proof line, a near leaf
-- or nothing, any other is a record, a line with a CR inside is nothing, and one without a field is
-- passed over.
use Rattle.std.specs.Prelude.{ℕ, Bool, true, false, ◌==◌, List, [], ◌∷◌, Option, Some, None}
use Rattle.std.specs.Prelude.{filter, map, if◌then◌else◌}
use Rattle.fixture_sheet.specs.Fields.{has_return, record_of}
use Rattle.wide_lines.specs.declared.wide_line.WideLine.{WideLine}
use Rattle.wide_lines.specs.declared.wide_line.WideLine.TheVariants as wide
use Rattle.wide_lines.specs.WideTexts.{wide_line_in}
use Rattle.kept_lines.specs.LineLists.{NumberedLine}
use Rattle.line_tokens.specs.declared.token.Token.{Token}
use Rattle.line_tokens.specs.declared.token.Token.TheVariants.{Blank, Row, Proof, Near, Unknown}

-- the line counts: it is not passed over
abbrev pub counts : Token → Bool
counts Blank = false
counts (Row fields) = true
counts (Proof line) = true
counts (Near rival fresh) = true
counts Unknown = true

-- the lines without those that are passed over
abbrev pub counted_lines : List Token → List Token
counted_lines tokens = filter counts tokens

-- a proof line begins with a bracket
abbrev pub begins_proof : List ℕ → Bool
begins_proof [] = false
begins_proof (byte ∷ bytes) = byte == 91

-- what a wide line is
abbrev pub token_of_wide : WideLine → Token
token_of_wide (wide.Plain line) = Proof line
token_of_wide (wide.Near rival) = Near rival false
token_of_wide (wide.NewNear rival) = Near rival true

-- what a text that begins with a bracket is
abbrev pub token_of_line : Option WideLine → Token
token_of_line None = Unknown
token_of_line (Some line) = token_of_wide line

-- what a record is
abbrev pub token_of_record : Option (List (List ℕ)) → Token
token_of_record None = Blank
token_of_record (Some fields) = Row fields

-- what any other text is
abbrev pub token_of_row : List ℕ → Token
token_of_row text = if has_return text then Unknown else token_of_record (record_of text)

-- what the content of a line is
abbrev pub token_of : List ℕ → Token
token_of text = if begins_proof text then token_of_line (wide_line_in text) else token_of_row text

-- what each line is
abbrev pub tokens_of : List NumberedLine → List Token
tokens_of lines = map (λ line. token_of line.text) lines
