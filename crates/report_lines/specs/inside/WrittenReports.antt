-- What an answer with proofs is written as, line by line, and what a report has of these bytes.
use Rattle.std.specs.Prelude.{◌≡◌, ◌≢◌, ◌⊎◌, ℕ, ◌<◌, ◌^◌, Bool, not, ◌&&◌, ◌==◌, IsTrue}
use Rattle.std.specs.Prelude.{List, [], ◌∷◌, ◌++◌, map, Ok}
use Rattle.std.specs.List.{list_all, flat_map}
use Rattle.port_core.specs.Lines.{lines_of}
use Rattle.port_core.specs.Contents.{Position, contents_from}
use Rattle.cert_text.specs.Lines.{text_of_proof_line}
use Rattle.cert_text.specs.Ranges.{is_club_number}
use Rattle.cert_text.specs.Rows.{text_of_row}
use Rattle.wide_lines.specs.WideTexts.{text_of_near}
use Rattle.line_tokens.specs.declared.token.Token.{Token}
use Rattle.line_tokens.specs.declared.token.Token.TheVariants.{Blank, Row, Proof, Near, Unknown}
use Rattle.line_tokens.specs.declared.row_word.RowWord.{RowWord}
use Rattle.line_tokens.specs.RowFields.{ask_fields, verdict_fields}
use Rattle.line_tokens.specs.Tokens.{tokens_of}
use Rattle.kept_lines.specs.LineLists.{numbered}
use Rattle.report_lines.specs.inside.WrittenLines.{IsWritable}

-- the byte is neither a line feed nor a carriage return
abbrev pub is_within_line : ℕ → Bool
is_within_line byte = not (byte == 10) && not (byte == 13)

-- so is each of these
abbrev pub are_within_line : List ℕ → Bool
are_within_line bytes = list_all is_within_line bytes

-- the bytes of a line of an answer: a row as csv writes it, or the text of a proof line and a line
-- feed
abbrev pub written : Token → List ℕ
written Blank = []
written (Row fields) = text_of_row fields
written (Proof line) = text_of_proof_line line ++ 10 ∷ []
written (Near rival fresh) = text_of_near fresh rival ++ 10 ∷ []
written Unknown = []

-- the row of an ask
abbrev pub IsAskRead : List (List ℕ) → Type 0
IsAskRead fields = (epoch : ℕ) × (epoch < 2 ^ 64) × (fields ≡ ask_fields epoch)

-- the row of a verdict about a club whose name ends no line
abbrev pub IsVerdictRead : List (List ℕ) → Type 0
IsVerdictRead fields =
    (line : ℕ) × (name : List ℕ) × (word : RowWord) × (line < 2 ^ 64)
    × IsTrue (are_within_line name) × (fields ≡ verdict_fields line name word)

-- a line that an answer may have
abbrev pub IsLineRead : Token → Type 0
IsLineRead Blank = ⊥
IsLineRead (Row fields) = IsAskRead fields ⊎ IsVerdictRead fields
IsLineRead (Proof line) = IsWritable line
IsLineRead (Near rival fresh) = IsTrue (is_club_number rival)
IsLineRead Unknown = ⊥

-- so is each of these
abbrev pub AreRead : List Token → Type 0
AreRead [] = Unit {0}
AreRead (first ∷ told) = IsLineRead first × AreRead told

-- if an input is read to its end after its first line, and what is left of it are the bytes of
-- these lines, the report has these lines and no other
abbrev pub WrittenReportsReadBack : Type 0
WrittenReportsReadBack =
    (told : List Token) (position : Position) (lines : List (ℕ × List ℕ)) (end : ℕ)
    → AreRead told → position.lines ≢ 0
    → contents_from position (lines_of (flat_map written told))
    ≡ record { lines = lines; ending = Ok end }
    → tokens_of (map numbered lines) ≡ told
