-- Proof lines as they are written, and what they are read as.
use Rattle.std.specs.Prelude.{◌≡◌, IsTrue, Some}
use Rattle.cert_text.specs.declared.proof_line.ProofLine.{ProofLine}
use Rattle.cert_text.specs.Ranges.{is_in_range}
use Rattle.cert_text.specs.inside.Widths.{is_line_kept}
use Rattle.cert_text.specs.Lines.{text_of_proof_line}
use Rattle.cert_text.specs.Forms.{line_in}
use Rattle.line_tokens.specs.declared.token.Token.TheVariants.{Proof}
use Rattle.line_tokens.specs.Tokens.{token_of}

-- a line can be written: its numbers are such as its form has, and its sets such as a type keeps
abbrev pub IsWritable : ProofLine → Type 0
IsWritable line = IsTrue (is_in_range line) × IsTrue (is_line_kept line)

-- the text of a line is read as that line
abbrev pub WrittenLinesReadBack : Type 0
WrittenLinesReadBack =
    (line : ProofLine) → IsWritable line → line_in (text_of_proof_line line) ≡ Some line

-- a line of a report with this text is that line
abbrev pub WrittenLinesAreTokens : Type 0
WrittenLinesAreTokens =
    (line : ProofLine) → IsWritable line → token_of (text_of_proof_line line) ≡ Proof line
