-- The text of a line is read as the line, by whoever reads a report.
use Rattle.std.proofs.Common.{◌≡◌, Some, ap}
use Rattle.cert_text.specs.declared.proof_line.ProofLine.{ProofLine}
use Rattle.cert_text.specs.Lines.{text_of_proof_line}
use Rattle.cert_text.specs.Forms.{line_in}
use Rattle.cert_text.proofs.ReadBackLemmas.{line_in-written}
use Rattle.line_tokens.specs.declared.token.Token.TheVariants.{Proof}
use Rattle.line_tokens.specs.Tokens.{token_of, token_of_line}
use Rattle.wide_lines.specs.WideTexts.{near_line_in, plain_or}
use Rattle.report_lines.specs.inside.WrittenLines.{IsWritable}

-- it is read as the line
pub line_in-text : (x : ProofLine) → IsWritable x → line_in (text_of_proof_line x) ≡ Some x
line_in-text x writable = line_in-written x writable.0 writable.1

-- a line of a report with this text is that line
pub token_of-text : (x : ProofLine) → IsWritable x → token_of (text_of_proof_line x) ≡ Proof x
token_of-text x writable =
    let text = text_of_proof_line x in
    ap (λ found. token_of_line (plain_or found (near_line_in text))) (line_in-text x writable)
