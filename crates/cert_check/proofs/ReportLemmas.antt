-- The grammar of reports reads line by line what its parts are.
use Rattle.std.proofs.Common.{◌≡◌, true, false, [], ◌∷◌, refl, sym}
use Rattle.std.proofs.lemmas.Bool.{false≢true}
use Rattle.line_tokens.specs.declared.token.Token.{Token}
use Rattle.line_tokens.specs.declared.token.Token.TheVariants.{Blank, Row, Proof, Near, Unknown}
use Rattle.line_tokens.specs.Tokens.{counts}
use Rattle.cert_check.specs.LineGrammars.{go}
use Rattle.cert_check.specs.ExpectedItems.{Basis, Expected, after}
use Rattle.cert_check.specs.Machine.{is_unsettled_row, report_grammar}
use Rattle.cert_check.specs.inside.Grammar.{report_parts}
use Rattle.cert_check.specs.inside.Laws.{AcceptedPartsAreProved, ProvedPartsAreAccepted}
use Rattle.cert_check.specs.inside.Laws.{BadLinesDoNotFit, UnprovedLinesFit, ShortReportsBegin}
use Rattle.cert_check.proofs.PartLemmas.{join_part, part_parts}
use Rattle.cert_check.proofs.FillLemmas.{some_part}
use Rattle.cert_check.proofs.LinePartLemmas.{ReadsParts, taken_is_proved, proved_is_taken}
use Rattle.cert_check.proofs.LinePartLemmas.{bad_line_is, is_bad_line, no_proof_is, is_no_proof}
use Rattle.cert_check.proofs.LinePartLemmas.{short_is, is_short}

-- a line that is passed over leaves what is due
passed_over : (basis : Basis) (due : Expected) (token : Token) → counts token ≡ false
    → after basis due token ≡ go true (due ∷ [])
passed_over basis due Blank passed = refl
passed_over basis due (Row fields) passed = absurd (false≢true (sym passed))
passed_over basis due (Proof shown) passed = absurd (false≢true (sym passed))
passed_over basis due (Near rival fresh) passed = absurd (false≢true (sym passed))
passed_over basis due Unknown passed = absurd (false≢true (sym passed))

-- it is no row
no_row : (token : Token) → counts token ≡ false → is_unsettled_row token ≡ false
no_row Blank passed = refl
no_row (Row fields) passed = absurd (false≢true (sym passed))
no_row (Proof shown) passed = refl
no_row (Near rival fresh) passed = refl
no_row Unknown passed = refl

reads_parts : (basis : Basis) → ReadsParts report_parts basis
unfolding report_grammar
reads_parts basis = record {
  joins = λ proved due token holds more tokens. join_part proved basis due token holds more tokens;
  starts = λ proved due tokens. part_parts proved basis due tokens;
  some = some_part basis;
  passed = passed_over basis;
  no_row = no_row;
}

-- ---- the laws

pub accepted_is_proved : AcceptedPartsAreProved
unfolding report_grammar
accepted_is_proved basis = taken_is_proved report_parts basis (reads_parts basis)

pub proved_is_accepted : ProvedPartsAreAccepted
unfolding report_grammar
proved_is_accepted basis = proved_is_taken report_parts basis (reads_parts basis)

pub bad_lines : BadLinesDoNotFit
bad_lines basis tokens dues at unsettled place = (
  bad_line_is report_parts basis (reads_parts basis) tokens dues at unsettled place,
  is_bad_line report_parts basis (reads_parts basis) tokens dues at unsettled place,
)

pub unproved_lines : UnprovedLinesFit
unproved_lines basis tokens dues at unsettled place = (
  no_proof_is report_parts basis (reads_parts basis) tokens dues at unsettled place,
  is_no_proof report_parts basis (reads_parts basis) tokens dues at unsettled place,
)

pub short_reports : ShortReportsBegin
short_reports basis tokens dues at unsettled = (
  short_is report_parts basis (reads_parts basis) tokens dues at unsettled,
  is_short report_parts basis (reads_parts basis) tokens dues at unsettled,
)
