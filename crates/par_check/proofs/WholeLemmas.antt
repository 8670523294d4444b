-- Both readings of a report are the same.
use Rattle.std.proofs.Common.{◌≡◌, ℕ, List, Result, subst}
use Rattle.league_core.specs.declared.sheet.Sheet.{Sheet}
use Rattle.cert_check.specs.declared.stop.Accepted.{Accepted}
use Rattle.cert_check.specs.declared.stop.CheckStop.{CheckStop}
use Rattle.kept_lines.specs.LineLists.{NumberedLine}
use Rattle.line_tokens.specs.Tokens.{tokens_of}
use Rattle.cert_check.specs.LineGrammars.{Ending}
use Rattle.par_check.specs.declared.asks.Asks.{Asks}
use Rattle.par_check.specs.Cuts.{bases_in}
use Rattle.par_check.specs.Checked.{AnswersSo, ending_in, first_stop_in}
use Rattle.par_check.proofs.StopLemmas.{first_stop_told}

-- reading ask after ask comes to the first stop
pub same_ending : (sheet : Sheet) (asks : Asks) (lines : List NumberedLine)
    → ending_in sheet asks lines ≡ first_stop_in sheet asks lines
same_ending sheet asks lines = first_stop_told (tokens_of lines) (bases_in sheet asks)

pub first_answers : (sheet : Sheet) (asks : Asks) (lines : List NumberedLine) (rows : ℕ)
    (result : Result Accepted CheckStop)
    → AnswersSo lines rows (ending_in sheet asks lines) result
    → AnswersSo lines rows (first_stop_in sheet asks lines) result
first_answers sheet asks lines rows result so =
    let P : Ending → Type 0 = λ it. AnswersSo lines rows it result in
    subst P (same_ending sheet asks lines) so
