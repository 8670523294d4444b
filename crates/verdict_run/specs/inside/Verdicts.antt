-- What else holds of the verdicts of an answer: a great enough budget leaves nothing unsettled.
use Rattle.std.specs.Prelude.{◌≢◌, List, All}
use Rattle.league_core.specs.declared.sheet.Sheet.{Sheet}
use Rattle.league_core.specs.game.Results.{Results}
use Rattle.cert_text.specs.declared.proof_line.ProofLine.{ProofLine}
use Rattle.answer_rows.specs.declared.word.Word.TheVariants.{Unsettled}
use Rattle.answer_rows.specs.declared.word.Verdict.{Verdict}
use Rattle.verdict_run.specs.inside.Working.{IsEnough}

-- if the budget is great enough, no club is unsettled
abbrev pub AreKnownIfEnough : Sheet → Results → List (Verdict ProofLine) → Type 0
AreKnownIfEnough sheet season verdicts =
    IsEnough sheet season → All (λ (verdict : Verdict ProofLine). verdict.word ≢ Unsettled) verdicts
