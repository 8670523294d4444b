use Rattle.std.proofs.Common.{◌≡◌, ◌+◌, ◌∷◌, drop, subst}
use Rattle.std.specs.Prelude.{IfOk}
use Rattle.line_tokens.specs.declared.token.Token.{Token}
use Rattle.cert_check.specs.inside.Calls.{ReportView}
use Rattle.cert_check.proofs.report.Report.token.Goals as goal

pub returns : goal.returns
returns c =
    let P : ReportView → Type 0 = λ it. IfOk c.token_at.result
    (λ (token : Token). drop c.args.at it.tokens ≡ token ∷ drop (c.args.at + 1) it.tokens) in
    subst P c.self.view_is c.token_at.ensures
