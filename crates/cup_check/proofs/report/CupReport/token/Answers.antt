-- What the line at a position is, is in the range of its form.
use Rattle.std.proofs.Common.{◌≡◌, ◌+◌, ◌∷◌, drop, subst, Result, Ok, Err, ℕ, List}
use Rattle.std.specs.Prelude.{IfOk, IsTrue}
use Rattle.league_core.specs.declared.memory.OutOfMemory.{OutOfMemory}
use Rattle.kept_lines.specs.LineLists.{NumberedLine}
use Rattle.cup_grammar.specs.declared.token.CupToken.{CupToken}
use Rattle.cup_grammar.specs.CupReports.{cup_tokens_of}
use Rattle.cup_grammar.specs.inside.CupParts.{is_token_in_range}
use Rattle.cup_grammar.proofs.ReadLineLemmas.{line_is_read}
use Rattle.cup_check.specs.inside.CupGoes.{CupReportView}
use Rattle.cup_check.proofs.report.CupReport.token.Goals as goal

kept : (lines : List NumberedLine) (at : ℕ) (result : Result CupToken OutOfMemory)
    → IfOk result
    (λ token. drop at (cup_tokens_of lines) ≡ token ∷ drop (at + 1) (cup_tokens_of lines))
    → IfOk result (λ token. IsTrue (is_token_in_range token))
kept lines at (Ok token) there =
    line_is_read lines at token (drop (at + 1) (cup_tokens_of lines)) there
kept lines at (Err stop) there = tt

pub returns-clause-there : goal.returns-clause-there
returns-clause-there c =
    let P : CupReportView → Type 0 = λ it. IfOk c.cup_token_at.result
    (λ (token : CupToken). drop c.args.at it.tokens ≡ token ∷ drop (c.args.at + 1) it.tokens) in
    subst P c.self.view_is c.cup_token_at.ensures

pub returns-clause-ranges : goal.returns-clause-ranges
returns-clause-ranges c =
    kept c.self.inside.lines.now c.args.at c.cup_token_at.result c.cup_token_at.ensures
