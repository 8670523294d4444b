use Rattle.std.proofs.Common.{◌≡◌, ◌≤◌, ◌∙◌, ℕ, List, ◌∷◌, length, ap, arith}
use Rattle.std.proofs.lemmas.Result.{err_from_is_err_and}
use Rattle.cert_check.specs.ExpectedItems.{Expected, whole_example, lots}
use Rattle.cert_check.specs.Machine.{report_grammar}
use Rattle.cert_check.specs.inside.Calls.{ending_from, example_due}
use Rattle.cert_check.proofs.GoesLemmas.{halts_along, goes_along}
use Rattle.cert_check.proofs.ExampleLemmas.{example_due-end}
use Rattle.cert_check.proofs.report.Report.example.Goals as goal

pub returns-in_err-at : goal.returns-in_err-at
returns-in_err-at c =
    let gone = err_from_is_err_and c.from_residual-in_err-at.result
    c.from_residual-in_err-at.ensures.1 in
    rw (gone.1, gone.2)
    (halts_along report_grammar c.args.self.now c.args.from c.loop-fixture.at
    (whole_example c.args.self.now.basis c.args.question)
    (example_due c.args.question c.loop-fixture.fixture c.loop-fixture.finish.scores)
    c.in_err-at.field-0.0 c.loop-fixture.invariant.3 (c.in_err-at.ensures.goes c.args.question))

pub returns : goal.returns
returns c =
    let scores = c.loop-fixture.finish.scores in
    let all : length scores ≤ c.loop-fixture.fixture = omega
    (arith, c.loop-fixture.invariant.1, c.fixtures-fixture-end.ensures.season) in
    let way : (dues : List Expected) (unsettled : ℕ) → ending_from c.args.self.now c.args.from
    (whole_example c.args.self.now.basis c.args.question ∷ dues) unsettled
    ≡ ending_from c.args.self.now c.loop-fixture.at (lots c.args.question scores ∷ dues) unsettled =
    λ dues unsettled. c.loop-fixture.invariant.3 dues unsettled
    ∙ ap (λ due. ending_from c.args.self.now c.loop-fixture.at (due ∷ dues) unsettled)
    (example_due-end c.args.question c.loop-fixture.fixture scores all) in
    goes_along report_grammar c.args.self.now c.args.from c.loop-fixture.at
    (whole_example c.args.self.now.basis c.args.question) (lots c.args.question scores)
    c.lots.result way c.lots.ensures
