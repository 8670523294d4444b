use Rattle.cert_check.proofs.ExampleLemmas.{lots_end, lots_fail}
use Rattle.cert_check.proofs.report.Report.lots.Goals as goal

pub returns-then-branch : goal.returns-then-branch
returns-then-branch c =
    lots_end c.args.self.now c.args.from c.in_ok-at.at c.in_ok-at.token c.in_ok-at.ensures
    c.args.question c.args.finish.now c.in_ok-drawn.field-0 c.in-Some.drawn
    c.in_ok-holds-in-Some.field-0 c.requires.deductions c.in_ok-drawn.ensures.lots c.in-Some.is
    c.in_ok-holds-in-Some.ensures c.if-branch.true

pub returns-in-Some : goal.returns-in-Some
returns-in-Some c =
    lots_fail c.args.self.now c.args.from c.in_ok-at.at c.in_ok-at.token c.in_ok-at.ensures
    c.args.question c.args.finish.now c.in_ok-drawn.field-0 c.in-Some.drawn
    c.in_ok-holds-in-Some.field-0 c.requires.deductions c.in_ok-drawn.ensures.lots c.in-Some.is
    c.in_ok-holds-in-Some.ensures c.if-branch.false
