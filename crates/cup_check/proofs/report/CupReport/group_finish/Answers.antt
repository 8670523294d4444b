-- A score stops the reading.
use Rattle.std.proofs.Common.{◌++◌}
use Rattle.std.proofs.lemmas.Result.{err_from_is_err_and}
use Rattle.cert_check.proofs.GoesLemmas.{halts_along}
use Rattle.cup_grammar.specs.CupDues.{cup_scores_due}
use Rattle.cup_grammar.specs.CupReports.{cup_grammar}
use Rattle.cup_check.specs.inside.JointCalls.{group_scores_due}
use Rattle.cup_check.proofs.report.CupReport.group_finish.Goals as goal

pub returns-in_err-at : goal.returns-in_err-at
returns-in_err-at c =
    let gone = err_from_is_err_and c.from_residual-in_err-at.result
    c.from_residual-in_err-at.ensures.1 in
    rw (gone.1, gone.2)
    (λ claim club ended left many. halts_along cup_grammar c.args.self.now c.args.from
    c.loop-fixture.at
    (cup_scores_due claim club ended (c.args.group.now.season.scores ++ left))
    (group_scores_due claim club ended c.loop-fixture.fixture c.loop-fixture.finish.scores left)
    c.in_err-at.field-0.0
    (λ dues unsettled. c.loop-fixture.invariant.2 claim club ended left dues unsettled many)
    (c.in_err-at.ensures.goes claim club ended left many))
