use Rattle.cert_check.proofs.OutcomeLemmas.{end-accepted, end-refused}
use Rattle.par_check.specs.FeedAsks.{standing_at_end}
use Rattle.std.proofs.Common.{◌∙◌, sym}
use Rattle.cert_check.specs.declared.outcome.CheckOutcome.TheVariants.{Accepted}
use Rattle.par_check.proofs.feed_report.ended.Goals as goal

pub returns-in-Err : goal.returns-in-Err
returns-in-Err c =
    end-refused (standing_at_end c.args.accepted) c.args.told.now.lines c.args.told.now.end
    c.in-Err.stop c.refused_by.result c.in-Err.ensures c.refused_by.ensures

pub returns-in-Ok : goal.returns-in-Ok
returns-in-Ok c =
    (λ i. Accepted (c.from.ensures i) (c.from-in-Ok.ensures i))
    ∙ sym (end-accepted (standing_at_end c.args.accepted) c.args.told.now.lines c.in-Ok.ensures)
