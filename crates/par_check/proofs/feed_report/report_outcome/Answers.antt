use Rattle.par_check.specs.Checked.{ending_in, rows_in}
use Rattle.par_check.specs.FeedAsks.{outcome_of_ending}
use Rattle.cert_check.specs.Outcomes.{first_progress, outcome_from}
use Rattle.cert_check.specs.inside.InputCalls.{report_read}
use Rattle.par_check.proofs.FeedAskLemmas.{report_comes, stop_comes, accepted_comes, comes_as}
use Rattle.par_check.proofs.feed_report.report_outcome.Goals as goal

pub returns-in-Ok : goal.returns-in-Ok
returns-in-Ok g c =
    let sheet = c.args.sheet.now in
    let told = c.args.told.now in
    let asks = c.in_ok-asks.asks in
    let report = report_read c.args.kind sheet told in
    let rows = rows_in sheet asks in
    let ending = ending_in sheet asks told.lines in
    comes_as c.ended.result (outcome_of_ending report rows ending)
    (outcome_from report c.args.entries.now (first_progress sheet))
    (accepted_comes report rows ending c.in-Ok.accepted c.ended.result c.in-Ok.ensures.same
    c.ended.ensures)
    (report_comes c.args.kind sheet c.args.entries.now asks told (c.in_ok-asks.ensures {u =
    tt}).bases)

pub returns : goal.returns
returns g c =
    let sheet = c.args.sheet.now in
    let told = c.args.told.now in
    let asks = c.in_ok-asks.asks in
    let report = report_read c.args.kind sheet told in
    let rows = rows_in sheet asks in
    let ending = ending_in sheet asks told.lines in
    comes_as c.refused_by.result (outcome_of_ending report rows ending)
    (outcome_from report c.args.entries.now (first_progress sheet))
    (stop_comes report rows ending c.in-Err.stop c.refused_by.result c.in-Err.ensures.same
    c.refused_by.ensures)
    (report_comes c.args.kind sheet c.args.entries.now asks told (c.in_ok-asks.ensures {u =
    tt}).bases)
