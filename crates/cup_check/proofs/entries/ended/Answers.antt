use Rattle.std.proofs.Common.{sym}
use Rattle.cert_check.specs.Outcomes.{ReportProgressView}
use Rattle.cert_check.proofs.OutcomeLemmas.{end-accepted, end-refused}
use Rattle.cup_check.proofs.entries.ended.Goals as goal

pub returns-in-Err : goal.returns-in-Err
returns-in-Err c =
    let seen : ReportProgressView = record {
      season = c.standing.inside.season;
      epoch = c.standing.inside.epoch;
      at = c.standing.inside.at;
      rows = c.standing.inside.rows;
      unsettled = c.standing.inside.unsettled;
    } in
    rw (← c.standing.view_is)
    (end-refused seen c.args.told.now.lines c.args.told.now.end
    c.in-Err.stop c.refused_by.result c.in-Err.ensures c.refused_by.ensures)

pub returns-in-Ok : goal.returns-in-Ok
returns-in-Ok c =
    let seen : ReportProgressView = record {
      season = c.standing.inside.season;
      epoch = c.standing.inside.epoch;
      at = c.standing.inside.at;
      rows = c.standing.inside.rows;
      unsettled = c.standing.inside.unsettled;
    } in
    rw (← c.standing.view_is)
    (sym (end-accepted seen c.args.told.now.lines c.in-Ok.ensures))
