use Rattle.par_check.proofs.PlaceLemmas.{ask_row_alone, ask_row_stops}
use Rattle.par_check.proofs.reading.read_own_row.Goals as goal

pub returns-in-Ok : goal.returns-in-Ok
returns-in-Ok c =
    ask_row_alone c.args.report.now c.args.from c.in-Ok.next c.in-Ok.ensures

pub returns-in-Err : goal.returns-in-Err
returns-in-Err c =
    ask_row_stops c.args.report.now c.args.from c.in-Err.stop c.in-Err.ensures
