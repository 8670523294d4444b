use Rattle.par_check.proofs.PlaceLemmas.{comes_to_stop}
use Rattle.par_check.proofs.report_check.read_whole.Goals as goal

pub returns-in-Err : goal.returns-in-Err
returns-in-Err g c =
    comes_to_stop c.args.whole.now.sheet.now c.args.whole.now.asks.now c.args.whole.now.lines.now
    c.in-Err.stop c.in-Err.ensures
