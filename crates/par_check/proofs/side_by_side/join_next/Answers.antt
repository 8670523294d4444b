use Rattle.std.proofs.Common.{Ok, Err, arith}
use Rattle.par_check.proofs.PlaceLemmas.{reads_both, stops_then, reads_here}
use Rattle.par_check.proofs.side_by_side.join_next.Goals as goal

pub read_both-requires : goal.read_both-requires
read_both-requires c =
    let more = reads_here c.args.whole.now c.args.run.from c.args.reached.to c.args.run.ending
    (Ok c.in-Ok.more) c.requires.next c.in-Ok.is c.requires.judged in
    omega (arith, c.requires.reads.1, more.1, more.0.next, c.requires.whole.few)

pub returns-in-Ok : goal.returns-in-Ok
returns-in-Ok c =
    reads_both c.args.whole.now.sheet.now c.args.whole.now.asks.now c.args.whole.now.lines.now
    c.args.from c.args.reached c.in-Ok.more c.read_both.result c.read_both.ensures c.requires.reads
    (reads_here c.args.whole.now c.args.run.from c.args.reached.to c.args.run.ending
    (Ok c.in-Ok.more) c.requires.next c.in-Ok.is c.requires.judged)

pub returns-in-Err : goal.returns-in-Err
returns-in-Err c =
    stops_then c.args.whole.now.sheet.now c.args.whole.now.asks.now c.args.whole.now.lines.now
    c.args.from c.args.reached c.in-Err.stop c.requires.reads
    (reads_here c.args.whole.now c.args.run.from c.args.reached.to c.args.run.ending
    (Err c.in-Err.stop) c.requires.next c.in-Err.is c.requires.judged)
