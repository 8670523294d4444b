use Rattle.std.proofs.Common.{arith}
use Rattle.par_check.proofs.PlaceLemmas.{reads_both, stops_then}
use Rattle.par_check.proofs.side_by_side.read_more.Goals as goal

pub read_both-requires : goal.read_both-requires
read_both-requires g c =
    omega (
      arith,
      c.requires.reads.1,
      c.in-Ok.ensures.1,
      c.in-Ok.ensures.0.next,
      c.requires.whole.few,
    )

pub returns-in-Ok : goal.returns-in-Ok
returns-in-Ok g c =
    reads_both c.args.whole.now.sheet.now c.args.whole.now.asks.now c.args.whole.now.lines.now
    c.args.from c.args.reached c.in-Ok.more c.read_both.result c.read_both.ensures c.requires.reads
    c.in-Ok.ensures

pub returns-in-Err : goal.returns-in-Err
returns-in-Err g c =
    stops_then c.args.whole.now.sheet.now c.args.whole.now.asks.now c.args.whole.now.lines.now
    c.args.from c.args.reached c.in-Err.stop c.requires.reads c.in-Err.ensures
