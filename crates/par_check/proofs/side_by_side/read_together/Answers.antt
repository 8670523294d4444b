use Rattle.par_check.proofs.PlaceLemmas.{reads_none}
use Rattle.par_check.proofs.side_by_side.read_together.Goals as goal

pub loop-batch-init : goal.loop-batch-init
loop-batch-init g c = record {
  reads = reads_none c.args.whole.now.sheet.now c.args.whole.now.asks.now c.args.whole.now.lines.now
      c.args.from c.requires.from;
}
