use Rattle.std.proofs.Common.{arith}
use Rattle.par_check.proofs.AskLemmas.{epochs_in_order}
use Rattle.par_check.proofs.asks.advance.Goals as goal

pub play-requires-clause-order : goal.play-requires-clause-order
play-requires-clause-order c = omega (
  arith,
  epochs_in_order c.args.sheet.now c.args.asks.now c.args.ask c.requires.asks c.requires.in_range,
  c.epoch_before-from.ensures,
  c.epoch_at-to.ensures,
)
