use Rattle.std.proofs.Common.{length}
use Rattle.par_check.proofs.ToldLemmas.{told_by_items}
use Rattle.par_check.proofs.cutting.cut.Goals as goal

pub returns-clause-items : goal.returns-clause-items
returns-clause-items c =
    told_by_items c.args.sheet.now c.args.asks.now c.args.lines.now c.in_ok-read.read.items.items
    (length c.args.asks.now.epochs.items) c.requires.asks.limits c.in_ok-read.ensures.within
    c.in_ok-read.ensures.judged
