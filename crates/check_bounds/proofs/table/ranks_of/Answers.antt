use Rattle.check_bounds.proofs.TableLemmas.{ranks_none}
use Rattle.check_bounds.proofs.table.ranks_of.Goals as goal

pub loop-club-init : goal.loop-club-init
loop-club-init c = ranks_none c.args.sheet.now
