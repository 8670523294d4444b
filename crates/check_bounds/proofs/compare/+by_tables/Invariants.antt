use Rattle.std.proofs.Common.{length}
use Rattle.check_bounds.proofs.compare.+by_tables.Given as goal

abbrev pub decreases-by_tables : goal.decreases-by_tables
decreases-by_tables l = length l.tables.now
