use Rattle.std.proofs.Common.{length}
use Rattle.check_bounds.proofs.int_range.+look_range.Given as goal

abbrev pub decreases-look_range : goal.decreases-look_range
decreases-look_range l = length l.scores.now
