use Rattle.std.proofs.Common.{length}
use Rattle.check_bounds.proofs.tie_rounds.+take_sums.Given as goal

abbrev pub decreases-take_sums : goal.decreases-take_sums
decreases-take_sums l = length l.kinds.now
