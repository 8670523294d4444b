use Rattle.std.proofs.Common.{arith}
use Rattle.std.proofs.lemmas.Grind.{common_steps}
use Rattle.check_bounds.proofs.compare.+are_apart.Goals as goal

pub returns-then-found-own : goal.returns-then-found-own
returns-then-found-own n c = grind (arith, common_steps)

pub returns-else-found-own : goal.returns-else-found-own
returns-else-found-own n c = grind (arith, common_steps)
