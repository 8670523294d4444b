use Rattle.std.proofs.Common.{arith}
use Rattle.std.proofs.lemmas.Grind.{common_steps}
use Rattle.flow_bound.proofs.network.add_club.Goals as goal

pub returns-then-not-has-clause-cut : goal.returns-then-not-has-clause-cut
returns-then-not-has-clause-cut c = grind (arith, common_steps)

pub returns-then-weight-gt0-clause-cut : goal.returns-then-weight-gt0-clause-cut
returns-then-weight-gt0-clause-cut c = grind (arith, common_steps)

pub returns-else-weight-gt0-clause-cut : goal.returns-else-weight-gt0-clause-cut
returns-else-weight-gt0-clause-cut c = grind (arith, common_steps)
