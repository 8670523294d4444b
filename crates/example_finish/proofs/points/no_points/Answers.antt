use Rattle.example_finish.proofs.ProposedPointLemmas.{at_zeros}
use Rattle.example_finish.proofs.points.no_points.Goals as goal

pub returns-clause-none : goal.returns-clause-none
returns-clause-none c = λ club. at_zeros 24 club
