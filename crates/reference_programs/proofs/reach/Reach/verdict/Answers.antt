use Rattle.std.proofs.Common.{arith}
use Rattle.reference_programs.proofs.ReachLemmas.{clinched_by_worst, lost_by_best}
use Rattle.reference_programs.proofs.ReachLemmas.{best_shows_inside, worst_shows_outside}
use Rattle.reference_programs.proofs.reach.Reach.verdict.Goals as goal

pub returns-then-self-line-clause-meaning : goal.returns-then-self-line-clause-meaning
returns-then-self-line-clause-meaning c = λ sheet season club limits results below is.
    clinched_by_worst sheet season club c.args.line c.args.self.now is (omega arith)

pub returns-then-line-self-clause-meaning : goal.returns-then-line-self-clause-meaning
returns-then-line-self-clause-meaning c = λ sheet season club limits results below is.
    lost_by_best sheet season club c.args.line c.args.self.now is (omega arith)

pub returns-else-line-self-clause-meaning : goal.returns-else-line-self-clause-meaning
returns-else-line-self-clause-meaning c = λ sheet season club limits results below is. (
  best_shows_inside sheet season club c.args.line c.args.self.now limits results below is
      (omega arith),
  worst_shows_outside sheet season club c.args.line c.args.self.now limits results below is
      (omega arith),
)
