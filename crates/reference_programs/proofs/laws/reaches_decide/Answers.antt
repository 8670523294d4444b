use Rattle.reference_programs.proofs.ReachLemmas.{clinched_by_worst, lost_by_best}
use Rattle.reference_programs.proofs.ReachLemmas.{best_shows_inside}
use Rattle.reference_programs.proofs.ReachLemmas.{worst_shows_outside}
use Rattle.reference_programs.proofs.laws.reaches_decide.Goals as goal

pub returns-clause-clinched : goal.returns-clause-clinched
returns-clause-clinched c = clinched_by_worst

pub returns-clause-lost : goal.returns-clause-lost
returns-clause-lost c = lost_by_best

pub returns-clause-inside : goal.returns-clause-inside
returns-clause-inside c = best_shows_inside

pub returns-clause-outside : goal.returns-clause-outside
returns-clause-outside c = worst_shows_outside
