use Rattle.cup_laws.proofs.CupTruthLemmas.{clinched_is_true, lost_is_true}
use Rattle.cup_laws.proofs.laws.answers_of_cups_are_true.Goals as goal

pub returns-clause-clinched : goal.returns-clause-clinched
returns-clause-clinched c = clinched_is_true

pub returns-clause-lost : goal.returns-clause-lost
returns-clause-lost c = lost_is_true
