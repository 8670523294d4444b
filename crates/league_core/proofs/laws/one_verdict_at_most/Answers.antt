use Rattle.league_core.proofs.OneVerdictLemmas.{possible_or_clinched, possible_or_lost}
use Rattle.league_core.proofs.OneVerdictLemmas.{clinched_or_lost}
use Rattle.league_core.proofs.laws.one_verdict_at_most.Goals as goal

pub returns-clause-possible_clinched : goal.returns-clause-possible_clinched
returns-clause-possible_clinched c = possible_or_clinched

pub returns-clause-possible_lost : goal.returns-clause-possible_lost
returns-clause-possible_lost c = possible_or_lost

pub returns-clause-clinched_lost : goal.returns-clause-clinched_lost
returns-clause-clinched_lost c = clinched_or_lost
