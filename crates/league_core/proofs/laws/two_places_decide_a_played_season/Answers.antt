use Rattle.league_core.proofs.VerdictLemmas.{clinched_by_worst_place, lost_by_best_place}
use Rattle.league_core.proofs.VerdictLemmas.{example_inside, example_outside}
use Rattle.league_core.proofs.laws.two_places_decide_a_played_season.Goals as goal

pub returns-clause-clinched : goal.returns-clause-clinched
returns-clause-clinched c = clinched_by_worst_place

pub returns-clause-lost : goal.returns-clause-lost
returns-clause-lost c = lost_by_best_place

pub returns-clause-inside : goal.returns-clause-inside
returns-clause-inside c = example_inside

pub returns-clause-outside : goal.returns-clause-outside
returns-clause-outside c = example_outside
