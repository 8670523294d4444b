use Rattle.league_core.proofs.GivenLemmas.{clinched_at_root, lost_at_root, possible_at_root}
use Rattle.league_core.proofs.given_laws.verdicts_given_nothing_are_the_seasons.Goals as goal

pub returns-clause-clinched : goal.returns-clause-clinched
returns-clause-clinched c = clinched_at_root

pub returns-clause-lost : goal.returns-clause-lost
returns-clause-lost c = lost_at_root

pub returns-clause-possible : goal.returns-clause-possible
returns-clause-possible c = possible_at_root
