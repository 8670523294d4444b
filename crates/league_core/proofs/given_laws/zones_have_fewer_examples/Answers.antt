use Rattle.league_core.proofs.GivenLemmas.{nowhere_without_example, none_anywhere}
use Rattle.league_core.proofs.GivenLemmas.{possible_anywhere}
use Rattle.league_core.proofs.given_laws.zones_have_fewer_examples.Goals as goal

pub returns-clause-nowhere : goal.returns-clause-nowhere
returns-clause-nowhere c = nowhere_without_example

pub returns-clause-stays : goal.returns-clause-stays
returns-clause-stays c = none_anywhere

pub returns-clause-possible : goal.returns-clause-possible
returns-clause-possible c = possible_anywhere
