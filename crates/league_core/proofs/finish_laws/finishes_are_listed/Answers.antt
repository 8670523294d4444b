use Rattle.league_core.proofs.FinishListLemmas.{finishes_listed, length-finishes_of, finish_at}
use Rattle.league_core.proofs.finish_laws.finishes_are_listed.Goals as goal

pub returns-clause-listed : goal.returns-clause-listed
returns-clause-listed c = finishes_listed

pub returns-clause-counted : goal.returns-clause-counted
returns-clause-counted c = length-finishes_of

pub returns-clause-numbered : goal.returns-clause-numbered
returns-clause-numbered c = finish_at
