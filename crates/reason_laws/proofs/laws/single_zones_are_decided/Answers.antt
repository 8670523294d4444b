use Rattle.reason_laws.proofs.BoxLemmas.{single_finish}
use Rattle.reason_laws.proofs.DecidedLemmas.{single_decided, single_decided_by_two}
use Rattle.reason_laws.proofs.laws.single_zones_are_decided.Goals as goal

pub returns-clause-one : goal.returns-clause-one
returns-clause-one c = single_finish

pub returns-clause-favoured : goal.returns-clause-favoured
returns-clause-favoured c = single_decided

pub returns-clause-drawn : goal.returns-clause-drawn
returns-clause-drawn c = single_decided_by_two
