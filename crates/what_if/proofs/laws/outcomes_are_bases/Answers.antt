use Rattle.what_if.proofs.BaseFinishLemmas.{base_has_finish}
use Rattle.what_if.proofs.BaseLemmas.{outcome_is_base}
use Rattle.what_if.proofs.laws.outcomes_are_bases.Goals as goal

pub returns-clause-bases : goal.returns-clause-bases
returns-clause-bases c = outcome_is_base

pub returns-clause-finish : goal.returns-clause-finish
returns-clause-finish c = base_has_finish
