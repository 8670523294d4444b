use Rattle.answer_laws.proofs.DecidedLemmas.{example_met}
use Rattle.answer_laws.proofs.completeness.examples_can_be_met.Goals as goal

pub returns : goal.returns
returns c = example_met
