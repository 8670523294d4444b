use Rattle.what_if.proofs.StepLemmas.{asks-unplayed}
use Rattle.what_if.proofs.step_laws.lines_ask_about_unplayed_fixtures.Goals as goal

pub returns : goal.returns
returns c = asks-unplayed
