use Rattle.what_if.proofs.StepLemmas.{other-same}
use Rattle.what_if.proofs.step_laws.other_lines_are_read_as_in_every_feed.Goals as goal

pub returns : goal.returns
returns c = other-same
