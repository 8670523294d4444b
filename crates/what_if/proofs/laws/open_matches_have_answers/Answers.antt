use Rattle.what_if.proofs.WhenLemmas.{when_there}
use Rattle.what_if.proofs.laws.open_matches_have_answers.Goals as goal

pub returns : goal.returns
returns c = when_there
