use Rattle.what_if.proofs.GivenLemmas.{item_given_nothing}
use Rattle.what_if.proofs.laws.items_given_nothing_are_the_seasons.Goals as goal

pub returns : goal.returns
returns c = item_given_nothing
