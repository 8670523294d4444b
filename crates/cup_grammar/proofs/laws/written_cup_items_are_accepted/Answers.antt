use Rattle.cup_grammar.proofs.WrittenItemLemmas.{item_accepted}
use Rattle.cup_grammar.proofs.laws.written_cup_items_are_accepted.Goals as goal

pub returns : goal.returns
returns c = item_accepted
