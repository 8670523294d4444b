use Rattle.cup_grammar.proofs.CupRowLemmas.{accepted_is_true}
use Rattle.cup_grammar.proofs.laws.accepted_cup_parts_are_true.Goals as goal

pub returns : goal.returns
returns c = accepted_is_true
