use Rattle.cup_grammar.proofs.WrittenAnswerLemmas.{answer_in_cup_accepted}
use Rattle.cup_grammar.proofs.laws.written_cup_answers_are_accepted.Goals as goal

pub returns : goal.returns
returns c = answer_in_cup_accepted
