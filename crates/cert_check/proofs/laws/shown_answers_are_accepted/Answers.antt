use Rattle.cert_check.proofs.AnswerLemmas.{answer_accepted}
use Rattle.cert_check.proofs.laws.shown_answers_are_accepted.Goals as goal

pub returns : goal.returns
returns c = answer_accepted
