use Rattle.tie_bound.proofs.AnswerSetLemmas.{above_of}
use Rattle.tie_bound.proofs.answer_sets.Answers.those_above.Goals as goal

pub returns : goal.returns
returns c = above_of c.args.self
