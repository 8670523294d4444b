use Rattle.tie_bound.proofs.AnswerSetLemmas.{open_answers}
use Rattle.tie_bound.proofs.answer_sets.Answers.open.Goals as goal

pub returns : goal.returns
returns c =
    open_answers (record {
      above = c.empty.result;
      below = c.empty-2.result;
      level = c.empty-3.result;
    }) c.empty.ensures c.empty-2.ensures c.empty-3.ensures
