use Rattle.tie_bound.proofs.AnswerSetLemmas.{answers_with}
use Rattle.tie_bound.proofs.answer_sets.Answers.with.Goals as goal

pub returns : goal.returns
returns c =
    answers_with c.args.self (record {
      above = c.with_if.result;
      below = c.with_if-2.result;
      level = c.with_if-3.result;
    }) c.args.club c.args.answer c.is_answer.result c.is_answer-2.result c.is_answer-3.result
    c.requires.nothing c.is_answer.ensures c.is_answer-2.ensures c.is_answer-3.ensures
    c.with_if.ensures c.with_if-2.ensures c.with_if-3.ensures
