use Rattle.session_turns.proofs.AnswerLemmas.{work-kept}
use Rattle.session_turns.proofs.answer.work_out.Goals as goal

pub returns-in-Verdicts-clause-kept : goal.returns-in-Verdicts-clause-kept
returns-in-Verdicts-clause-kept c =
    work-kept c.args.pool c.finish.result c.finish.ensures.work c.finish.ensures.same
