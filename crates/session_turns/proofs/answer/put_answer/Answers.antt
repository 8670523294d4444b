use Rattle.session_turns.proofs.AnswerLemmas.{answers-stopped, answers-worked}
use Rattle.session_turns.proofs.answer.put_answer.Goals as goal

pub returns-in-Ok-put_worked-clause-answer : goal.returns-in-Ok-put_worked-clause-answer
returns-in-Ok-put_worked-clause-answer g c =
    λ saved kept.
    let knows = c.in-Ok.ensures.kept saved kept in
    answers-worked c.args.mode c.args.pool c.in-Ok.pool c.args.about saved _ _ c.in-Ok.ensures.same
    knows (c.in-Ok-put_worked.ensures.answer saved knows)

pub returns-in-Err-clause-answer : goal.returns-in-Err-clause-answer
returns-in-Err-clause-answer g c =
    λ saved kept.
    answers-stopped c.args.mode c.args.pool c.in-Ok.pool c.args.about saved _ _ c.in-Err.stop
    c.in-Ok.ensures.same (c.in-Err.ensures.answer saved (c.in-Ok.ensures.kept saved kept))
