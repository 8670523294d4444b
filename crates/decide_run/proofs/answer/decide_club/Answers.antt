use Rattle.decide_run.proofs.WidePartLemmas.{clinched_by, right_by}
use Rattle.decide_run.proofs.answer.decide_club.Goals as goal

pub returns-in-Refuted-clause-right : goal.returns-in-Refuted-clause-right
returns-in-Refuted-clause-right c =
    clinched_by c.args.played.now.sheet c.args.played.now.season c.args.line c.args.club
    c.in_ok-outside.outside c.requires.club
    (rw c.full_question-other.ensures at c.in_ok-outside.ensures.part) c.in-Refuted.is

pub returns-clause-right : goal.returns-clause-right
returns-clause-right c =
    right_by c.args.played.now.sheet c.args.played.now.season c.args.line c.args.club
    c.in_ok-inside.inside c.in_ok-outside.outside c.in_ok-proof.proof c.word_of-word.result
    c.requires.club (rw c.full_question-question.ensures at c.in_ok-inside.ensures.part)
    (rw c.full_question-other.ensures at c.in_ok-outside.ensures.part)
    c.word_of-word.ensures c.in_ok-proof.ensures
