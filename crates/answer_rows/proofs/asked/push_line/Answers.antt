use Rattle.std.proofs.Common.{sym, append-nil}
use Rattle.answer_rows.specs.AskedQuestions.{questions_of_line}
use Rattle.answer_rows.proofs.AskedLemmas.{pair-push}
use Rattle.answer_rows.proofs.asked.push_line.Goals as goal

pub loop-club-init : goal.loop-club-init
unfolding questions_of_line
loop-club-init c = sym (append-nil c.args.asked.now.items)

pub loop-club-preserved : goal.loop-club-preserved
loop-club-preserved c =
    pair-push _ _ _ _ c.args.line c.loop-club.club _ _ c.loop-club.invariant
    c.in_ok-push.ensures.items c.in_ok-push-2.ensures.items c.full_question.ensures
    c.full_question-in-loop-club.ensures
