-- One group after the other, and then the lots.
use Rattle.std.proofs.Common.{◌<◌, ◌≤◌, ◌+◌, List, arith, length, subst, sym}
use Rattle.std.proofs.lemmas.Result.{err_from_is_err_and}
use Rattle.league_core.specs.game.Results.{Results}
use Rattle.cup_grammar.specs.CupDues.{lots, scores_of_groups}
use Rattle.cup_check.specs.inside.CupGoes.{GoesInCup}
use Rattle.cup_check.specs.inside.JointCalls.{HaveScoresOver}
use Rattle.cup_check.proofs.JointCallLemmas.{ReachesGroup, all_over, group_limit, reach_ends}
use Rattle.cup_check.proofs.JointCallLemmas.{reach_more, reach_stops}
use Rattle.cup_check.proofs.report.CupReport.joint_finish.Goals as goal

pub group_finish-requires-clause-of_cup : goal.group_finish-requires-clause-of_cup
group_finish-requires-clause-of_cup c =
    let basis = c.args.self.now.basis in
    let inside : c.loop-number.number < length basis.cup.groups = omega arith in
    group_limit basis c.loop-number.number c.group.result c.recall_invariant.ensures inside
    c.group.ensures

pub returns-in_err-next : goal.returns-in_err-next
returns-in_err-next c =
    let judged = c.args.self.now in
    let inside : c.loop-number.number < length judged.basis.cup.groups = omega arith in
    let gone = err_from_is_err_and c.from_residual.result c.from_residual.ensures.1 in
    rw (gone.1, gone.2)
    (reach_stops judged c.args.from c.args.side.claim c.args.side.club c.loop-number.at
    c.loop-number.finishes c.loop-number.number c.group.result c.in_err-next.field-0.0
    c.recall_invariant.ensures inside c.group.ensures c.loop-number.invariant
    c.in_err-next.ensures)

pub loop-number-preserved : goal.loop-number-preserved
loop-number-preserved c =
    let judged = c.args.self.now in
    let inside : c.loop-number.number < length judged.basis.cup.groups = omega arith in
    let R : List Results → Type 0 = λ finishes. ReachesGroup judged c.args.from c.args.side.claim
    c.args.side.club c.in_ok-next.next finishes (c.loop-number.number + 1) in
    subst R (sym c.in_ok-push.ensures.ok)
    (reach_more judged c.args.from c.args.side.claim c.args.side.club c.loop-number.at
    c.loop-number.finishes c.loop-number.number c.group.result c.in_ok-next.next
    c.in_ok-next.finish c.recall_invariant.ensures inside c.group.ensures c.loop-number.invariant
    c.in_ok-next.ensures)

pub joint_lots-requires-clause-over : goal.joint_lots-requires-clause-over
joint_lots-requires-clause-over c =
    let judged = c.args.self.now in
    let past : length judged.basis.cup.groups ≤ c.loop-number.number = omega arith in
    let A : List Results → Type 0 = λ it. HaveScoresOver judged.basis.seasons it in
    subst A (sym c.as_slice.ensures)
    (all_over judged c.args.from c.args.side.claim c.args.side.club c.loop-number.at
    c.loop-number.finishes c.loop-number.number c.recall_invariant.ensures.of_groups past
    c.loop-number.invariant)

pub returns : goal.returns
returns c =
    let judged = c.args.self.now in
    let past : length judged.basis.cup.groups ≤ c.loop-number.number = omega arith in
    let G : List Results → Type 0 = λ it. GoesInCup judged c.loop-number.at
    (lots c.args.side.claim c.args.side.club (scores_of_groups it)) c.joint_lots.result in
    reach_ends judged c.args.from c.args.side.claim c.args.side.club c.loop-number.at
    c.loop-number.finishes c.loop-number.number c.joint_lots.result
    c.recall_invariant.ensures.of_groups past c.loop-number.invariant
    (subst G c.as_slice.ensures c.joint_lots.ensures)
