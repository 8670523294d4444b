use Rattle.std.proofs.Common.{Bool, Ok, ◌∙◌, subst}
use Rattle.std.proofs.lemmas.Result.{err_from_is_err_and}
use Rattle.cert_check.proofs.GoesLemmas.{halts_along}
use Rattle.cup_grammar.specs.CupReports.{cup_grammar}
use Rattle.cup_check.specs.inside.CupTreeCalls.{GoesOverNode, group_nodes_due}
use Rattle.cup_check.proofs.report.CupReport.nodes.Goals as goal

pub loop-next-preserved : goal.loop-next-preserved
loop-next-preserved c =
    let judged = c.args.self.now in
    let due = group_nodes_due c.args.group.now c.args.wanted c.loop-next.walk in
    let later = group_nodes_due c.args.group.now c.args.wanted c.next_node.new.walk in
    let Goes : Bool → Type 0 = λ ended. GoesOverNode judged c.loop-next.at due later
    (Ok (c.in_ok-next.next, ended)) in
    let goes = subst Goes c.if-ended.false c.in_ok-next.ensures.goes in (
      goes.1,
      c.in_ok-next.ensures.few,
      c.in_ok-next.ensures.path,
      λ dues unsettled. c.loop-next.invariant.3 dues unsettled ∙ goes.2 dues unsettled,
    )

pub returns-then-ended : goal.returns-then-ended
returns-then-ended c =
    let judged = c.args.self.now in
    let due = group_nodes_due c.args.group.now c.args.wanted c.loop-next.walk in
    let later = group_nodes_due c.args.group.now c.args.wanted c.next_node.new.walk in
    let Goes : Bool → Type 0 = λ ended. GoesOverNode judged c.loop-next.at due later
    (Ok (c.in_ok-next.next, ended)) in
    let goes = subst Goes c.if-ended.true c.in_ok-next.ensures.goes in
    (goes.1, λ dues unsettled. c.loop-next.invariant.3 dues unsettled ∙ goes.2 dues unsettled)

pub returns-in_err-next : goal.returns-in_err-next
returns-in_err-next c =
    let judged = c.args.self.now in
    let gone = err_from_is_err_and c.from_residual.result c.from_residual.ensures.1 in
    rw (gone.1, gone.2)
    (halts_along cup_grammar judged c.args.from c.loop-next.at
    (group_nodes_due c.args.group.now c.args.wanted c.args.walk.now)
    (group_nodes_due c.args.group.now c.args.wanted c.loop-next.walk) c.in_err-next.field-0.0
    (λ dues unsettled. c.loop-next.invariant.3 dues unsettled) c.in_err-next.ensures.goes)
