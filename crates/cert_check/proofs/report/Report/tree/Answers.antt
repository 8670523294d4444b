use Rattle.std.proofs.Common.{Bool, true, [], ◌∷◌, Ok, ◌∙◌, refl, subst, arith}
use Rattle.cert_check.specs.ExpectedItems.{after}
use Rattle.cert_check.specs.Machine.{report_grammar}
use Rattle.cert_check.specs.inside.Goes.{NodeSays}
use Rattle.cert_check.specs.inside.Calls.{nodes_due}
use Rattle.cert_check.proofs.GoesLemmas.{next_reads}
use Rattle.cert_check.proofs.CallLemmas.{quiet}
use Rattle.cert_check.proofs.report.Report.tree.Goals as goal

pub loop-walk-preserved : goal.loop-walk-preserved
loop-walk-preserved c =
    let judged = c.args.self.now in
    let due = nodes_due c.args.wanted c.loop-walk.walk in
    let later = nodes_due c.args.wanted c.take_node.new.walk in
    let Says : Bool → Type 0 = λ ended. NodeSays
    (after judged.basis due c.in_ok-place.token) c.in_ok-place.place later (Ok ended) in
    let says = subst Says c.if-branch.false c.in_ok-take_node.ensures.says in
    let goes = next_reads report_grammar judged c.loop-walk.at c.in_ok-place.place
    c.in_ok-place.token c.in_ok-place.ensures due (later ∷ [])
    (quiet judged.basis due c.in_ok-place.token true (later ∷ []) refl says) says in (
      omega (arith, c.in_ok-place.ensures.within),
      omega (arith, c.loop-walk.invariant.1, c.in_ok-place.ensures.behind, c.take_node.ensures.few),
      c.in_ok-take_node.ensures.path,
      λ dues unsettled. c.loop-walk.invariant.3 dues unsettled ∙ goes dues unsettled,
    )
