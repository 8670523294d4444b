use Rattle.std.proofs.Common.{subst}
use Rattle.cup_check.specs.declared.walk.GroupWalk.{GroupWalk}
use Rattle.cup_check.specs.inside.CupGoes.{GoesInCup}
use Rattle.cup_check.specs.inside.CupTreeCalls.{group_nodes_due}
use Rattle.cup_check.proofs.report.CupReport.tree.Goals as goal

pub returns : goal.returns
returns c =
    let G : GroupWalk → Type 0 = λ walk. GoesInCup c.args.self.now c.args.from
    (group_nodes_due c.args.group.now c.args.wanted walk) c.nodes.result in
    subst G c.in_ok-walk.ensures c.nodes.ensures
