use Rattle.std.proofs.Common.{IfSome, List, subst}
use Rattle.league_core.specs.declared.zone.Literal.{Literal}
use Rattle.reason_core.specs.inside.Findings.{IsTrueFinding}
use Rattle.local_search.specs.inside.WalkedViews.{WalkedView}
use Rattle.local_search.proofs.walking_solver.WalkingSolverSolver.solve.Goals as goal

pub returns-in-Some-clause-found : goal.returns-in-Some-clause-found
returns-in-Some-clause-found g c =
    let after = c.begun.new.self in
    let question = c.args.question.now in
    let found = subst (λ found. IfSome found (λ finding. (zone : List Literal)
    → IsTrueFinding after.sheet after.season question zone finding)) c.in-Some.is
    c.in_ok-finding.ensures in
    let P : WalkedView → Type 0 = λ view. IsTrueFinding view.sheet view.season question
    c.args.zone.now c.in-Some.finding in
    subst P c.if-count.ensures (subst P c.begun.ensures (found c.args.zone.now))
