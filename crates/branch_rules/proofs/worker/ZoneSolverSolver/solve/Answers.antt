use Rattle.std.proofs.Common.{IfOk, subst}
use Rattle.score_box.specs.inside.ZoneBoxViews.{ZoneBoxView}
use Rattle.score_box.specs.inside.PlayedViews.{PlayedView}
use Rattle.reason_core.specs.inside.Findings.{IsTrueFinding}
use Rattle.branch_rules.specs.inside.Found.{IsFoundIn}
use Rattle.branch_rules.proofs.FoundLemmas.{found_are_true}
use Rattle.branch_rules.proofs.worker.ZoneSolverSolver.solve.Goals as goal

pub returns-clause-found : goal.returns-clause-found
returns-clause-found c =
    let b = c.self.inside.zone_box in
    subst (λ (stage : PlayedView). IfOk c.find_with.result (IsTrueFinding stage.sheet stage.season
    c.args.question.now c.args.zone.now)) c.self.view_is
    (found_are_true b.sheet b.season c.args.question.now c.args.zone.now c.find_with.result
    (subst (λ (s : ZoneBoxView). IfOk c.find_with.result
    (IsFoundIn s.sheet s.season c.args.question.now s.zone)) c.in_ok-move_to.ensures.ok
    c.find_with.ensures))
