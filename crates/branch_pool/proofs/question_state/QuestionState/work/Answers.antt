use Rattle.branch_pool.proofs.GoodLemmas.{lent_zone_fits}
use Rattle.branch_pool.proofs.QuestionStateLemmas.{lent_once}
use Rattle.branch_pool.proofs.question_state.QuestionState.work.Goals as goal

pub solve-requires-clause-of_zone : goal.solve-requires-clause-of_zone
solve-requires-clause-of_zone g c =
    let lends = rw c.in-Some.is at c.in_ok-zone.ensures.ok in
    let fits = lent_zone_fits (g.W.Solver.sheet c.args.worker.now) (g.W.Solver.season
    c.args.worker.now)
    c.args.self.now c.lend.new.self c.args.number c.in-Some.zone.literals c.requires.good
    lends.all_else lends.lent in
    rw c.as_slice.ensures fits.0

pub solve-requires-clause-has_finish : goal.solve-requires-clause-has_finish
solve-requires-clause-has_finish g c =
    let lends = rw c.in-Some.is at c.in_ok-zone.ensures.ok in
    let fits = lent_zone_fits (g.W.Solver.sheet c.args.worker.now) (g.W.Solver.season
    c.args.worker.now)
    c.args.self.now c.lend.new.self c.args.number c.in-Some.zone.literals c.requires.good
    lends.all_else lends.lent in
    rw c.as_slice.ensures fits.1

pub settle-requires-clause-out : goal.settle-requires-clause-out
settle-requires-clause-out g c =
    lent_once c.args.number c.lend.new.self c.in-Some.zone.literals
    (rw c.in-Some.is at c.in_ok-zone.ensures.ok).lent

pub reopen-requires : goal.reopen-requires
reopen-requires g c =
    lent_once c.args.number c.lend.new.self c.in-Some.zone.literals
    (rw c.in-Some.is at c.in_ok-zone.ensures.ok).lent
