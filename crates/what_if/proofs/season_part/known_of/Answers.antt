use Rattle.league_core.proofs.HalfLemmas.{root_has_finish}
use Rattle.what_if.proofs.season_part.known_of.Goals as goal

pub solve_given-requires-clause-has_finish : goal.solve_given-requires-clause-has_finish
solve_given-requires-clause-has_finish c =
    root_has_finish c.args.solver.now.sheet c.args.solver.now.season

pub returns-in-Won-clause-known : goal.returns-in-Won-clause-known
returns-in-Won-clause-known c =
    let solved = rw c.in-Won.is at c.in_ok-example.ensures.solved in
    (rw (c.requires.sheet, c.requires.season) at solved).example

pub returns-in-Refuted-clause-known : goal.returns-in-Refuted-clause-known
returns-in-Refuted-clause-known c =
    let solved = rw c.in-Refuted.is at c.in_ok-example.ensures.solved in
    rw (c.requires.sheet, c.requires.season) at solved
