-- A cut by an outcome keeps some of the outcomes.
use Rattle.std.proofs.Common.{true, false}
use Rattle.score_box.specs.inside.Cells.{with_outcomes}
use Rattle.score_box.proofs.ExactLemmas.{fewer_exact, either_exact}
use Rattle.score_box.proofs.cell.Cell.cut_exact.Goals as goal

pub returns-in-Home-clause-exact : goal.returns-in-Home-clause-exact
returns-in-Home-clause-exact c =
    let old = c.args.self.now in
    either_exact c.args.literal.now.yes (with_outcomes true false false old)
    (with_outcomes false true true old) c.cut_home_win.new.self
    (fewer_exact old true false false c.requires.exact)
    (fewer_exact old false true true c.requires.exact) c.cut_home_win.ensures.outcomes

pub returns-in-Draw-clause-exact : goal.returns-in-Draw-clause-exact
returns-in-Draw-clause-exact c =
    let old = c.args.self.now in
    either_exact c.args.literal.now.yes (with_outcomes false true false old)
    (with_outcomes true false true old) c.cut_draw.new.self
    (fewer_exact old false true false c.requires.exact)
    (fewer_exact old true false true c.requires.exact) c.cut_draw.ensures.outcomes
