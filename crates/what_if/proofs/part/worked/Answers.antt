use Rattle.what_if.proofs.PartLemmas.{played_league, won_given, refuted_given, spent_given}
use Rattle.what_if.proofs.part.worked.Goals as goal

pub solve_given-requires-clause-league : goal.solve_given-requires-clause-league
solve_given-requires-clause-league c =
    rw (c.requires.sheet, c.requires.season)
    (played_league c.args.stage.now.sheet c.sheet-sheet.result.now c.args.stage.now.season
    c.season-season.result.now c.sheet-sheet.ensures.sheet c.season-season.ensures.season
    c.sheet-sheet.ensures.limits c.season-season.ensures.of_sheet)

pub won-requires-clause-league : goal.won-requires-clause-league
won-requires-clause-league c =
    rw (c.sheet-sheet.ensures.sheet, c.season-season.ensures.season)
    (played_league c.args.stage.now.sheet c.sheet-sheet.result.now c.args.stage.now.season
    c.season-season.result.now c.sheet-sheet.ensures.sheet c.season-season.ensures.season
    c.sheet-sheet.ensures.limits c.season-season.ensures.of_sheet)

pub won-requires-clause-example : goal.won-requires-clause-example
won-requires-clause-example c =
    let solved = rw c.in-Won.is at c.in_ok-example.ensures.solved in
    let example = rw (c.requires.sheet, c.requires.season) at solved in
    rw (c.sheet-sheet.ensures.sheet, c.season-season.ensures.season) example.example

pub returns-in-Won-clause-part : goal.returns-in-Won-clause-part
returns-in-Won-clause-part c =
    let solved = rw c.in-Won.is at c.in_ok-example.ensures.solved in
    let example = rw (c.requires.sheet, c.requires.season) at solved in
    won_given c.args.stage.now.sheet c.args.stage.now.season c.args.base.now c.args.question.now
    c.in-Won.example.finish c.in-Won.example.lots c.won.result
    (played_league c.args.stage.now.sheet c.sheet-sheet.result.now c.args.stage.now.season
    c.season-season.result.now c.sheet-sheet.ensures.sheet c.season-season.ensures.season
    c.sheet-sheet.ensures.limits c.season-season.ensures.of_sheet)
    (rw c.season-season.ensures.season at c.scores-scores.ensures.within) example
    c.won.ensures.kind (rw c.season-season.ensures.season at c.won.ensures.lines)

pub returns-in-Refuted-clause-part : goal.returns-in-Refuted-clause-part
returns-in-Refuted-clause-part c =
    let solved = rw c.in-Refuted.is at c.in_ok-example.ensures.solved in
    refuted_given c.args.stage.now.sheet c.args.stage.now.season c.args.base.now
    c.args.question.now c.refuted.result (rw (c.requires.sheet, c.requires.season) at solved)
    c.refuted.ensures.kind c.refuted.ensures.lines

pub returns-clause-part : goal.returns-clause-part
returns-clause-part c =
    let solved = rw c.in-Spent.is at c.in_ok-example.ensures.solved in
    spent_given c.args.stage.now.sheet c.args.stage.now.season c.args.base.now
    c.args.question.now c.in-Spent.nodes.items c.spent.result c.requires.base.of_scores
    (rw (c.requires.sheet, c.requires.season, c.sheet-sheet.ensures.sheet) at solved)
    c.spent.ensures.kind c.spent.ensures.lines
