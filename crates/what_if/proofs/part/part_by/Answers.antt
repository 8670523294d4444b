use Rattle.what_if.proofs.HintLemmas.{example_below}
use Rattle.what_if.proofs.PartLemmas.{played_league, won_given}
use Rattle.what_if.proofs.part.part_by.Goals as goal

pub won-requires-clause-league : goal.won-requires-clause-league
won-requires-clause-league c =
    rw (c.sheet-sheet.ensures.sheet, c.season-season.ensures.season)
    (played_league c.args.stage.now.sheet c.sheet-sheet.result.now c.args.stage.now.season
    c.season-season.result.now c.sheet-sheet.ensures.sheet c.season-season.ensures.season
    c.sheet-sheet.ensures.limits c.season-season.ensures.of_sheet)

pub won-requires-clause-example : goal.won-requires-clause-example
won-requires-clause-example c =
    rw (c.sheet-sheet.ensures.sheet, c.season-season.ensures.season) c.requires.example

pub returns-then-are_true-clause-part : goal.returns-then-are_true-clause-part
returns-then-are_true-clause-part c =
    let example = c.args.example.now in
    let literals = c.are_true.ensures c.if-are_true.true c.args.stage.now.sheet
    c.args.question.now.club example.lots in
    won_given c.args.stage.now.sheet c.args.stage.now.season c.args.base.now c.args.question.now
    example.finish example.lots c.won.result
    (played_league c.args.stage.now.sheet c.sheet-sheet.result.now c.args.stage.now.season
    c.season-season.result.now c.sheet-sheet.ensures.sheet c.season-season.ensures.season
    c.sheet-sheet.ensures.limits c.season-season.ensures.of_sheet)
    (rw c.season-season.ensures.season at c.scores-scores.ensures.within)
    (example_below c.args.stage.now.sheet c.args.stage.now.season c.args.question.now
    c.args.base.now example.finish example.lots c.requires.example
    (rw c.as_season.ensures.season at literals))
    c.won.ensures.kind (rw c.season-season.ensures.season at c.won.ensures.lines)
