use Rattle.decide_run.proofs.WidePartLemmas.{won_wide}
use Rattle.decide_run.proofs.part.won.Goals as goal

pub won-requires-clause-example : goal.won-requires-clause-example
won-requires-clause-example c =
    rw (c.sheet-sheet.ensures.sheet, c.season-season.ensures.season) c.requires.example

pub returns : goal.returns
returns c =
    won_wide c.args.played.now.sheet c.args.played.now.season c.args.question.now
    c.in_ok-part.part c.in_ok-lines.lines
    (rw (c.sheet-sheet.ensures.sheet, c.season-season.ensures.season) at c.in_ok-part.ensures.part)
    c.in_ok-part.ensures.kind c.in_ok-lines.ensures
