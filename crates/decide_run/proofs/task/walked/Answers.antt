use Rattle.decide_run.proofs.task.walked.Goals as goal

pub returns-in-Some : goal.returns-in-Some
returns-in-Some c =
    let found = rw c.in-Some.is at c.in_ok-finish.ensures in
    rw (c.sheet-sheet.ensures.sheet, c.season-season.ensures.season) at found
