use Rattle.decide_run.proofs.LookLemmas.{league_of, look_at_root}
use Rattle.decide_run.proofs.task.searched.Goals as goal

pub work-requires-clause-root : goal.work-requires-clause-root
work-requires-clause-root c =
    look_at_root _
    (rw (c.requires.sheet, c.requires.season)
    (league_of c.args.played.now.sheet c.sheet.result.now c.args.played.now.season
    c.season-season.result.now c.sheet.ensures.sheet c.season-season.ensures.season
    c.sheet.ensures.limits c.season-season.ensures.of_sheet))
    c.requires.sheet c.requires.season (rw c.requires.sheet c.requires.of_sheet)
