use Rattle.what_if.proofs.PartLemmas.{played_league}
use Rattle.what_if.proofs.WhenLemmas.{outcome_given}
use Rattle.what_if.proofs.when.verdicts_if.Goals as goal

pub verdicts_by-requires-clause-base : goal.verdicts_by-requires-clause-base
verdicts_by-requires-clause-base c =
    rw (c.as_slice.ensures, c.in_ok-base.ensures)
    (outcome_given c.args.stage.now.sheet c.args.stage.now.season c.args.fixture c.args.outcome
    (played_league c.args.stage.now.sheet c.sheet-sheet.result.now c.args.stage.now.season
    c.season-season.result.now c.sheet-sheet.ensures.sheet c.season-season.ensures.season
    c.sheet-sheet.ensures.limits c.season-season.ensures.of_sheet)
    c.requires.open_match)
