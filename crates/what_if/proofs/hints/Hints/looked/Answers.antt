use Rattle.league_core.proofs.FinishLemmas.{finish_is_of}
use Rattle.what_if.proofs.hints.Hints.looked.Goals as goal

pub begun-requires : goal.begun-requires
begun-requires c =
    let sheet = c.args.self.now.played.now.sheet in
    rw (c.sheet-sheet.ensures.sheet, c.as_season.ensures.season)
    (finish_is_of sheet c.season-season.result.now c.args.from.now
    c.season-season.ensures.of_sheet
    (rw c.sheet-sheet.ensures.sheet at (c.is_of.ensures.0 c.if-is_of.true)))
