use Rattle.league_core.proofs.FinishLemmas.{finish_is_of}
use Rattle.local_search.proofs.example.with_lots.Goals as goal

pub try_example-requires-clause-league : goal.try_example-requires-clause-league
try_example-requires-clause-league c =
    let sheet = c.args.sheet.now in
    let season = c.args.season.now in
    record {
      limits = c.requires.league.limits;
      of_sheet = finish_is_of sheet season c.args.finish c.requires.league.of_sheet
          c.requires.is_finish;
    }
