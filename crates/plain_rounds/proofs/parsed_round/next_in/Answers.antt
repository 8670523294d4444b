-- The season and the number of events are those after the pool's log.
use Rattle.std.proofs.Common.{ap, length, ◌∙◌}
use Rattle.league_core.specs.game.Seasons.{season_after}
use Rattle.plain_rounds.proofs.FeedingLemmas.{live-parsed, next-read, next-read-as, parsed-there-as}
use Rattle.plain_rounds.proofs.parsed_round.next_in.Goals as goal

pub returns-clause-there : goal.returns-clause-there
returns-clause-there g c =
    parsed-there-as g.R.Reading.entry (g.R.Reading.tells c.args.reading.now)
    c.sheet-sheet.result.now c.args.pool.now.sheet c.args.pool.now.log
    c.season-season.result.now _ c.sheet-sheet.ensures.sheet (
      c.season-season.ensures.season ∙ c.log.ensures.season
          ∙ ap (season_after c.args.pool.now.sheet) c.log.ensures.log,
      ap length c.log.ensures.log,
    ) c.args.pool.now.season c.season-season.ensures.season c.next_parsed.new.reader.text
    c.next_parsed.result c.next_parsed.ensures.there

pub returns-clause-next : goal.returns-clause-next
returns-clause-next g c =
    let ensures = c.next_parsed.ensures in
    next-read-as
    (live-parsed g.R.Reading.entry (g.R.Reading.tells c.args.reading.now) c.sheet-sheet.result.now
    c.args.pool.now.sheet c.args.pool.now.log c.season-season.result.now _
    c.sheet-sheet.ensures.sheet (
      c.season-season.ensures.season ∙ c.log.ensures.season
          ∙ ap (season_after c.args.pool.now.sheet) c.log.ensures.log,
      ap length c.log.ensures.log,
    ))
    (next-read ensures.passes ensures.leaves ensures.reads ensures.takes ensures.moves ensures.cause
    ensures.last)
