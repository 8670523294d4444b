use Rattle.std.proofs.Common.{◌≡◌, Ok}
use Rattle.league_core.specs.game.Seasons.{IsLeague}
use Rattle.par_check.specs.Cuts.{season_before}
use Rattle.par_check.specs.Places.{ReadsWhole}
use Rattle.par_check.proofs.reading.read_run.Given as goal

-- the asks so far are read, and the season is that of the last of them
abbrev pub invariant-loop-ask : goal.invariant-loop-ask
invariant-loop-ask l = record {
  reads : ReadsWhole l.whole l.run.from (Ok l.reached);
  ask : l.reached.to.ask ≡ l.ask;
  season : l.season ≡ season_before l.whole.sheet.now l.whole.asks.now l.ask;
  league : IsLeague l.whole.sheet.now l.season;
}
