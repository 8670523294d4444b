use Rattle.std.proofs.Common.{◌≡◌, take}
use Rattle.league_core.specs.game.Seasons.{IsLeague, season_after}
use Rattle.par_check.proofs.asks.play.Given as goal

abbrev pub invariant-loop-at : goal.invariant-loop-at
invariant-loop-at l =
    (l.season ≡ season_after l.sheet (take l.at l.log)) × IsLeague l.sheet l.season
