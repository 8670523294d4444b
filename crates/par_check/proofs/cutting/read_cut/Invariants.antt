use Rattle.std.proofs.Common.{◌≡◌, ◌≤◌, length}
use Rattle.std.specs.Prelude.{All}
use Rattle.league_core.specs.game.Seasons.{IsLeague}
use Rattle.par_check.specs.Cuts.{IsItemIn, season_before}
use Rattle.par_check.proofs.AskLemmas.{AsksCut}
use Rattle.par_check.proofs.cutting.read_cut.Given as goal

-- the asks so far are cut, and the season is that of the last of them
abbrev pub invariant-loop-ask : goal.invariant-loop-ask
invariant-loop-ask l = record {
  cut : AsksCut l.sheet l.asks l.lines l.items.items l.ask l.reached.next l.reached.unsettled;
  items : All (IsItemIn l.sheet (length l.asks.epochs.items) (length l.lines)) l.items.items;
  season : l.season ≡ season_before l.sheet l.asks l.ask;
  league : IsLeague l.sheet l.season;
  few : l.reached.unsettled ≤ l.reached.next;
  room : l.reached.next ≤ length l.lines;
}
