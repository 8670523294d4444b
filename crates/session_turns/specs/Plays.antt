-- What a session has come to after its sheet: what was played, and what is asked of it.
use Rattle.std.specs.Prelude.{ℕ, List, Option}
use Rattle.league_core.specs.declared.sheet.Sheet.{Sheet}
use Rattle.league_core.specs.declared.season.Event.{Event}
use Rattle.league_core.specs.game.Results.{Results}
use Rattle.league_core.specs.game.Seasons.{epoch_of, season_after}
use Rattle.league_core.specs.search.Trees.{Tree}

-- what an ask is of: a whole sheet, what was played so far, how many events there were, the fixture
-- that is asked about, if it is one fixture, and the trees that were saved for the questions about
-- the sheet, if they were and nothing was reported since
pub record Played : Type 0 where
  pub sheet : Sheet
  pub season : Results
  pub epoch : ℕ
  pub about : Option ℕ
  pub saved : Option (List (Option Tree))

-- what was played after these events, where this is asked about and these trees were saved
abbrev pub played_after : Sheet → List Event → Option ℕ → Option (List (Option Tree)) → Played
played_after sheet events about saved = record {
  sheet = sheet;
  season = season_after sheet events;
  epoch = epoch_of events;
  about = about;
  saved = saved;
}
