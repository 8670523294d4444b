-- Which outcomes are left among the options of a fixture.
use Rattle.std.specs.Prelude.{◌≡◌, List}
use Rattle.std.specs.List.{list_any}
use Rattle.league_core.specs.declared.season.Score.{Score}
use Rattle.league_core.specs.search.Options.{is_home_win, is_draw, is_away_win}
use Rattle.branch_rules.specs.declared.left.Outcomes.{Outcomes}

-- some option is a home win, a draw, an away win
pub record AreOutcomesOf (options : List Score) (left : Outcomes) : Type 0 where
  pub wins : left.wins ≡ list_any is_home_win options
  pub draws : left.draws ≡ list_any is_draw options
  pub losses : left.losses ≡ list_any is_away_win options
