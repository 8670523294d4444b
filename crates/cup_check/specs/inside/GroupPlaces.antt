-- A group with its place among the numbers of the cup, as the code keeps it.
use Rattle.std.specs.Prelude.{◌≤◌, ◌+◌, length}
use Rattle.league_core.specs.game.Seasons.{IsLeague}
use Rattle.cup_sheet.specs.CupLimits.{most_cup_clubs, most_cup_fixtures}
use Rattle.cup_sheet.specs.CupLimits.{least_group_clubs, most_group_clubs, most_group_fixtures}
use Rattle.cup_grammar.specs.PlacedGroups.{PlacedGroup}

-- a group with a season of it, whose numbers are within those of a cup
pub record IsPlaced (place : PlacedGroup) : Type 0 where
  pub league : IsLeague place.sheet place.season
  pub least_clubs : least_group_clubs ≤ length place.sheet.clubs
  pub few_clubs : length place.sheet.clubs ≤ most_group_clubs
  pub few_fixtures : length place.sheet.fixtures ≤ most_group_fixtures
  pub clubs : place.start.club + length place.sheet.clubs ≤ most_cup_clubs
  pub fixtures : place.start.fixture + length place.sheet.fixtures ≤ most_cup_fixtures
