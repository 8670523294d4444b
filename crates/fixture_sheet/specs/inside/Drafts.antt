-- What holds of a sheet while its records come.
use Rattle.std.specs.Prelude.{◌≤◌, IsTrue, nat_eq, length}
use Rattle.std.specs.List.{list_all}
use Rattle.league_core.specs.declared.sheet.Sheet.{Sheet}
use Rattle.league_core.specs.game.Limits.{most_clubs, most_fixtures, most_lines, most_goal_limit}
use Rattle.league_core.specs.game.Limits.{most_budget}
use Rattle.league_core.specs.game.Sheets.{is_name, is_club, is_fixture, is_line, are_different}
use Rattle.league_core.specs.game.Sheets.{same_name}

-- a sheet that is read so far: within the limits, but for the two clubs that may still be missing
pub record IsDraft (sheet : Sheet) : Type 0 where
  pub name : IsTrue (is_name sheet.name)
  pub most_clubs : length sheet.clubs ≤ most_clubs
  pub most_fixtures : length sheet.fixtures ≤ most_fixtures
  pub most_lines : length sheet.lines ≤ most_lines
  pub clubs : IsTrue (list_all is_club sheet.clubs)
  pub different_names : IsTrue (are_different same_name sheet.clubs)
  pub fixtures : IsTrue (list_all (is_fixture (length sheet.clubs)) sheet.fixtures)
  pub lines : IsTrue (list_all (is_line (length sheet.clubs)) sheet.lines)
  pub different_lines : IsTrue (are_different nat_eq sheet.lines)
  pub least_goal_limit : 1 ≤ sheet.goal_limit
  pub most_goal_limit : sheet.goal_limit ≤ most_goal_limit
  pub least_budget : 1 ≤ sheet.budget
  pub most_budget : sheet.budget ≤ most_budget
