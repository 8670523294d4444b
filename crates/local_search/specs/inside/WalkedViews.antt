-- What contracts see of a solver that walks.
use Rattle.league_core.specs.declared.sheet.Sheet.{Sheet}
use Rattle.league_core.specs.game.Results.{Results}

-- the sheet and the season that it works on
pub record WalkedView : Type 0 where
  pub sheet : Sheet
  pub season : Results
