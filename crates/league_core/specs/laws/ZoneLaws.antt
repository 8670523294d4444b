-- What holds of zones and their options by the definitions alone: each statement is the contract of
-- a function of src/zone_laws.rt that does nothing.
use Rattle.std.specs.Prelude.{◌↔◌, List, []}
use Rattle.league_core.specs.declared.sheet.Sheet.{Sheet}
use Rattle.league_core.specs.declared.zone.Literal.{Literal}
use Rattle.league_core.specs.game.Results.{Results}
use Rattle.league_core.specs.game.Finishes.{IsFinishOf}
use Rattle.league_core.specs.search.Options.{IsInBox}

-- a finish of the season takes an option of each fixture if no literal is asked for, and each
-- choice of such options is a finish
abbrev pub FinishesTakeOptions : Type 0
FinishesTakeOptions =
    (sheet : Sheet) (season finish : Results)
    → IsFinishOf sheet season finish ↔ IsInBox sheet season [] finish

-- what is in the box of any zone is a finish of the season
abbrev pub BoxesHoldFinishes : Type 0
BoxesHoldFinishes =
    (sheet : Sheet) (season : Results) (zone : List Literal) (finish : Results)
    → IsInBox sheet season zone finish → IsFinishOf sheet season finish
