-- What holds of finishes and of the list of them all, and that each club of a season is clinched,
-- lost or possible: each statement is the contract of a function of src/finish_laws.rt that does
-- nothing.
use Rattle.std.specs.Prelude.{◌≡◌, ◌⊎◌, ◌<◌, ◌↔◌, ℕ, IsTrue, List, length, Contains, slice_get}
use Rattle.std.specs.Prelude.{Option, Some}
use Rattle.league_core.specs.declared.sheet.Sheet.{Sheet}
use Rattle.league_core.specs.declared.season.Score.{Score}
use Rattle.league_core.specs.game.Sheets.{IsWithinLimits}
use Rattle.league_core.specs.game.Results.{Results, are_results}
use Rattle.league_core.specs.game.Seasons.{IsSeasonOf}
use Rattle.league_core.specs.game.Finishes.{may_all_end, is_played, IsFinishOf}
use Rattle.league_core.specs.inside.FinishList.{finishes_of, ways_to_finish, number_of}
use Rattle.league_core.specs.game.Verdicts.{IsClinched, IsLost, IsPossible}

-- the list has exactly the scores with which the season may end
abbrev pub FinishesAreListed : Type 0
FinishesAreListed =
    (limit : ℕ) (season finish : List (Option Score))
    → Contains (finishes_of limit season) finish ↔ IsTrue (may_all_end limit season finish)

-- it is as long as the product of the ways in which each fixture may end
abbrev pub FinishesAreCounted : Type 0
FinishesAreCounted =
    (limit : ℕ) (season : List (Option Score))
    → length (finishes_of limit season) ≡ ways_to_finish limit season

-- each finish stands there at its number
abbrev pub FinishesAreNumbered : Type 0
FinishesAreNumbered =
    (limit : ℕ) (season finish : List (Option Score)) → IsTrue (may_all_end limit season finish)
    → slice_get (finishes_of limit season) (number_of limit season finish) ≡ Some finish

-- every fixture of a finish has a score
abbrev pub FinishesArePlayed : Type 0
FinishesArePlayed =
    (sheet : Sheet) (season finish : Results) → IsFinishOf sheet season finish
    → IsTrue (is_played finish)

-- a finish of a season of the sheet is one too
abbrev pub FinishesAreOfTheSheet : Type 0
FinishesAreOfTheSheet =
    (sheet : Sheet) (season finish : Results) → IsSeasonOf sheet season
    → IsFinishOf sheet season finish → IsSeasonOf sheet finish

-- a club of the sheet has clinched a line, or lost it, or both is possible
abbrev pub OneVerdictHolds : Type 0
OneVerdictHolds =
    (sheet : Sheet) (season : Results) (club line : ℕ)
    → IsWithinLimits sheet → IsTrue (are_results season) → club < length sheet.clubs
    → IsClinched sheet season club line ⊎ IsLost sheet season club line
    ⊎ IsPossible sheet season club line
