-- Groups of clubs of a sheet.
use Rattle.std.specs.Prelude.{◌<◌, ℕ, IsTrue, List, length}
use Rattle.league_core.specs.declared.sheet.Sheet.{Sheet}
use Rattle.league_core.specs.game.Sums.{has_club}

-- each club of the group is one of the sheet's
abbrev pub IsGroupOf : Sheet → List ℕ → Type 0
IsGroupOf sheet group = (club : ℕ) → IsTrue (has_club group club) → club < length sheet.clubs
