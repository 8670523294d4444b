-- What is known of the groups of a cup while the feed's sheet is made and its season is cut.
use Rattle.std.specs.Prelude.{ℕ, ◌+◌, List, [], ◌∷◌, length, All}
use Rattle.league_core.specs.declared.sheet.Sheet.{Sheet}
use Rattle.league_core.specs.game.Sheets.{IsWithinLimits}

-- each group is a sheet within the limits
abbrev pub AreWithinLimits : List Sheet → Type 0
AreWithinLimits groups = All (λ (group : Sheet). IsWithinLimits group) groups

-- how many fixtures the groups have together
abbrev pub fixtures_together : List Sheet → ℕ
fixtures_together [] = 0
fixtures_together (group ∷ groups) = length group.fixtures + fixtures_together groups
