-- Where the numbers of a group begin in the cup: the clubs and the fixtures of a group follow those
-- of the groups before it, so many are added to its own numbers.
use Rattle.std.specs.Prelude.{ℕ, zero, suc, ◌+◌, List, [], ◌∷◌, length}
use Rattle.league_core.specs.declared.sheet.Sheet.{Sheet}
use Rattle.cup_groups.specs.declared.start.GroupStart.{GroupStart}

-- how many clubs the groups before one have together
abbrev pub clubs_before : List Sheet → ℕ → ℕ
clubs_before [] number = 0
clubs_before (group ∷ groups) zero = 0
clubs_before (group ∷ groups) (suc number) = length group.clubs + clubs_before groups number

-- how many fixtures the groups before one have together
abbrev pub fixtures_before : List Sheet → ℕ → ℕ
fixtures_before [] number = 0
fixtures_before (group ∷ groups) zero = 0
fixtures_before (group ∷ groups) (suc number) =
    length group.fixtures + fixtures_before groups number

-- the first club and the first fixture of a group in the cup
abbrev pub start_of_group : List Sheet → ℕ → GroupStart
start_of_group groups number =
    record { club = clubs_before groups number; fixture = fixtures_before groups number }

-- those of the group after this one
abbrev pub start_after : GroupStart → Sheet → GroupStart
start_after start group = record {
  club = start.club + length group.clubs;
  fixture = start.fixture + length group.fixtures;
}
