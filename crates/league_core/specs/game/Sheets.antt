-- The league sheet and its limits: what the rules of the input allow a sheet to be.
use Rattle.std.specs.Prelude.{◌≤◌, ℕ, Bool, true, not, ◌&&◌, ◌==◌, nat_le, nat_lt, nat_eq, IsTrue}
use Rattle.std.specs.Prelude.{List, [], ◌∷◌, length, bytes_eq}
use Rattle.std.specs.List.{list_all, list_any, range_with_len}
use Rattle.league_core.specs.declared.sheet.Sheet.{Sheet}
use Rattle.league_core.specs.game.Limits.{least_clubs, most_clubs, most_fixtures, most_lines}
use Rattle.league_core.specs.game.Limits.{most_rank, most_goal_limit, most_budget, most_name_bytes}
use Rattle.league_core.specs.declared.sheet.Club.{Club}
use Rattle.league_core.specs.declared.sheet.Fixture.{Fixture}

-- the clubs of a sheet, by their numbers from 0 on
abbrev pub clubs_of : Sheet → List ℕ
clubs_of sheet = range_with_len 0 (length sheet.clubs)

-- a byte of a name is no control byte
abbrev pub is_name_byte : ℕ → Bool
is_name_byte byte = nat_le 32 byte && not (byte == 127)

-- a name has 1 to 40 bytes, none of them a control byte; that they are UTF-8 the type of names
-- keeps
abbrev pub is_name : List ℕ → Bool
is_name bytes = nat_le 1 (length bytes) && nat_le (length bytes) most_name_bytes
    && list_all is_name_byte bytes

-- a club has a name, and a fixed rank from 1 to 999
abbrev pub is_club : Club → Bool
is_club club = is_name club.name && nat_le 1 club.rank && nat_le club.rank most_rank

-- a match has two different clubs, out of so many
abbrev pub is_fixture : ℕ → Fixture → Bool
is_fixture clubs match =
    nat_lt match.home clubs && nat_lt match.away clubs && not (match.home == match.away)

-- a line leaves at least one of so many clubs on each of its sides
abbrev pub is_line : ℕ → ℕ → Bool
is_line clubs line = nat_le 1 line && nat_lt line clubs

-- no two of the list are the same
abbrev pub are_different : {A : Type 0} → (A → A → Bool) → List A → Bool
are_different same [] = true
are_different same (x ∷ xs) = not (list_any (same x) xs) && are_different same xs

-- two clubs go by one name exactly when the names' bytes are the same
abbrev pub same_name : Club → Club → Bool
same_name club other = bytes_eq club.name other.name

-- a sheet that may be played: how many of each, and each as it has to be
pub record IsWithinLimits (sheet : Sheet) : Type 0 where
  pub name : IsTrue (is_name sheet.name)
  pub two_clubs : least_clubs ≤ length sheet.clubs
  pub most_clubs : length sheet.clubs ≤ most_clubs
  pub most_fixtures : length sheet.fixtures ≤ most_fixtures
  pub most_lines : length sheet.lines ≤ most_lines
  pub clubs : IsTrue (list_all is_club sheet.clubs)
  pub different_names : IsTrue (are_different same_name sheet.clubs)
  pub fixtures : IsTrue (list_all (is_fixture (length sheet.clubs)) sheet.fixtures)
  pub lines : IsTrue (list_all (is_line (length sheet.clubs)) sheet.lines)
  pub different_lines : IsTrue (are_different nat_eq sheet.lines)
  pub least_goal_limit : 1 ≤ sheet.goal_limit
  pub most_goal_limit : sheet.goal_limit ≤ most_goal_limit
  pub least_budget : 1 ≤ sheet.budget
  pub most_budget : sheet.budget ≤ most_budget
