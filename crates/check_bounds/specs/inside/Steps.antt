-- What is sure of each club against one club, step by step: if a step leaves the two level, the
-- next one decides.
use Rattle.std.specs.Prelude.{◌≡◌, ◌≢◌, ℕ, ◌<◌, Bool, false, ◌||◌, IsTrue, List, slice_index_or}
use Rattle.league_core.specs.game.Sums.{has_club}
use Rattle.league_core.specs.declared.sure.Sure.{Sure}
use Rattle.league_core.specs.declared.sure.Sure.TheVariants.{Unknown}
use Rattle.league_core.specs.search.SureOrder.{sure_then, sure_by_ranges, is_level, is_apart}
use Rattle.check_bounds.specs.declared.int_range.IntRange.{IntRange}
use Rattle.check_bounds.specs.inside.IntRanges.{ranges_at}

-- what is sure of the club of this number
abbrev pub sure_at : List Sure → ℕ → Sure
sure_at answers rival = slice_index_or answers rival Unknown

-- a rival against the club by tables, the first one first
abbrev pub sure_by_tables : List (List IntRange) → ℕ → ℕ → Sure
sure_by_tables tables club rival = sure_by_ranges (ranges_at tables rival) (ranges_at tables club)

-- a club is surely level with the club by the tables
abbrev pub is_level_by_tables : List (List IntRange) → ℕ → ℕ → Bool
is_level_by_tables tables club other = is_level (sure_by_tables tables club other)

-- it is sure whether it is
abbrev pub is_sure_by_tables : List (List IntRange) → ℕ → ℕ → Bool
is_sure_by_tables tables club other =
    is_level_by_tables tables club other
    || is_apart (ranges_at tables other) (ranges_at tables club)

-- each answer that was level takes the next
abbrev pub TakesNext : List Sure → List Sure → (ℕ → Sure) → Type 0
TakesNext old new next =
    (rival : ℕ) → rival < 32 → sure_at new rival ≡ sure_then (sure_at old rival) (next rival)

-- the same of each club but one, if those whose answers are level are of a group
abbrev pub TakesNextIn : List ℕ → ℕ → List Sure → List Sure → (ℕ → Sure) → Type 0
TakesNextIn group club old new next =
    (rival : ℕ) → rival < 32 → rival ≢ club
    → (IsTrue (is_level (sure_at old rival)) → IsTrue (has_club group rival))
    → sure_at new rival ≡ sure_then (sure_at old rival) (next rival)

-- no club of a group has an answer that is level
abbrev pub IsNoneLevel : List ℕ → List Sure → Type 0
IsNoneLevel group answers =
    (rival : ℕ) → rival < 32 → IsTrue (has_club group rival)
    → is_level (sure_at answers rival) ≡ false
