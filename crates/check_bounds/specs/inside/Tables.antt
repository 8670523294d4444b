-- What tables of sums hold: the ranges of the definitions, with a fixture's extremes in place of
-- its options.
use Rattle.std.specs.Prelude.{◌≡◌, ℕ, ◌+◌, ℤ, pos, ◌≤◌, Bool, IsTrue, if◌then◌else◌, List, length}
use Rattle.std.specs.List.{list_all}
use Rattle.league_core.specs.declared.sheet.Fixture.{Fixture}
use Rattle.league_core.specs.declared.season.Score.{Score}
use Rattle.league_core.specs.game.Sheets.{is_fixture}
use Rattle.league_core.specs.game.Sums.{Worth, worth_to}
use Rattle.league_core.specs.search.PointRanges.{Range, added, range_of, range_from}
use Rattle.check_bounds.specs.declared.int_range.IntRange.{IntRange}
use Rattle.check_bounds.specs.inside.IntRanges.{as_sum_range, range_at, ranges_at, IsRangeWithin}

-- as many lists of extremes as fixtures, at most 600, each of two different clubs out of 24
pub record ArePlayedOver (fixtures : List Fixture) (corners : List (List Score)) : Type 0 where
  pub many : length corners ≡ length fixtures
  pub few : length fixtures ≤ 600
  pub teams : IsTrue (list_all (is_fixture 24) fixtures)

-- each club's sum of a value over the fixtures
abbrev pub IsTableOf : (ℕ → Fixture → Score → ℤ) → List Fixture → List (List Score) → List IntRange
    → Type 0
IsTableOf value fixtures corners table =
    (club : ℕ) → as_sum_range (range_at table club) ≡ range_from (value club) fixtures corners

-- what a match is worth to a club if it counts
abbrev pub worth_if : Bool → Worth → Fixture → ℕ → Score → ℤ
worth_if counts worth match club score =
    if counts then worth_to worth club match score else pos 0

-- each club's sum takes what a match is worth to it, and gets no further from 0 than by 255
pub record TableTakes (value : ℕ → Score → ℤ) (corners : List Score) (old new : List IntRange)
    : Type 0 where
  pub long : length new ≡ length old
  pub sums : (club : ℕ) → as_sum_range (range_at new club)
      ≡ added (as_sum_range (range_at old club)) (range_of (value club) corners)
  pub near : (bound : ℕ) → ((club : ℕ) → IsRangeWithin bound (range_at old club))
      → (club : ℕ) → IsRangeWithin (bound + 255) (range_at new club)

-- each club's ranges
abbrev pub HoldRanges : List (List IntRange) → (ℕ → List Range) → Type 0
HoldRanges tables ranges = (club : ℕ) → ranges_at tables club ≡ ranges club
