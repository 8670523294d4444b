-- Boxes: the cells of a zone in the order of the fixtures, and the rivals that the zone marks. A
-- box is seen as what it was made from.
use Rattle.std.specs.Prelude.{◌≡◌, ℕ, ◌<◌, Bool, not, List, [], length, count_by, slice_index_or}
use Rattle.std.specs.List.{All}
use Rattle.league_core.specs.declared.season.Score.{Score}
use Rattle.league_core.specs.declared.club_set.ClubSet.{ClubSet}
use Rattle.league_core.specs.declared.zone.Test.{Test}
use Rattle.league_core.specs.declared.zone.Test.TheVariants.{Home, Draw, HomeMost, AwayMost, Rival}
use Rattle.league_core.specs.game.Sums.{has_club}
use Rattle.league_core.specs.game.ClubSets.{clubs_in}
use Rattle.league_core.specs.search.Options.{has_one_outcome}
use Rattle.score_box.specs.declared.cell.Cell.{Cell}
use Rattle.score_box.specs.inside.Cells.{IsCellOf, IsExactCell}

-- one exact cell for each fixture, which has the fixture's options
pub record AreCellsOf (cells : List Cell) (options : List (List Score)) : Type 0 where
  pub many : length cells ≡ length options
  pub each : (k : ℕ) (d : Cell) → k < length cells
      → IsCellOf (slice_index_or cells k d) (slice_index_or options k [])
  pub exact : All IsExactCell cells

-- the cells have the options of some lists
abbrev pub HasOptions : List Cell → Type 0
HasOptions cells = (options : List (List Score)) × AreCellsOf cells options

-- a set has the clubs that pass a test, and no other
abbrev pub IsSetOf : ClubSet → (ℕ → Bool) → Type 0
IsSetOf set test = (club : ℕ) → has_club (clubs_in set) club ≡ test club

-- how many fixtures have options of several outcomes
abbrev pub open_outcomes_in : List (List Score) → ℕ
open_outcomes_in options = count_by (λ scores. not (has_one_outcome scores)) options

-- a test of a fixture or a club below these numbers
abbrev pub IsTestBelow : ℕ → ℕ → Test → Type 0
IsTestBelow fixtures clubs (Home fixture) = fixture < fixtures
IsTestBelow fixtures clubs (Draw fixture) = fixture < fixtures
IsTestBelow fixtures clubs (HomeMost fixture most) = fixture < fixtures
IsTestBelow fixtures clubs (AwayMost fixture most) = fixture < fixtures
IsTestBelow fixtures clubs (Rival club) = club < clubs
