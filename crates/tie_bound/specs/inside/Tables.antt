-- Tables of the clubs' sums over the fixtures of a box.
use Rattle.std.specs.Prelude.{◌≡◌, ◌⊎◌, ℕ, ◌+◌, ◌<◌, ℤ, true, false, List, [], slice_index_or}
use Rattle.league_core.specs.declared.sheet.Fixture.{Fixture}
use Rattle.league_core.specs.declared.season.Score.{Score}
use Rattle.league_core.specs.game.Sums.{Worth, has_club, worth_to}
use Rattle.league_core.specs.search.PointRanges.{Range, range_of, range_from}
use Rattle.tie_criteria.specs.declared.measure.Measure.{Measure}
use Rattle.tie_criteria.specs.inside.Measures.{worth_of}
use Rattle.score_box.specs.declared.cell.Cell.{Cell}
use Rattle.score_box.specs.inside.Cells.{IsCellOf}
use Rattle.score_box.specs.inside.Unplayed.{unplayed_in, open_match}
use Rattle.score_box.specs.inside.ZoneBoxViews.{ZoneBoxView}
use Rattle.tie_bound.specs.declared.sums.Sums.{Sums}
use Rattle.tie_bound.specs.inside.Boxes.{options_in_box}
use Rattle.tie_bound.specs.inside.Sums.{range_by, sums_at, AreNear, RangesGrowBy}

-- what a match is worth to a club, if a worth and a club are given
abbrev pub Value : Type 0
Value = Worth → ℕ → Fixture → Score → ℤ

-- the table has each club's ranges over these fixtures, no number of them far from zero
pub record AreSums (value : Value) (fixtures : List Fixture) (options : List (List Score))
    (table : List Sums) : Type 0 where
  pub each : (club : ℕ) (measure : Measure)
      → range_by (sums_at table club) measure ≡ range_from (value (worth_of measure) club) fixtures
      options
  pub near : (club : ℕ) → AreNear 6000000 (sums_at table club)

-- each club's sums grow by what the options of the match are worth to it
abbrev pub AddsRangesOfMatch : Value → Fixture → Cell → List Sums → List Sums → Type 0
AddsRangesOfMatch value match cell old new =
    (options : List Score) → IsCellOf cell options → (club : ℕ)
    → RangesGrowBy (λ measure. range_of (value (worth_of measure) club match) options)
    (sums_at old club) (sums_at new club)

-- the options of the match of a place among those that are not played
abbrev pub open_options : ZoneBoxView → ℕ → List Score
open_options box place =
    slice_index_or (options_in_box box) (slice_index_or (unplayed_in box.season.scores) place 0) []

-- by a measure, what the options of that match are worth to a club
abbrev pub open_range : Value → ZoneBoxView → ℕ → ℕ → Measure → Range
open_range value box place club measure =
    range_of (value (worth_of measure) club
    (open_match box.sheet.fixtures box.season.scores place)) (open_options box place)

-- each club's sums grow by that
abbrev pub AddsOpenMatch : Value → ZoneBoxView → ℕ → List Sums → List Sums → Type 0
AddsOpenMatch value box place old new =
    (club : ℕ) → RangesGrowBy (open_range value box place club) (sums_at old club)
    (sums_at new club)

-- so do those of each club that is not one of the others; and none grows much
abbrev pub AddsOpenBut : List ℕ → ZoneBoxView → ℕ → List Sums → List Sums → Type 0
AddsOpenBut others box place old new =
    (club : ℕ)
    → (has_club others club ≡ false → RangesGrowBy (open_range worth_to box place club)
    (sums_at old club) (sums_at new club))
    × ((bound : ℕ) → AreNear bound (sums_at old club) → AreNear (bound + 255) (sums_at new club))

-- of so many clubs this is a wanted one, or it is a number that is no club's
abbrev pub IsWanted : ℕ → List ℕ → ℕ → Type 0
IsWanted clubs wanted club = club < clubs → has_club wanted club ≡ true

-- the table has the ranges over all matches of those clubs of which something is so
abbrev pub AreSumsOfThose : (ℕ → Type 0) → List Fixture → List (List Score) → List Sums → Type 0
AreSumsOfThose IsOne fixtures options table =
    (club : ℕ) → IsOne club → (measure : Measure) → range_by (sums_at table club) measure
    ≡ range_from (worth_to (worth_of measure) club) fixtures options

-- of the clubs of a group and of one club besides
abbrev pub AreSumsFor : List ℕ → ℕ → List Fixture → List (List Score) → List Sums → Type 0
AreSumsFor group club =
    AreSumsOfThose (λ other. (has_club group other ≡ true) ⊎ (other ≡ club))
