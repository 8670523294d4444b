-- What a zone leaves of each fixture: its domain and its extremes, and the points that they give.
use Rattle.std.specs.Prelude.{◌≡◌, ℕ, ◌<◌, List, length, slice_index_or, [], ◌∷◌, pos, ◌-ℤ◌}
use Rattle.league_core.specs.declared.sheet.Sheet.{Sheet}
use Rattle.league_core.specs.declared.season.Score.{Score}
use Rattle.league_core.specs.game.Results.{Results}
use Rattle.league_core.specs.game.Sheets.{IsWithinLimits}
use Rattle.league_core.specs.game.Sums.{match_points, worth_to}
use Rattle.league_core.specs.search.PointRanges.{Range, added, one_value, deducted_from}
use Rattle.check_bounds.specs.declared.score_domain.ScoreDomain.{ScoreDomain}
use Rattle.check_bounds.specs.declared.int_range.IntRange.{IntRange}
use Rattle.check_bounds.specs.inside.ScoreDomains.{IsScoreDomainOf}
use Rattle.check_bounds.specs.inside.ExtremeScores.{AreExtremesOf}
use Rattle.check_bounds.specs.inside.IntRanges.{as_sum_range, range_at}
use Rattle.check_bounds.specs.inside.Tables.{ArePlayedOver, IsTableOf}
use Rattle.check_bounds.specs.declared.open_counts.OpenCounts.{OpenCounts}
use Rattle.check_bounds.specs.inside.OpenCounts.{AreOpenCounts}

-- what is kept of the fixtures of a sheet
pub record CellsView : Type 0 where
  pub sheet : Sheet
  pub scopes : List ScoreDomain
  pub corners : List (List Score)

-- the list of extremes at each place is of the domain there
pub record FitScoreDomains (scopes : List ScoreDomain) (corners : List (List Score)) : Type 0 where
  pub many : length corners ≡ length scopes
  pub each : (k : ℕ) (d : ScoreDomain) → k < length scopes → (options : List Score)
      → IsScoreDomainOf (slice_index_or scopes k d) options
      → AreExtremesOf (slice_index_or corners k []) options

-- each club's match points, from the least to the most
abbrev pub AreWonIn : Sheet → List (List Score) → List IntRange → Type 0
AreWonIn sheet corners won = IsTableOf (worth_to match_points) sheet.fixtures corners won

-- domains of a sheet's fixtures with their extremes, the match points of each club, and how many
-- fixtures are without a score or without one outcome
pub record AreCells (sheet : Sheet) (scopes : List ScoreDomain) (corners : List (List Score))
    (table : List IntRange) (counts : OpenCounts) : Type 0 where
  pub limits : IsWithinLimits sheet
  pub played : ArePlayedOver sheet.fixtures corners
  pub fit : FitScoreDomains scopes corners
  pub won : AreWonIn sheet corners table
  pub loose : AreOpenCounts corners counts

-- a club's points, by its match points in a table and by what is taken off it
abbrev pub points_by_table : Results → List IntRange → ℕ → Range
points_by_table season won club =
    added (as_sum_range (range_at won club))
    (one_value (pos 0 -ℤ deducted_from season (club ∷ [])))
