-- The least and the most points of a box, fixture by fixture and together.
use Rattle.std.specs.Prelude.{◌≡◌, ℕ, ℤ, ◌*◌, min, max, pos, ◌-ℤ◌, ◌≤◌, Bool, true, false, ◌&&◌}
use Rattle.std.specs.Prelude.{if◌then◌else◌, List, [], slice_index_or}
use Rattle.std.specs.List.{list_any}
use Rattle.league_core.specs.declared.sheet.Fixture.{Fixture}
use Rattle.league_core.specs.declared.season.Score.{Score}
use Rattle.league_core.specs.game.Limits.{set_width}
use Rattle.league_core.specs.game.Sums.{has_club}
use Rattle.league_core.specs.search.Options.{is_home_win, is_draw, is_away_win}
use Rattle.league_core.specs.search.PointRanges.{Range, range_of, points_of_sides, points_together}
use Rattle.league_core.specs.search.PointRanges.{total_of, won_points, drawn_points, lost_points}
use Rattle.score_box.specs.declared.cell.Cell.{Cell}
use Rattle.score_box.specs.declared.points.PointRange.{PointRange}
use Rattle.score_box.specs.declared.points.left.OutcomesLeft.{OutcomesLeft}
use Rattle.score_box.specs.declared.points.outcomes.MatchPoints.{MatchPoints}
use Rattle.score_box.specs.declared.points.worth.Worth.{Worth}
use Rattle.score_box.specs.inside.Cells.{IsCellOf, HasPassing}
use Rattle.score_box.specs.inside.Boxes.{AreCellsOf}

-- the most points that can be taken off the clubs of a set: what a byte holds, of each
abbrev pub most_taken_off : ℤ
most_taken_off = pos (set_width * 255)

-- the least of the three that may come; one that may not counts as three, which none exceeds
abbrev pub least_of_three : Bool → Bool → Bool → Bool → Bool → ℕ
least_of_three wins draws losses home away =
    min (min (if wins then won_points home else 3) (if draws then drawn_points home away else 3))
    (if losses then lost_points away else 3)

-- the most of the three that may come; one that may not counts as none
abbrev pub most_of_three : Bool → Bool → Bool → Bool → Bool → ℕ
most_of_three wins draws losses home away =
    max (max (if wins then won_points home else 0) (if draws then drawn_points home away else 0))
    (if losses then lost_points away else 0)

-- the least and the most points that the options of a cell give to the sides that count
pub record IsPointsOf (cell : Cell) (home away : Bool) (points : MatchPoints) : Type 0 where
  pub least : (options : List Score) → IsCellOf cell options
      → pos points.least ≡ (range_of (points_of_sides home away) options).least
  pub most : (options : List Score) → IsCellOf cell options
      → pos points.most ≡ (range_of (points_of_sides home away) options).greatest
  pub at_most : points.most ≤ 3
  pub in_order : points.least ≤ points.most

-- what they give to each side alone
pub record AreWorth (cell : Cell) (worth : Worth) : Type 0 where
  pub home : IsPointsOf cell true false worth.home
  pub away : IsPointsOf cell false true worth.away

-- whether it has a home win, a draw, an away win
pub record AreOutcomesLeft (cell : Cell) (left : OutcomesLeft) : Type 0 where
  pub home_win : HasPassing cell is_home_win left.home_win
  pub draw : HasPassing cell is_draw left.draw
  pub away_win : HasPassing cell is_away_win left.away_win

-- whether the options have a home win, a draw, an away win
pub record AreOutcomesAmong (options : List Score) (left : OutcomesLeft) : Type 0 where
  pub home_win : left.home_win ≡ list_any is_home_win options
  pub draw : left.draw ≡ list_any is_draw options
  pub away_win : left.away_win ≡ list_any is_away_win options

-- what the options of the fixture of a number leave a set of clubs
abbrev pub left_to : List ℕ → List Fixture → List (List Score) → ℕ → Range
left_to clubs fixtures options number =
    range_of (points_together clubs
    (slice_index_or fixtures number (record { home = 0; away = 0 })))
    (slice_index_or options number [])

-- what the options of a match come to for both its sides together, beyond what they come to for
-- each of them alone
abbrev pub beyond_sides : (Range → ℤ) → List Score → ℤ
beyond_sides end options =
    end (range_of (points_of_sides true true) options)
    -ℤ end (range_of (points_of_sides true false) options)
    -ℤ end (range_of (points_of_sides false true) options)

-- the match of a number adds that to a set of clubs if both its clubs are of the set
abbrev pub between_two : (Range → ℤ) → List ℕ → List Fixture → List (List Score) → ℕ → ℤ
between_two end clubs fixtures options number =
    let match = slice_index_or fixtures number (record { home = 0; away = 0 }) in
    if has_club clubs match.home && has_club clubs match.away
    then beyond_sides end (slice_index_or options number []) else pos 0

-- what the matches of some numbers add to the least and the most points of a set of clubs
pub record IsBeyondOver (fixtures : List Fixture) (cells : List Cell) (numbers clubs : List ℕ)
    (points : PointRange) : Type 0 where
  pub least : (options : List (List Score)) → AreCellsOf cells options
      → points.least ≡ total_of (between_two (λ range. range.least) clubs fixtures options) numbers
  pub most : (options : List (List Score)) → AreCellsOf cells options
      → points.most
      ≡ total_of (between_two (λ range. range.greatest) clubs fixtures options) numbers
