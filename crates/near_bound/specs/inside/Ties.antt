-- What is kept of a number of points on which clubs may end level, and what it stands for.
use Rattle.std.specs.Prelude.{◌≡◌, ℕ, ◌<◌, Bool, true, List, length}
use Rattle.std.specs.Prelude.{slice_index_or}
use Rattle.league_core.specs.declared.sheet.Fixture.{Fixture}
use Rattle.league_core.specs.declared.season.Score.{Score}
use Rattle.league_core.specs.declared.zone.Literal.{Literal}
use Rattle.league_core.specs.search.Options.{has_finish}
use Rattle.near_laws.specs.Fits.{range_in, fit_options, leaves_points}
use Rattle.near_bound.specs.declared.tie.Tie.{Tie}
use Rattle.near_bound.specs.inside.Points.{range_of_ends, AreEndsOfClub, IsPoints}
use Rattle.near_bound.specs.inside.Points.{ends_listed}
use Rattle.near_bound.specs.inside.ZonesLeft.{IsZoneLeft, StandsFor}

-- numbers that are not far from what clubs can have
pub record IsTie (tie : Tie) : Type 0 where
  pub left : IsZoneLeft tie.left.now
  pub points : IsPoints tie.points
  pub long : length tie.ends ≡ 32
  pub near : (club : ℕ) → club < length tie.left.now.sheet.now.clubs
      → AreEndsOfClub (ends_listed tie.ends club)

-- the points are those that the clubs can have in the zone, which has a finish
pub record IsTieIn (tie : Tie) (zone : List Literal) : Type 0 where
  pub stands : StandsFor tie.left.now zone
  pub finish : has_finish tie.left.now.sheet.now tie.left.now.season.now zone ≡ true
  pub ends : (club : ℕ) → club < length tie.left.now.sheet.now.clubs
      → range_of_ends (ends_listed tie.ends club)
      ≡ range_in tie.left.now.sheet.now tie.left.now.season.now zone club

-- of each fixture the options that are fit for these clubs
abbrev pub fits_of : Tie → List Literal → List ℕ → List (List Score)
fits_of tie zone clubs =
    fit_options tie.left.now.sheet.now tie.left.now.season.now zone tie.points clubs

-- a club's points can be these, as far as its range tells
abbrev pub range_has_points : Tie → ℕ → Bool
range_has_points tie club = leaves_points (range_of_ends (ends_listed tie.ends club)) tie.points

-- a match of the sheet
abbrev pub match_at : Tie → ℕ → Fixture
match_at tie fixture =
    slice_index_or tie.left.now.sheet.now.fixtures fixture (record { home = 0; away = 0 })
