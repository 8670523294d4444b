-- The points of all clubs of a zone, each club's at its number in a table.
use Rattle.std.specs.Prelude.{◌≡◌, ℕ, ◌<◌, pos, ◌+ℤ◌, List, [], ◌∷◌, length}
use Rattle.league_core.specs.declared.sheet.Fixture.{Fixture}
use Rattle.league_core.specs.declared.season.Score.{Score}
use Rattle.league_core.specs.declared.zone.Literal.{Literal}
use Rattle.league_core.specs.search.Options.{options_in}
use Rattle.league_core.specs.search.PointRanges.{range_of, range_from, points_together}
use Rattle.near_laws.specs.Fits.{range_in}
use Rattle.near_bound.specs.declared.match_left.MatchLeft.{MatchLeft}
use Rattle.near_bound.specs.declared.points.PointEnds.{PointEnds}
use Rattle.near_bound.specs.declared.zone_left.ZoneLeft.{ZoneLeft}
use Rattle.near_bound.specs.inside.MatchesLeft.{IsLeftOf}
use Rattle.near_bound.specs.inside.Points.{range_of_ends, ends_listed, AreEndsWithin, AreEndsOfClub}
use Rattle.near_bound.specs.inside.ZonesLeft.{StandsFor}

-- the match points that a match leaves a club
pub record AreEndsAt (left : MatchLeft) (match : Fixture) (club : ℕ) (here : PointEnds) : Type 0
  where
    pub within : AreEndsWithin (pos 3) here
    pub range : (options : List Score) → IsLeftOf left options
        → range_of_ends here ≡ range_of (points_together (club ∷ []) match) options

-- both together
pub record AreBoth (old here new : PointEnds) : Type 0 where
  pub least : new.least ≡ old.least +ℤ here.least
  pub most : new.most ≡ old.most +ℤ here.most

-- each club's points take those that a match leaves it
abbrev pub AddsAtBoth : MatchLeft → Fixture → List PointEnds → List PointEnds → Type 0
AddsAtBoth left match old new =
    (club : ℕ) → (here : PointEnds) × AreEndsAt left match club here
    × AreBoth (ends_listed old club) here (ends_listed new club)

-- the match points of each club over all fixtures
pub record AreAllWon (left : ZoneLeft) (won : List PointEnds) : Type 0 where
  pub near : (club : ℕ) → AreEndsWithin (pos 1800) (ends_listed won club)
  pub range : (zone : List Literal) → StandsFor left zone → (club : ℕ)
      → range_of_ends (ends_listed won club)
      ≡ range_from (points_together (club ∷ [])) left.sheet.now.fixtures
      (options_in left.sheet.now left.season.now zone)

-- the points of each club, deductions taken off
pub record AreAllEnds (left : ZoneLeft) (ends : List PointEnds) : Type 0 where
  pub near : (club : ℕ) → club < length left.sheet.now.clubs
      → AreEndsOfClub (ends_listed ends club)
  pub range : (zone : List Literal) → StandsFor left zone → (club : ℕ)
      → club < length left.sheet.now.clubs → range_of_ends (ends_listed ends club)
      ≡ range_in left.sheet.now left.season.now zone club
