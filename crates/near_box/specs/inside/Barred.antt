-- Rivals that cannot end level with the club on some points.
use Rattle.std.specs.Prelude.{◌≡◌, ℕ, ◌<◌, Bool, true, ◌&&◌, List, length}
use Rattle.league_core.specs.declared.club_set.ClubSet.{ClubSet}
use Rattle.league_core.specs.declared.zone.Literal.{Literal}
use Rattle.league_core.specs.game.ClubSets.{clubs_in}
use Rattle.league_core.specs.game.Sums.{has_club}
use Rattle.league_core.specs.search.Options.{has_finish}
use Rattle.near_laws.specs.Near.{cannot_both_have}
use Rattle.near_bound.specs.declared.level.Level.{Level}
use Rattle.near_bound.specs.declared.zone_left.ZoneLeft.{ZoneLeft}
use Rattle.near_bound.specs.inside.AllEnds.{AreAllEnds}
use Rattle.near_bound.specs.inside.Levels.{IsLevel, IsLevelOf}
use Rattle.near_bound.specs.inside.Points.{IsPoints}
use Rattle.near_bound.specs.inside.ZonesLeft.{IsZoneLeft, StandsFor}
use Rattle.near_box.specs.declared.side.Side.{Side}

-- what a zone leaves, with the points of its clubs, and a club on some points
pub record IsSide (side : Side) : Type 0 where
  pub left : IsZoneLeft side.left.now
  pub ends : AreAllEnds side.left.now side.ends.now
  pub points : IsPoints side.points
  pub in_range : side.club < length side.left.now.sheet.now.clubs

-- the club's level there
pub record IsLevelOfSide (side : Side) (level : Level) : Type 0 where
  pub is_level : IsLevel level
  pub of_side : IsLevelOf side.left.now side.points side.club level

-- each club of the set is one of the sheet
abbrev pub AreClubsLeft : ZoneLeft → ClubSet → Type 0
AreClubsLeft left set =
    (club : ℕ) → has_club (clubs_in set) club ≡ true → club < length left.sheet.now.clubs

-- the rival is one of the set, and it and the club are not both on the points
abbrev pub is_barred_at : Side → List Literal → ClubSet → ℕ → Bool
is_barred_at side zone rivals rival =
    has_club (clubs_in rivals) rival
    && cannot_both_have side.left.now.sheet.now side.left.now.season.now zone side.points side.club
    rival

-- the set has those of the rivals that are barred so
abbrev pub AreBarred : Side → ClubSet → ClubSet → Type 0
AreBarred side rivals barred =
    (zone : List Literal) → StandsFor side.left.now zone
    → has_finish side.left.now.sheet.now side.left.now.season.now zone ≡ true → (rival : ℕ)
    → has_club (clubs_in barred) rival ≡ is_barred_at side zone rivals rival
