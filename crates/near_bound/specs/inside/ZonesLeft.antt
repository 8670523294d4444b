-- What the test of the near reason looks at, and the zones that this stands for.
use Rattle.std.specs.Prelude.{◌≡◌, ℕ, ◌<◌, Bool, List, [], length, slice_index_or}
use Rattle.league_core.specs.declared.club_set.ClubSet.{ClubSet}
use Rattle.league_core.specs.declared.season.Score.{Score}
use Rattle.league_core.specs.declared.zone.Literal.{Literal}
use Rattle.league_core.specs.game.Seasons.{IsLeague}
use Rattle.league_core.specs.game.Sums.{has_club}
use Rattle.league_core.specs.game.ClubSets.{clubs_in}
use Rattle.league_core.specs.search.Options.{options_in}
use Rattle.league_core.specs.search.Zones.{marked_before, marked_after}
use Rattle.near_bound.specs.declared.match_left.MatchLeft.{MatchLeft}
use Rattle.near_bound.specs.declared.zone_left.ZoneLeft.{ZoneLeft}
use Rattle.near_bound.specs.inside.MatchesLeft.{IsLeftOf}
use Rattle.near_bound.specs.inside.PlayedParts.{IsPlayedPart}

-- for each fixture what is left of it
pub record AreLeftOf (matches : List MatchLeft) (options : List (List Score)) : Type 0 where
  pub many : length matches ≡ length options
  pub each : (k : ℕ) (d : MatchLeft) → k < length matches
      → IsLeftOf (slice_index_or matches k d) (slice_index_or options k [])

-- a sheet with a season of it, what is played in this, and something left for each fixture
pub record IsZoneLeft (left : ZoneLeft) : Type 0 where
  pub league : IsLeague left.sheet.now left.season.now
  pub played : IsPlayedPart left.sheet.now left.season.now left.played.now
  pub many : length left.matches.now ≡ length left.sheet.now.fixtures

-- the set has the rivals that the zone marks so
abbrev pub AreMarkedRivals : ClubSet → (ℕ → Bool) → Type 0
AreMarkedRivals set is_marked = (rival : ℕ) → has_club (clubs_in set) rival ≡ is_marked rival

-- what is left is what the zone leaves, and the marks are those of the zone
pub record StandsFor (left : ZoneLeft) (zone : List Literal) : Type 0 where
  pub matches : AreLeftOf left.matches.now
      (options_in left.sheet.now left.season.now zone)
  pub before : AreMarkedRivals left.before (marked_before zone)
  pub after : AreMarkedRivals left.after (marked_after zone)
