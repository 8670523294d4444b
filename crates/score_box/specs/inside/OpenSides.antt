-- The clubs of the matches that are not played, each match's as a set.
use Rattle.std.specs.Prelude.{◌≡◌, ℕ, ◌<◌, ◌≤◌, ◌==◌, Bool, false, ◌&&◌, ◌||◌, List, length}
use Rattle.std.specs.Prelude.{slice_index_or}
use Rattle.league_core.specs.declared.club_set.ClubSet.{ClubSet}
use Rattle.league_core.specs.declared.sheet.Fixture.{Fixture}
use Rattle.league_core.specs.game.ClubSets.{clubs_in}
use Rattle.league_core.specs.game.Sums.{has_club}
use Rattle.score_box.specs.inside.Boxes.{IsSetOf}

-- the club is one of the two of a match
abbrev pub is_side : Fixture → ℕ → Bool
is_side match club = (match.home == club) || (match.away == club)

-- both clubs of a match are of the group
abbrev pub are_of_group : ClubSet → Fixture → Bool
are_of_group group match =
    has_club (clubs_in group) match.home && has_club (clubs_in group) match.away

-- from one place up to another, no match has both its clubs in the group
abbrev pub NoneBetween : List ClubSet → ClubSet → ℕ → ℕ → Type 0
NoneBetween sides group from to =
    (place : ℕ) → from ≤ place → place < to → (match : Fixture)
    → ((d : ClubSet) → IsSetOf (slice_index_or sides place d) (is_side match))
    → are_of_group group match ≡ false

-- the sets are those of the two clubs of these fixtures
pub record AreSidesOf (fixtures : List Fixture) (numbers : List ℕ) (sides : List ClubSet) : Type 0
  where
    pub many : length sides ≡ length numbers
    pub each : (place : ℕ) (d : ClubSet) → place < length numbers
        → IsSetOf (slice_index_or sides place d) (is_side (slice_index_or fixtures
        (slice_index_or numbers place 0) (record { home = 0; away = 0 })))
