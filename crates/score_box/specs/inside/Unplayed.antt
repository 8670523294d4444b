-- The fixtures of a season that are not played.
use Rattle.std.specs.Prelude.{ℕ, Bool, true, false, List, length, filter, Option, Some, None}
use Rattle.std.specs.Prelude.{slice_index_or}
use Rattle.std.specs.List.{range_with_len}
use Rattle.league_core.specs.declared.season.Score.{Score}
use Rattle.league_core.specs.declared.club_set.ClubSet.{ClubSet}
use Rattle.league_core.specs.declared.sheet.Fixture.{Fixture}
use Rattle.score_box.specs.inside.OpenSides.{are_of_group}
use Rattle.score_box.specs.inside.ZoneBoxViews.{ZoneBoxView}

-- no score yet
abbrev pub is_unplayed : Option Score → Bool
is_unplayed None = true
is_unplayed (Some score) = false

-- the fixtures below a number that have no score, in the order of the sheet
unfoldable pub unplayed_below : ℕ → List (Option Score) → List ℕ
unplayed_below count scores =
    filter (λ fixture. is_unplayed (slice_index_or scores fixture None)) (range_with_len 0 count)

-- the fixtures that have no score, in the order of the sheet
abbrev pub unplayed_in : List (Option Score) → List ℕ
unplayed_in scores = unplayed_below (length scores) scores

-- the match of a place among those that are not played
abbrev pub open_match : List Fixture → List (Option Score) → ℕ → Fixture
open_match fixtures scores place =
    slice_index_or fixtures (slice_index_or (unplayed_in scores) place 0)
    (record { home = 0; away = 0 })

-- both clubs of that match are of the group
abbrev pub are_open_among : ZoneBoxView → ClubSet → ℕ → Bool
are_open_among box group place =
    are_of_group group (open_match box.sheet.fixtures box.season.scores place)
