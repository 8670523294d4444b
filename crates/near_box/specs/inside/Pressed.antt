-- The rivals that are pressed in the zone of a box.
use Rattle.std.specs.Prelude.{◌≡◌, ℕ, ◌<◌, Bool, true, ◌||◌, length}
use Rattle.league_core.specs.declared.club_set.ClubSet.{ClubSet}
use Rattle.league_core.specs.declared.question.Question.{Question}
use Rattle.league_core.specs.game.ClubSets.{clubs_in}
use Rattle.league_core.specs.game.Sums.{has_club}
use Rattle.near_laws.specs.Near.{is_pressed_from_behind, is_pressed_from_ahead}
use Rattle.score_box.specs.inside.ZoneBoxViews.{ZoneBoxView}

-- from behind the question's club or from ahead
abbrev pub is_pressed_in : ZoneBoxView → Question → ℕ → Bool
is_pressed_in box question rival =
    is_pressed_from_behind box.sheet box.season question box.zone rival
    || is_pressed_from_ahead box.sheet box.season question box.zone rival

-- each club of the set is one of the sheet
abbrev pub AreClubsOfBox : ZoneBoxView → ClubSet → Type 0
AreClubsOfBox box set =
    (club : ℕ) → has_club (clubs_in set) club ≡ true → club < length box.sheet.clubs
