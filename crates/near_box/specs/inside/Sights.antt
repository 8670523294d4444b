-- What is seen of the rivals in the zone of a box.
use Rattle.std.specs.Prelude.{◌≡◌, ℕ, ◌<◌, true, false, ◌||◌, Option, None, Some, IfSome}
use Rattle.league_core.specs.declared.club_set.ClubSet.{ClubSet}
use Rattle.league_core.specs.declared.question.Question.{Question}
use Rattle.league_core.specs.declared.sheet.Sheet.{Sheet}
use Rattle.league_core.specs.game.ClubSets.{clubs_in}
use Rattle.league_core.specs.game.Results.{Results}
use Rattle.league_core.specs.game.Sums.{has_club}
use Rattle.near_laws.specs.Near.{has_near_reason, is_pressed_from_behind, is_pressed_from_ahead}
use Rattle.score_box.specs.inside.Boxes.{IsSetOf}
use Rattle.score_box.specs.inside.ZoneBoxViews.{ZoneBoxView}
use Rattle.near_box.specs.declared.keep.NearKeep.{NearKeep}
use Rattle.near_box.specs.declared.keep.Rivals.{Rivals}
use Rattle.near_box.specs.inside.Pressed.{AreClubsOfBox}
use Rattle.near_box.specs.inside.ZoneMatches.{AreMatchesOfSeason}

-- what is kept is of the season; what the tables have does not matter
abbrev pub IsKeepOf : Sheet → Results → NearKeep → Type 0
IsKeepOf sheet season keep = AreMatchesOfSeason sheet season keep.matches

-- the rivals that are pressed, on each side of the club
abbrev pub ArePressed : ZoneBoxView → Question → Rivals → Type 0
ArePressed box question rivals =
    IsSetOf rivals.behind (is_pressed_from_behind box.sheet box.season question box.zone)
    × IsSetOf rivals.ahead (is_pressed_from_ahead box.sheet box.season question box.zone)

-- clubs of the sheet
abbrev pub AreRivalsOfBox : ZoneBoxView → Rivals → Type 0
AreRivalsOfBox box rivals = AreClubsOfBox box rivals.behind × AreClubsOfBox box rivals.ahead

-- the first club of two sets, if they have one
abbrev pub IsFirstOf : ClubSet → ClubSet → Option ℕ → Type 0
IsFirstOf one other None =
    (club : ℕ) → (has_club (clubs_in one) club || has_club (clubs_in other) club) ≡ false
IsFirstOf one other (Some first) =
    ((has_club (clubs_in one) first || has_club (clubs_in other) first) ≡ true)
    × ((earlier : ℕ) → earlier < first
    → (has_club (clubs_in one) earlier || has_club (clubs_in other) earlier) ≡ false)

-- the first rival by which the near reason holds, if it holds by one
pub record IsFirstNear (box : ZoneBoxView) (question : Question) (near : Option ℕ) : Type 0 where
  pub found : IfSome near
      (λ rival. has_near_reason box.sheet box.season question box.zone rival ≡ true)
  pub first : IfSome near (λ rival. (earlier : ℕ) → earlier < rival
      → has_near_reason box.sheet box.season question box.zone earlier ≡ false)
  pub absent : near ≡ None → (rival : ℕ)
      → has_near_reason box.sheet box.season question box.zone rival ≡ false
