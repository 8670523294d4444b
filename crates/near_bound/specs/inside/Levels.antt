-- A club on a number of points: what is kept of it for all of its rivals.
use Rattle.std.specs.Prelude.{◌≡◌, ℕ, ℤ, true, ◌&&◌, nat_lt, List, length}
use Rattle.league_core.specs.declared.club_set.ClubSet.{ClubSet}
use Rattle.league_core.specs.declared.zone.Literal.{Literal}
use Rattle.league_core.specs.game.ClubSets.{clubs_in}
use Rattle.league_core.specs.game.Sums.{has_club}
use Rattle.league_core.specs.search.Options.{has_finish}
use Rattle.near_laws.specs.Fits.{is_surely_on}
use Rattle.near_bound.specs.declared.zone_left.ZoneLeft.{ZoneLeft}
use Rattle.near_bound.specs.declared.tie.Tie.{Tie}
use Rattle.near_bound.specs.declared.level.Level.{Level}
use Rattle.near_bound.specs.declared.lead_table.LeadTable.{LeadTable}
use Rattle.near_bound.specs.inside.ZonesLeft.{StandsFor}
use Rattle.near_bound.specs.inside.Ties.{IsTie, IsTieIn}
use Rattle.near_bound.specs.inside.GroupsLeft.{AreRivals, AreAmong, IsLeadTableOf}
use Rattle.near_bound.specs.inside.AbleRivals.{is_able_in, lacks_fit, AreAbleRivals}

-- the set has the clubs that can have the points
abbrev pub AreAbleClubs : Tie → ClubSet → Type 0
AreAbleClubs tie able =
    (zone : List Literal) → IsTieIn tie zone → (club : ℕ) → has_club (clubs_in able) club
    ≡ (nat_lt club (length tie.left.now.sheet.now.clubs) && is_able_in tie zone club)

-- of the rivals those that are on the points whatever happens
abbrev pub AreSurelyOn : Tie → ClubSet → ClubSet → Type 0
AreSurelyOn tie rivals core =
    (zone : List Literal) → IsTieIn tie zone → (other : ℕ) → has_club (clubs_in core) other
    ≡ (has_club (clubs_in rivals) other
    && is_surely_on tie.left.now.sheet.now tie.left.now.season.now zone tie.points other)

-- of the rivals those that have a match with the club without a score that is fit for both, if the
-- club is able
abbrev pub AreApart : Tie → ClubSet → ℕ → ClubSet → Type 0
AreApart tie rivals club apart =
    (zone : List Literal) → IsTieIn tie zone → is_able_in tie zone club ≡ true → (other : ℕ)
    → has_club (clubs_in apart) other
    ≡ (has_club (clubs_in rivals) other && lacks_fit tie zone club other)

-- a tie of all zones that what is left stands for, and sets of clubs by their definitions
pub record IsLevel (level : Level) : Type 0 where
  pub tie_is : IsTie level.tie
  pub zones : (zone : List Literal) → StandsFor level.tie.left.now zone
      → has_finish level.tie.left.now.sheet.now level.tie.left.now.season.now zone ≡ true
      → IsTieIn level.tie zone
  pub able : AreAbleClubs level.tie level.able
  pub are_rivals : AreRivals level.tie level.rivals level.club
  pub able_rivals : AreAbleRivals level.tie level.rivals level.club
  pub core_in : AreAmong level.core level.rivals
  pub core : AreSurelyOn level.tie level.rivals level.core
  pub apart : AreApart level.tie level.rivals level.club level.apart

-- what it is a level of
pub record IsLevelOf (left : ZoneLeft) (points : ℤ) (club : ℕ) (level : Level) : Type 0 where
  pub left_is : level.tie.left.now ≡ left
  pub points_is : level.tie.points ≡ points
  pub club_is : level.club ≡ club

-- what the table has are leads of this level
abbrev pub IsTableAt : Level → LeadTable → Type 0
IsTableAt level table = IsLeadTableOf level.tie level.rivals level.club table
