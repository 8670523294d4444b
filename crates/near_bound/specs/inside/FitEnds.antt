-- What is known of the clubs of a tie while the open fixtures are walked: points from the scores
-- that are fit for them, in the place of those from all that is left; and the rivals that a club
-- cannot meet.
use Rattle.std.specs.Prelude.{◌≡◌, ◌≢◌, ℕ, ◌<◌, ◌+◌, pos, ◌+ℤ◌, ◌-ℤ◌, ◌≤ℤ◌, Bool, true, false, ◌&&◌}
use Rattle.std.specs.Prelude.{List, [], ◌∷◌, length, drop}
use Rattle.std.specs.List.{list_all}
use Rattle.league_core.specs.declared.club_set.ClubSet.{ClubSet}
use Rattle.league_core.specs.declared.sheet.Fixture.{Fixture}
use Rattle.league_core.specs.declared.season.Score.{Score}
use Rattle.league_core.specs.declared.zone.Literal.{Literal}
use Rattle.league_core.specs.game.ClubSets.{clubs_in}
use Rattle.league_core.specs.game.Sums.{has_club}
use Rattle.league_core.specs.search.Options.{options_in, has_option}
use Rattle.league_core.specs.search.PointRanges.{Range, added, range_from, points_together}
use Rattle.league_core.specs.search.PointRanges.{points_range}
use Rattle.near_laws.specs.Fits.{have_fit}
use Rattle.near_bound.specs.declared.able.FitEnds.{FitEnds}
use Rattle.near_bound.specs.declared.points.PointEnds.{PointEnds}
use Rattle.near_bound.specs.declared.tie.Tie.{Tie}
use Rattle.near_bound.specs.inside.AbleRivals.{lacks_fit}
use Rattle.near_bound.specs.inside.Margins.{IsNumberWithin}
use Rattle.near_bound.specs.inside.PairLeads.{HasFit}
use Rattle.near_bound.specs.inside.Points.{range_of_ends, ends_listed}
use Rattle.near_bound.specs.inside.Ties.{IsTieIn, fits_of, range_has_points, match_at}

-- the points lie at least three from both ends of the club's range
pub record IsRoomyClub (tie : Tie) (club : ℕ) : Type 0 where
  pub above : ((ends_listed tie.ends club).least +ℤ pos 3) ≤ℤ tie.points
  pub below : tie.points ≤ℤ ((ends_listed tie.ends club).most -ℤ pos 3)

-- the club does not play in the fixture, and its range has the points
pub record IsIdleClub (tie : Tie) (fixture club : ℕ) : Type 0 where
  pub not_home : (match_at tie fixture).home ≢ club
  pub not_away : (match_at tie fixture).away ≢ club
  pub has : range_has_points tie club ≡ true

-- of each fixture what the zone leaves
abbrev pub left_options : Tie → List Literal → List (List Score)
left_options tie zone = options_in tie.left.now.sheet.now tie.left.now.season.now zone

-- a club's points from the fixtures from a number on, if they have these options
abbrev pub later_points : Tie → ℕ → ℕ → List (List Score) → Range
later_points tie club count options =
    range_from (points_together (club ∷ [])) (drop count tie.left.now.sheet.now.fixtures)
    (drop count options)

-- each of the fixtures so far has an option
abbrev pub HaveSome : List (List Score) → ℕ → Type 0
HaveSome options count = list_all has_option options ≡ list_all has_option (drop count options)

-- so many fixtures have a fit score for the club; the points are those from fit scores there, and
-- from all that is left of the others
pub record IsFitSoFar (tie : Tie) (zone : List Literal) (club count : ℕ) (ends : PointEnds)
    : Type 0 where
  pub some : HaveSome (fits_of tie zone (club ∷ [])) count
  pub points : added (range_of_ends ends) (later_points tie club count
      (fits_of tie zone (club ∷ [])))
      ≡ added (points_range tie.left.now.sheet.now tie.left.now.season.now
      (fits_of tie zone (club ∷ [])) (club ∷ []))
      (later_points tie club count (left_options tie zone))

-- the same, unless some fixture has no fit score for the club
abbrev pub IsClubSoFar : Tie → List Literal → ℕ → ℕ → PointEnds → Bool → Type 0
IsClubSoFar tie zone club count ends true =
    have_fit tie.left.now.sheet.now tie.left.now.season.now zone tie.points (club ∷ []) ≡ false
IsClubSoFar tie zone club count ends false = IsFitSoFar tie zone club count ends

-- what is kept is so of each club that has the points in its range
abbrev pub AreClubsSoFar : Tie → ℕ → FitEnds → Type 0
AreClubsSoFar tie count all =
    (zone : List Literal) → IsTieIn tie zone → (club : ℕ)
    → club < length tie.left.now.sheet.now.clubs → range_has_points tie club ≡ true
    → IsClubSoFar tie zone club count (ends_listed all.ends club)
    (has_club (clubs_in all.lacking) club)

-- one fixture more is looked at for a club
abbrev pub ClubTakes : Tie → ℕ → ℕ → FitEnds → FitEnds → Type 0
ClubTakes tie fixture club old new =
    (zone : List Literal) → IsTieIn tie zone → range_has_points tie club ≡ true
    → IsClubSoFar tie zone club fixture (ends_listed old.ends club)
    (has_club (clubs_in old.lacking) club)
    → IsClubSoFar tie zone club (fixture + 1) (ends_listed new.ends club)
    (has_club (clubs_in new.lacking) club)

-- nothing changes for the clubs but one
pub record AreOthersKept (club : ℕ) (old new : FitEnds) : Type 0 where
  pub ends : (other : ℕ) → other ≢ club → ends_listed new.ends other ≡ ends_listed old.ends other
  pub lacking : (other : ℕ) → other ≢ club → has_club (clubs_in new.lacking) other
      ≡ has_club (clubs_in old.lacking) other

-- both ends are at most so far from zero
abbrev pub AreFitEndsNear : ℕ → PointEnds → Type 0
AreFitEndsNear bound ends = IsNumberWithin bound ends.least × IsNumberWithin bound ends.most

-- so are those of each club
abbrev pub AreAllNear : Tie → ℕ → List PointEnds → Type 0
AreAllNear tie bound ends =
    (club : ℕ) → club < length tie.left.now.sheet.now.clubs
    → AreFitEndsNear bound (ends_listed ends club)

-- each of so many fixtures has a score that is fit for the club and the rival, unless the rival is
-- among those that are found to have a match without one
abbrev pub IsRivalSoFar : Tie → List Literal → ℕ → ℕ → ℕ → Bool → Type 0
IsRivalSoFar tie zone club rival count true = lacks_fit tie zone club rival ≡ true
IsRivalSoFar tie zone club rival count false =
    HaveSome (fits_of tie zone (club ∷ rival ∷ [])) count

-- these two are the sides of a match: no other club plays in it
abbrev pub AreSides : Fixture → ℕ → ℕ → Type 0
AreSides match club rival =
    (other : ℕ) → other ≢ club → other ≢ rival → (match.home ≢ other) × (match.away ≢ other)

-- what is kept is so of each club that has fit scores, as the one club has
abbrev pub AreRivalsSoFar : Tie → ℕ → ℕ → ClubSet → Type 0
AreRivalsSoFar tie club count apart =
    (zone : List Literal) → IsTieIn tie zone → HasFit tie zone club → (rival : ℕ)
    → rival < length tie.left.now.sheet.now.clubs → rival ≢ club → HasFit tie zone rival
    → IsRivalSoFar tie zone club rival count (has_club (clubs_in apart) rival)

-- the set has those of the rivals with which the club has a match without a score that is fit for
-- both, if each of them has fit scores
abbrev pub AreApartIfFit : Tie → ClubSet → ℕ → ClubSet → Type 0
AreApartIfFit tie rivals club apart =
    (zone : List Literal) → IsTieIn tie zone → HasFit tie zone club
    → ((rival : ℕ) → has_club (clubs_in rivals) rival ≡ true → HasFit tie zone rival)
    → (rival : ℕ) → has_club (clubs_in apart) rival
    ≡ (has_club (clubs_in rivals) rival && lacks_fit tie zone club rival)
