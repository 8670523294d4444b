-- Cuts: how far a set of rivals goes beyond what the club's own points allow, and which of the sets
-- that do so is found. If many sets would do, the choice is this project's own.
use Rattle.std.specs.Prelude.{◌≡◌, ◌≢◌, ℕ, ◌<◌, ℤ, pos, ◌-ℤ◌, ◌≤ℤ◌, ◌<ℤ◌, Bool, true, not, ◌&&◌}
use Rattle.std.specs.Prelude.{◌==◌, IsTrue, List, [], ◌∷◌}
use Rattle.std.specs.List.{list_all}
use Rattle.league_core.specs.declared.sheet.Sheet.{Sheet}
use Rattle.league_core.specs.declared.question.Question.{Question}
use Rattle.league_core.specs.declared.zone.Literal.{Literal}
use Rattle.league_core.specs.declared.club_set.ClubSet.{ClubSet}
use Rattle.league_core.specs.game.Results.{Results}
use Rattle.league_core.specs.game.Sums.{has_club}
use Rattle.league_core.specs.game.ClubSets.{clubs_in}
use Rattle.league_core.specs.search.PointRanges.{least_points_of, most_points_of, own_most}
use Rattle.league_core.specs.search.PointRanges.{own_least}
use Rattle.league_core.specs.search.Reasons.{times}

-- how many more points the clubs must have together than if each had the most of the question's
-- club
abbrev pub low_excess : Sheet → Results → Question → List Literal → List ℕ → ℤ
low_excess sheet season question zone clubs =
    least_points_of sheet season zone clubs -ℤ times clubs (own_most sheet season question zone)

-- how many fewer points they can have together than if each had the least of the question's club
abbrev pub high_excess : Sheet → Results → Question → List Literal → List ℕ → ℤ
high_excess sheet season question zone clubs =
    times clubs (own_least sheet season question zone) -ℤ most_points_of sheet season zone clubs

-- all clubs of the set are marked
abbrev pub AreMarked : (ℕ → Bool) → ClubSet → Type 0
AreMarked marked set = IsTrue (list_all marked (clubs_in set))

-- this marked club has an excess alone, and none before it in the sheet has
pub record IsFirstAlone (marked : ℕ → Bool) (excess : List ℕ → ℤ) (club : ℕ) : Type 0 where
  pub has_mark : marked club ≡ true
  pub exceeds : pos 0 <ℤ excess (club ∷ [])
  pub none_before : (earlier : ℕ) → earlier < club → marked earlier ≡ true
      → excess (earlier ∷ []) ≤ℤ pos 0

-- no marked club has an excess alone
abbrev pub NoneAlone : (ℕ → Bool) → (List ℕ → ℤ) → Type 0
NoneAlone marked excess = (club : ℕ) → marked club ≡ true → excess (club ∷ []) ≤ℤ pos 0

-- no marked clubs have a greater excess, and all that have the same have these clubs among them
pub record IsLeastOfGreatest (marked : ℕ → Bool) (excess : List ℕ → ℤ) (set : ClubSet) : Type 0
  where
    pub all_marked : AreMarked marked set
    pub greatest : (other : ClubSet) → AreMarked marked other
        → excess (clubs_in other) ≤ℤ excess (clubs_in set)
    pub contained : (other : ClubSet) → AreMarked marked other
        → excess (clubs_in other) ≡ excess (clubs_in set)
        → (club : ℕ) → has_club (clubs_in set) club ≡ true → has_club (clubs_in other) club ≡ true

-- the clubs of this set are in each set of marked clubs than which none has a greater excess
abbrev pub IsInEachGreatest : (ℕ → Bool) → (List ℕ → ℤ) → ClubSet → Type 0
IsInEachGreatest marked excess set =
    (other : ClubSet) → AreMarked marked other
    → ((rivals : ClubSet) → AreMarked marked rivals
    → excess (clubs_in rivals) ≤ℤ excess (clubs_in other))
    → (club : ℕ) → has_club (clubs_in set) club ≡ true → has_club (clubs_in other) club ≡ true

-- the set that is found: the first marked club that has an excess alone; if none has, the least set
-- of greatest excess
pub record IsChosen (marked : ℕ → Bool) (excess : List ℕ → ℤ) (set : ClubSet) : Type 0 where
  pub alone : (club : ℕ) → IsFirstAlone marked excess club → clubs_in set ≡ club ∷ []
  pub together : NoneAlone marked excess → IsLeastOfGreatest marked excess set
  pub contained : IsInEachGreatest marked excess set

-- the clubs of the set but one
abbrev pub IsSetWithout : ClubSet → ℕ → ClubSet → Type 0
IsSetWithout set club other =
    (member : ℕ) → has_club (clubs_in other) member
    ≡ (has_club (clubs_in set) member && not (club == member))

-- marked clubs, one at least, of which each adds something to the excess of them all
pub record AreEachNeeded (marked : ℕ → Bool) (excess : List ℕ → ℤ) (set : ClubSet) : Type 0 where
  pub all_marked : AreMarked marked set
  pub some : clubs_in set ≢ []
  pub needed : (club : ℕ) (other : ClubSet) → has_club (clubs_in set) club ≡ true
      → IsSetWithout set club other → excess (clubs_in other) <ℤ excess (clubs_in set)

-- what neither a club alone decides nor that clubs which add nothing are dropped
pub record IsLeftOpen (marked : ℕ → Bool) (excess : List ℕ → ℤ) : Type 0 where
  pub none_alone : NoneAlone marked excess
  pub needed : (set : ClubSet) × AreEachNeeded marked excess set
