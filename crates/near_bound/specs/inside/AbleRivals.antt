-- The rivals of a club that can have the points of a tie, and those that are held on them.
use Rattle.std.specs.Prelude.{◌≡◌, ℕ, Bool, ◌&&◌, not, List, [], ◌∷◌}
use Rattle.league_core.specs.declared.club_set.ClubSet.{ClubSet}
use Rattle.league_core.specs.declared.zone.Literal.{Literal}
use Rattle.league_core.specs.game.ClubSets.{clubs_in}
use Rattle.league_core.specs.game.Sums.{has_club}
use Rattle.near_laws.specs.Fits.{have_fit, is_able}
use Rattle.near_laws.specs.Near.{able_rivals, is_held}
use Rattle.near_bound.specs.declared.tie.Tie.{Tie}
use Rattle.near_bound.specs.inside.Ties.{IsTieIn}

-- the club can have the points of the tie
abbrev pub is_able_in : Tie → List Literal → ℕ → Bool
is_able_in tie zone club =
    is_able tie.left.now.sheet.now tie.left.now.season.now zone tie.points club

-- the rival is on the points if this one is
abbrev pub is_held_in : Tie → List Literal → ℕ → ℕ → Bool
is_held_in tie zone rival other =
    is_held tie.left.now.sheet.now tie.left.now.season.now zone tie.points rival other

-- some match has no score that is fit for both
abbrev pub lacks_fit : Tie → List Literal → ℕ → ℕ → Bool
lacks_fit tie zone club other =
    not (have_fit tie.left.now.sheet.now tie.left.now.season.now zone tie.points
    (club ∷ other ∷ []))

-- the set has the club's able rivals
abbrev pub AreAbleRivals : Tie → ClubSet → ℕ → Type 0
AreAbleRivals tie able club =
    (zone : List Literal) → IsTieIn tie zone → clubs_in able
    ≡ able_rivals tie.left.now.sheet.now tie.left.now.season.now zone tie.points club

-- of these clubs those that are held if the rival is on the points
abbrev pub AreHeldRivals : Tie → ClubSet → ℕ → ClubSet → Type 0
AreHeldRivals tie able rival held =
    (zone : List Literal) → IsTieIn tie zone → (other : ℕ) → has_club (clubs_in held) other
    ≡ (has_club (clubs_in able) other && is_held_in tie zone rival other)
