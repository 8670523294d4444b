-- The clubs of a set by their places in it, and pairs in a part of the clubs, by which of their
-- clubs a side has.
use Rattle.std.specs.Prelude.{◌≡◌, ℕ, ◌<◌, Bool, true, ◌&&◌, not, List, length, slice_index}
use Rattle.league_core.specs.game.Limits.{set_width}
use Rattle.league_core.specs.declared.club_set.ClubSet.{ClubSet}
use Rattle.league_core.specs.game.ClubSets.{clubs_in}
use Rattle.flow_bound.specs.declared.tally.Pair.{Pair}
use Rattle.flow_bound.specs.inside.Parts.{has_both, side_of}

-- each club of the set has its place among the set's clubs
pub record IsNumbering (set : ClubSet) (places : List ℕ) : Type 0 where
  pub long : length places ≡ set_width
  pub within : (club : ℕ) → side_of set club ≡ true → slice_index places club < length (clubs_in
      set)
  pub back : (club : ℕ) → side_of set club ≡ true
      → slice_index (clubs_in set) (slice_index places club) ≡ club

-- a side of places, as one of clubs
abbrev pub through : List ℕ → (ℕ → Bool) → ℕ → Bool
through places side club = side (slice_index places club)

-- both clubs are in the part, and the home club is on the side
abbrev pub has_home_in : (ℕ → Bool) → (ℕ → Bool) → Pair → Bool
has_home_in part side pair = has_both part pair && side pair.home

-- both clubs are in the part, and the away club is on the side
abbrev pub has_away_in : (ℕ → Bool) → (ℕ → Bool) → Pair → Bool
has_away_in part side pair = has_both part pair && side pair.away

-- both clubs are in the part, and the side has the home club alone
abbrev pub parts_pair_in : (ℕ → Bool) → (ℕ → Bool) → Pair → Bool
parts_pair_in part side pair = has_both part pair && (side pair.home && not (side pair.away))
