-- The excess of a set in parts: what each club adds alone, and what each two clubs add that still
-- meet, if both are in the set. Sets are tests of clubs here, and clubs are numbered below 32.
use Rattle.std.specs.Prelude.{◌≡◌, ◌≢◌, ◌⊎◌, ℕ, zero, suc, ◌+◌, ◌*◌, ◌<◌, ◌≤◌, ℤ, pos, neg_ℤ, ◌+ℤ◌}
use Rattle.std.specs.Prelude.{◌≤ℤ◌, ◌<ℤ◌, Bool, true, ◌&&◌, ◌==◌, if◌then◌else◌, List, [], ◌∷◌}
use Rattle.std.specs.Prelude.{length, sum_by, slice_index_or}
use Rattle.std.specs.List.{All}
use Rattle.league_core.specs.game.Limits.{most_fixtures, set_width}
use Rattle.league_core.specs.declared.club_set.ClubSet.{ClubSet}
use Rattle.league_core.specs.game.Sums.{has_club}
use Rattle.league_core.specs.game.ClubSets.{clubs_in}
use Rattle.flow_bound.specs.declared.tally.Pair.{Pair}

-- a value of each club below a count, added
unfoldable pub sum_below : ℕ → (ℕ → ℤ) → ℤ
sum_below zero value = pos 0
sum_below (suc count) value = sum_below count value +ℤ value count

-- what stands for a club in a table of all clubs
abbrev pub entry : List ℤ → ℕ → ℤ
entry table club = slice_index_or table club (pos 0)

-- the entries of the clubs of a side, added
abbrev pub sum_of_side : List ℤ → (ℕ → Bool) → ℤ
sum_of_side table side = sum_below set_width (λ club. if side club then entry table club else pos 0)

-- the surplus of the pairs that pass a test, added
abbrev pub sum_of_pairs : (Pair → Bool) → List Pair → ℕ
sum_of_pairs test pairs = sum_by (λ pair. if test pair then pair.surplus else 0) pairs

-- the side has both clubs of the pair
abbrev pub has_both : (ℕ → Bool) → Pair → Bool
has_both side pair = side pair.home && side pair.away

-- what the clubs of a side add alone, and what its pairs add beyond that
abbrev pub excess_in : List ℤ → List Pair → (ℕ → Bool) → ℤ
excess_in table pairs side = sum_of_side table side +ℤ pos (sum_of_pairs (has_both side) pairs)

-- each club of the one side is of the other
abbrev pub IsPartOf : (ℕ → Bool) → (ℕ → Bool) → Type 0
IsPartOf side whole = (club : ℕ) → side club ≡ true → whole club ≡ true

-- the clubs of both sides
abbrev pub in_both : (ℕ → Bool) → (ℕ → Bool) → ℕ → Bool
in_both side other club = side club && other club

-- the clubs of a set, as a side
abbrev pub side_of : ClubSet → ℕ → Bool
side_of set club = has_club (clubs_in set) club

-- the most credits to the entries of a table: each fixture may credit both its clubs
abbrev pub most_credits : ℕ
most_credits = most_fixtures + most_fixtures

-- the least that an entry comes to: points taken off, and what fixtures add to it
abbrev pub least_entry : ℤ
least_entry = neg_ℤ (pos 30000)

-- the most that it comes to: a level of 32 bits, and what fixtures add to it
abbrev pub most_entry : ℤ
most_entry = pos 2147600000

-- a table of all clubs, with entries far from the ends of their type: those of a window or of
-- points, after so many credits of three points at most
pub record IsClubTable (credits : ℕ) (table : List ℤ) : Type 0 where
  pub long : length table ≡ set_width
  pub least : (club : ℕ) → neg_ℤ (pos (20000 + 3 * credits)) ≤ℤ entry table club
  pub most : (club : ℕ) → entry table club ≤ℤ pos (2147500000 + 3 * credits)

-- pairs of two clubs each, no more than there are fixtures
pub record ArePairs (fixtures : ℕ) (pairs : List Pair) : Type 0 where
  pub apart : All (λ pair. pair.home ≢ pair.away) pairs
  pub few : length pairs ≤ fixtures
  pub small : All (λ pair. pair.surplus ≤ 3) pairs

-- no part of a side has an excess
abbrev pub HasNoExcess : List ℤ → List Pair → (ℕ → Bool) → Type 0
HasNoExcess table pairs whole =
    (side : ℕ → Bool) → IsPartOf side whole → excess_in table pairs side ≤ℤ pos 0

-- the parts of a side lose nothing if only some of its clubs are kept
pub record KeepsExcess (table : List ℤ) (pairs : List Pair) (whole rest : ℕ → Bool) : Type 0 where
  pub part : IsPartOf rest whole
  pub kept : (side : ℕ → Bool) → IsPartOf side whole
      → excess_in table pairs side ≤ℤ excess_in table pairs (in_both side rest)

-- each club of a side adds something to it: its own entry and its pairs there come to more than 0
abbrev pub EachAdds : List ℤ → List Pair → (ℕ → Bool) → Type 0
EachAdds table pairs side =
    (club : ℕ) → side club ≡ true
    → pos 0 <ℤ (entry table club
    +ℤ pos (sum_of_pairs (λ pair. has_both side pair && (club == pair.home)) pairs)
    +ℤ pos (sum_of_pairs (λ pair. has_both side pair && (club == pair.away)) pairs))

-- a part that has an excess: no other has a greater one, and all that have the same have these
-- clubs among them
pub record IsLeastBest (table : List ℤ) (pairs : List Pair) (whole side : ℕ → Bool) : Type 0 where
  pub part : IsPartOf side whole
  pub exceeds : pos 0 <ℤ excess_in table pairs side
  pub greatest : (other : ℕ → Bool) → IsPartOf other whole
      → excess_in table pairs other ≤ℤ excess_in table pairs side
  pub contained : (other : ℕ → Bool) → IsPartOf other whole
      → excess_in table pairs other ≡ excess_in table pairs side → IsPartOf side other

-- the first club of a side whose own entry is above 0
pub record IsFirstOver (table : List ℤ) (whole : ℕ → Bool) (club : ℕ) : Type 0 where
  pub among : whole club ≡ true
  pub over : pos 0 <ℤ entry table club
  pub none_before : (earlier : ℕ) → earlier < club → whole earlier ≡ true
      → entry table earlier ≤ℤ pos 0

-- no club of a side has an own entry above 0
abbrev pub NoneOver : List ℤ → (ℕ → Bool) → Type 0
NoneOver table whole = (club : ℕ) → whole club ≡ true → entry table club ≤ℤ pos 0

-- the set that is found, club alone or together
abbrev pub IsAnsweredSet : List ℤ → List Pair → (ℕ → Bool) → ClubSet → Type 0
IsAnsweredSet table pairs whole set =
    ((club : ℕ) × IsFirstOver table whole club × (clubs_in set ≡ club ∷ []))
    ⊎ (NoneOver table whole × IsLeastBest table pairs whole (side_of set))

-- no club of the whole decides alone, and of some of its clubs each adds something to them
pub record IsLeftOpenIn (table : List ℤ) (pairs : List Pair) (whole : ℕ → Bool) : Type 0 where
  pub none_over : NoneOver table whole
  pub rest : ClubSet
  pub part : IsPartOf (side_of rest) whole
  pub some : clubs_in rest ≢ []
  pub adds : EachAdds table pairs (side_of rest)
