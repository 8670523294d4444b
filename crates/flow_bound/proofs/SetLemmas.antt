-- Sets and tests of clubs: clubs are below 32, and a set of one club is its list.
use Rattle.std.proofs.Common.{◌≡◌, ℕ, ◌<◌, ◌≤◌, Bool, true, false, ◌&&◌}
use Rattle.std.proofs.Common.{◌||◌, not, eqb, ltb, List, [], ◌∷◌, filter, length, refl, sym, ap}
use Rattle.std.proofs.Common.{◌∙◌, inl}
use Rattle.std.proofs.Common.{inr, arith}
use Rattle.std.specs.List.{list_all}
use Rattle.std.specs.Int.{bit_at}
use Rattle.std.proofs.lemmas.List.Filters.{length-filter_both}
use Rattle.std.proofs.lemmas.Bool.{false≢true, and_parts, and_from, eq-eqb}
use Rattle.std.proofs.lemmas.Bool.{eqb-true, ltb-true, or_cases}
use Rattle.league_core.specs.declared.club_set.ClubSet.{ClubSet}
use Rattle.league_core.specs.game.Sums.{has_club}
use Rattle.league_core.specs.game.ClubSets.{clubs_in}
use Rattle.league_core.proofs.ClubSetLemmas.{clubs_below-filter, has_club-clubs_below}
use Rattle.league_core.proofs.ClubSetLemmas.{length-fewer}
use Rattle.flow_bound.specs.inside.Parts.{side_of, IsPartOf}

-- a club of a set is below 32
pub side_of-lt : (set : ClubSet) (club : ℕ) → side_of set club ≡ true → club < 32
side_of-lt set club has =
    ltb-true club 32
    (and_parts (ltb club 32) (eqb (bit_at set.bits club) 1)
    (sym (has_club-clubs_below 32 set.bits club) ∙ has)).0

-- a set without a club has none
pub no_club_left : (set : ClubSet) → clubs_in set ≡ [] → (club : ℕ) → side_of set club ≡ false
no_club_left set empty club = ap (λ clubs. has_club clubs club) empty

-- if all of a list pass, each of them does, and the other way round
pub each_marked : (marked : ℕ → Bool) (clubs : List ℕ) → list_all marked clubs ≡ true
    → IsPartOf (has_club clubs) marked
each_marked marked [] all club has = absurd (false≢true has)
each_marked marked (first ∷ clubs) all club has =
    let parts = and_parts (marked first) (list_all marked clubs) all in
    elim (or_cases (eqb first club) (has_club clubs club) has) as (λ _. marked club ≡ true) [
      | inl same ↦ ap marked (sym (eqb-true first club same)) ∙ parts.0
      | inr later ↦ each_marked marked clubs parts.1 club later
    ]

pub all_marked : (marked : ℕ → Bool) (clubs : List ℕ) → IsPartOf (has_club clubs) marked
    → list_all marked clubs ≡ true
all_marked marked [] part = refl
all_marked marked (first ∷ clubs) part =
    and_from (marked first) (list_all marked clubs)
    (part first (ap (λ b. b || has_club clubs first) (eq-eqb first first refl)))
    (all_marked marked clubs (λ club has. part club (or_right (eqb first club) (has_club clubs
    club) has)))
  where
    or_right : (a b : Bool) → b ≡ true → (a || b) ≡ true
    or_right true b h = refl
    or_right false b h = h

-- a part of a set has no more clubs, and if it has as many it has all
pub length-part : (set whole : ClubSet) → IsPartOf (side_of set) (side_of whole)
    → length (clubs_in set) ≤ length (clubs_in whole)
length-part set whole part =
    let is : clubs_in set ≡ filter (side_of set) (clubs_in whole) =
    clubs_below-filter 32 set.bits whole.bits (side_of set)
    (λ x. both (side_of set x) (side_of whole x) (part x)) in
    let parts = length-filter_both (side_of set) (λ x. not (side_of set x)) (λ _. refl)
    (clubs_in whole) in
    omega (arith, ap length is, parts)
  where
    both : (s w : Bool) → (s ≡ true → w ≡ true) → s ≡ (w && s)
    both true w inside = sym (ap (λ b. b && true) (inside refl))
    both false true inside = refl
    both false false inside = refl

pub whole_is_part : (set whole : ClubSet) → IsPartOf (side_of set) (side_of whole)
    → length (clubs_in set) ≡ length (clubs_in whole) → IsPartOf (side_of whole) (side_of set)
whole_is_part set whole part same club among = at (side_of set club) refl
  where
    at : (b : Bool) → side_of set club ≡ b → side_of set club ≡ true
    at true has = has
    at false out = absurd (omega (arith, same, length-fewer set whole club part among out))

-- a list without a club has none
pub no_club_of_none : (clubs : List ℕ) → length clubs ≤ 0 → (club : ℕ)
    → has_club clubs club ≡ false
no_club_of_none [] none club = refl
no_club_of_none (first ∷ clubs) none club = absurd (omega (arith, none))
