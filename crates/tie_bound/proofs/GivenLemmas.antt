-- Sets of marked rivals: whether all clubs of a set are marked.
use Rattle.std.proofs.Common.{◌≡◌, ℕ, Bool, true, false, not, ◌&&◌, ◌||◌, List, [], ◌∷◌, refl, sym}
use Rattle.std.proofs.Common.{ap, ◌∙◌}
use Rattle.std.specs.List.{list_all}
use Rattle.league_core.specs.declared.club_set.ClubSet.{ClubSet}
use Rattle.league_core.specs.game.Sums.{has_club}
use Rattle.league_core.specs.game.ClubSets.{clubs_in}
use Rattle.league_core.specs.search.Reasons.{has_member}
use Rattle.league_core.proofs.ClubSetLemmas.{clubs_below-filter}
use Rattle.league_core.proofs.plain.Filters.{any-is}
use Rattle.league_core.proofs.plain.TruthValues.{same_not}
use Rattle.league_core.proofs.plain.Lists.{any_fails}

-- no club of the one set is left without those of the other: all of them pass the other's test
pub none_left : (empty : Bool) (test : ℕ → Bool) (clubs set left : ClubSet)
    → ((club : ℕ) → has_club (clubs_in set) club ≡ test club)
    → ((club : ℕ) → has_club (clubs_in left) club
    ≡ (has_club (clubs_in clubs) club && not (has_club (clubs_in set) club)))
    → (empty ≡ true → clubs_in left ≡ []) → (clubs_in left ≡ [] → empty ≡ true)
    → empty ≡ list_all test (clubs_in clubs)
none_left empty test clubs set left is without gives from =
    same_not empty (list_all test (clubs_in clubs))
    (any-is empty (λ club. not (test club)) (clubs_in clubs) (clubs_in left)
    (clubs_below-filter 32 left.bits clubs.bits (λ club. not (test club))
    (λ club. without club ∙ ap (λ b. has_club (clubs_in clubs) club && not b) (is club)))
    gives from
    ∙ any_fails test (clubs_in clubs))

-- what is said of a zone that has a finish, of clubs that are some of the marked ones
pub said_of : (finish some over : Bool) → finish ≡ true → some ≡ true
    → over ≡ (finish && (some && over))
said_of finish some over has are =
    sym (ap (λ b. b && (some && over)) has ∙ ap (λ b. b && over) are)

-- nothing is said of other clubs
pub unsaid_of : (finish some over : Bool) → finish ≡ true → some ≡ false
    → some ≡ (finish && (some && over))
unsaid_of finish some over has none =
    none ∙ sym (ap (λ b. b && (some && over)) has ∙ ap (λ b. b && over) none)

-- the first of two things is said of such a zone, or else the second is what counts
pub said_first : (finish first second : Bool) → finish ≡ true → first ≡ true
    → first ≡ (finish && (first || second))
said_first finish first second has is =
    is ∙ sym (ap (λ b. b && (first || second)) has ∙ ap (λ b. b || second) is)

pub said_second : (finish first second : Bool) → finish ≡ true → first ≡ false
    → second ≡ (finish && (first || second))
said_second finish first second has fails =
    sym (ap (λ b. b && (first || second)) has ∙ ap (λ b. b || second) fails)

-- a set that is not empty has a member
pub some_member : (clubs : List ℕ) → (clubs ≡ [] → false ≡ true) → has_member clubs ≡ true
some_member [] filled = filled refl
some_member (club ∷ clubs) filled = refl
