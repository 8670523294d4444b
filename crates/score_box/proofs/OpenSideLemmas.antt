-- The two clubs of a match as a set, and a group that has both.
use Rattle.std.proofs.Common.{◌≡◌, ◌⊎◌, ℕ, ◌<◌, ◌≤◌, ◌+◌, Bool, true, false, not, ◌&&◌, ◌||◌, eqb}
use Rattle.std.proofs.Common.{List, [], get_or, refl, sym, ap, ◌∙◌, subst, inl, inr, arith}
use Rattle.std.specs.Prelude.{IsTrue, ◌↔◌}
use Rattle.std.proofs.lemmas.Bool.{cases_Bool, cases_lt, eqb-true, eq-eqb}
use Rattle.std.proofs.lemmas.Bool.{false≢true, and_parts, and_from}
use Rattle.league_core.specs.declared.club_set.ClubSet.{ClubSet}
use Rattle.league_core.specs.declared.sheet.Fixture.{Fixture}
use Rattle.league_core.specs.game.ClubSets.{clubs_in}
use Rattle.league_core.specs.game.Sums.{has_club}
use Rattle.league_core.proofs.ClubLemmas.{no_member}
use Rattle.league_core.proofs.plain.TruthValues.{same_tests}
use Rattle.score_box.specs.inside.Boxes.{IsSetOf}
use Rattle.score_box.specs.inside.OpenSides.{NoneBetween, are_of_group, is_side}

-- nothing is left of the two clubs of a match exactly when the group has both
pub none_outside : (match : Fixture) (sides group rest : ClubSet) (is_empty : Bool)
    → IsSetOf sides (is_side match)
    → ((club : ℕ) → has_club (clubs_in rest) club
    ≡ (has_club (clubs_in sides) club && not (has_club (clubs_in group) club)))
    → (IsTrue is_empty ↔ (clubs_in rest ≡ []))
    → is_empty ≡ (has_club (clubs_in group) match.home && has_club (clubs_in group) match.away)
none_outside match sides group rest is_empty are left says =
    same_tests is_empty
    (has_club (clubs_in group) match.home && has_club (clubs_in group) match.away)
    (λ empty. and_from (has_club (clubs_in group) match.home)
    (has_club (clubs_in group) match.away)
    (inside (says.0 empty) match.home (home_side match.home refl))
    (inside (says.0 empty) match.away (away_side match.away refl)))
    (λ both. says.1 (no_member (clubs_in rest) (λ club.
    left club
    ∙ ap (λ b. b && not (has_club (clubs_in group) club)) (are club)
    ∙ dropped (is_side match club) (has_club (clubs_in group) club)
    (has_side (and_parts (has_club (clubs_in group) match.home)
    (has_club (clubs_in group) match.away) both).0 (and_parts (has_club (clubs_in group) match.home)
    (has_club (clubs_in group) match.away) both).1 club (cases_Bool (eqb match.home club))))))
  where
    kept : (side has : Bool) → (side && not has) ≡ false → side ≡ true → has ≡ true
    kept true true none is = refl
    kept true false none is = sym none
    kept false has none is = absurd (false≢true is)

    dropped : (side has : Bool) → (side ≡ true → has ≡ true) → (side && not has) ≡ false
    dropped true has is = ap not (is refl)
    dropped false has is = refl

    home_side : (club : ℕ) → match.home ≡ club → is_side match club ≡ true
    home_side club same = ap (λ b. b || eqb match.away club) (eq-eqb match.home club same)

    away_side : (club : ℕ) → match.away ≡ club → is_side match club ≡ true
    away_side club same = either (eqb match.home club) (eqb match.away club)
        (eq-eqb match.away club same)
      where
        either : (a b : Bool) → b ≡ true → (a || b) ≡ true
        either true b is = refl
        either false b is = is

    inside : clubs_in rest ≡ [] → (club : ℕ) → is_side match club ≡ true
        → has_club (clubs_in group) club ≡ true
    inside none club side =
        kept (is_side match club) (has_club (clubs_in group) club)
        (ap (λ b. b && not (has_club (clubs_in group) club)) (sym (are club)) ∙ sym (left club)
        ∙ ap (λ cs. has_club cs club) none) side

    has_side : has_club (clubs_in group) match.home ≡ true
        → has_club (clubs_in group) match.away ≡ true → (club : ℕ)
        → (eqb match.home club ≡ true) ⊎ (eqb match.home club ≡ false)
        → is_side match club ≡ true → has_club (clubs_in group) club ≡ true
    has_side home away club (inl same) side =
        ap (λ n. has_club (clubs_in group) n) (sym (eqb-true match.home club same)) ∙ home
    has_side home away club (inr other) side =
        ap (λ n. has_club (clubs_in group) n) (sym (eqb-true match.away club
        (ap (λ b. b || eqb match.away club) (sym other) ∙ side))) ∙ away

-- ---- places one after another

-- from one place on none is, and none from where that ends
pub none_further : (sides : List ClubSet) (group : ClubSet) (from mid to : ℕ)
    → NoneBetween sides group from mid → NoneBetween sides group mid to
    → NoneBetween sides group from to
none_further sides group from mid to near far place low below = at (cases_lt place mid)
  where
    at : (place < mid) ⊎ (mid ≤ place) → (match : Fixture)
        → ((d : ClubSet) → IsSetOf (get_or sides place d) (is_side match))
        → are_of_group group match ≡ false
    at (inl before) = near place low before
    at (inr past) = far place past below

-- the match of one place is not
pub none_at : (sides : List ClubSet) (group e : ClubSet) (place next : ℕ) (is : Bool)
    → next ≡ place + 1
    → ((match : Fixture) → IsSetOf (get_or sides place e) (is_side match)
    → is ≡ are_of_group group match)
    → is ≡ false → NoneBetween sides group place next
none_at sides group e place next is after says none other low below match are =
    let same : other ≡ place = omega (arith, low, below, after) in
    let Here : ℕ → Type 0 = λ n. IsSetOf (get_or sides n e) (is_side match) in
    sym (says match (subst Here same (are e))) ∙ none
