-- Groups that are made of two clubs and others: what is kept of them, and the two in either order.
use Rattle.std.proofs.Common.{◌≡◌, ℕ, Bool, true, false, ◌&&◌, ◌||◌, ◌==◌, List, [], ◌∷◌, ◌++◌}
use Rattle.std.proofs.Common.{filter, refl, sym, ap, ◌∙◌, subst, inl, inr}
use Rattle.std.proofs.lemmas.Bool.{false≢true, or_cases, eqb-true}
use Rattle.league_core.specs.game.Sums.{has_club}
use Rattle.league_core.proofs.ClubLemmas.{has_club-append}
use Rattle.league_core.proofs.ClubSetLemmas.{has_club-filter}
use Rattle.near_laws.proofs.GroupLemmas.{AreOnce, group_of}

-- a group is the two clubs and these others, each named once
pub record IsMadeOf (group others : List ℕ) (front back : ℕ) : Type 0 where
  pub once : AreOnce others
  pub no_front : has_club others front ≡ false
  pub no_back : has_club others back ≡ false
  pub same : (club : ℕ) → has_club group club ≡ has_club (others ++ front ∷ back ∷ []) club

-- what is kept of the group is made of what is kept of the others
pub same_parts : (group others : List ℕ) (front back : ℕ) (keep : ℕ → Bool)
    → IsMadeOf group others front back → keep front ≡ true → keep back ≡ true
    → (club : ℕ) → has_club (filter keep group) club
    ≡ has_club (group_of keep others front back) club
same_parts group others front back keep made in_front in_back club =
    has_club-filter keep group club
    ∙ ap (λ b. b && keep club)
    (made.same club ∙ has_club-append others (front ∷ back ∷ []) club)
    ∙ apart (has_club others club) (has_club (front ∷ back ∷ []) club) (keep club) kept
    ∙ ap (λ b. b || has_club (front ∷ back ∷ []) club) (sym (has_club-filter keep others club))
    ∙ sym (has_club-append (filter keep others) (front ∷ back ∷ []) club)
  where
    apart : (a b k : Bool) → (b ≡ true → k ≡ true) → ((a || b) && k) ≡ ((a && k) || b)
    apart a true k keeps = subst (λ (x : Bool). ((a || true) && x) ≡ ((a && x) || true))
        (sym (keeps refl)) (both a)
      where
        both : (c : Bool) → ((c || true) && true) ≡ ((c && true) || true)
        both true = refl
        both false = refl
    apart true false true keeps = refl
    apart true false false keeps = refl
    apart false false k keeps = refl

    kept : has_club (front ∷ back ∷ []) club ≡ true → keep club ≡ true
    kept has =
        elim (or_cases (front == club) ((back == club) || false) has) as (λ _. keep club ≡ true) [
          | inl is ↦ subst (λ (c : ℕ). keep c ≡ true) (eqb-true front club is) in_front
          | inr later ↦
              elim (or_cases (back == club) false later) as (λ _. keep club ≡ true) [
                | inl is ↦ subst (λ (c : ℕ). keep c ≡ true) (eqb-true back club is) in_back
                | inr none ↦ absurd (false≢true none)
              ]
        ]

-- which of the two comes first in the list does not matter
pub turned : (group others : List ℕ) (front back : ℕ) → IsMadeOf group others front back
    → IsMadeOf group others back front
turned group others front back made = record {
  once = made.once;
  no_front = made.no_back;
  no_back = made.no_front;
  same = λ club.
      made.same club ∙ has_club-append others (front ∷ back ∷ []) club
      ∙ ap (λ b. has_club others club || b) (swapped (front == club) (back == club))
      ∙ sym (has_club-append others (back ∷ front ∷ []) club);
}
  where
    swapped : (a b : Bool) → (a || (b || false)) ≡ (b || (a || false))
    swapped true true = refl
    swapped true false = refl
    swapped false true = refl
    swapped false false = refl
