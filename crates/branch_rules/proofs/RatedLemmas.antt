-- The better of two tests: none only if both are none.
use Rattle.std.proofs.Common.{◌≡◌, ◌⊎◌, inl, inr, ◌+◌, ◌<◌, ℕ, Option, Some, None, IfNone}
use Rattle.std.proofs.Common.{List, get_or, refl, sym, subst, arith, MatchOption}
use Rattle.std.proofs.Math.Nat.{eq-or-lt_of_le}
use Rattle.league_core.specs.declared.zone.Test.{Test}
use Rattle.branch_rules.specs.declared.rated.Rated.{Rated}

-- what follows from both being none
pub none_of_both : (result one two : Option Rated) (P A B : Type 0)
    → (result ≡ None → (one ≡ None) × (two ≡ None)) → IfNone one A → IfNone two B
    → (A → B → P) → IfNone result P
none_of_both (Some rated) one two P A B both first second joined = tt
none_of_both None one two P A B both first second joined =
    let none = both refl in
    joined (subst (λ o. IfNone o A) none.0 first) (subst (λ o. IfNone o B) none.1 second)

-- none so far, if the next one is looked at only if it matters
pub none_with_this : (result best : Option Rated) (P : ℕ → Type 0) (xs : List ℕ) (i : ℕ)
    → (result ≡ None → (best ≡ None) × P (get_or xs i 0))
    → (best ≡ None → (j : ℕ) → j < i → P (get_or xs j 0))
    → result ≡ None → (j : ℕ) → j < i + 1 → P (get_or xs j 0)
none_with_this result best P xs i both before is j below =
    let none = both is in
    elim (eq-or-lt_of_le {n = j} {m = i} (omega arith)) as (λ _. P (get_or xs j 0)) [
      | inl same ↦ subst (λ (n : ℕ). P (get_or xs n 0)) (sym same) none.1
      | inr earlier ↦ before none.0 j earlier
    ]

-- the test of what is rated
pub test_of_none : (rated : Option Rated) (result : Option Test) (P : Type 0)
    → MatchOption rated (result ≡ None) (λ one. result ≡ Some one.test) → (rated ≡ None → P)
    → IfNone result P
test_of_none None result P is none = subst (λ o. IfNone o P) (sym is) (none refl)
test_of_none (Some one) result P is none = subst (λ o. IfNone o P) (sym is) tt

-- what holds if there is none
pub if_there_is_none : (rated : Option Rated) (P : Type 0) → (rated ≡ None → P) → IfNone rated P
if_there_is_none None P none = none refl
if_there_is_none (Some one) P none = tt
