-- The fixtures that are not played, by their places in the list of them.
use Rattle.std.proofs.Common.{◌≡◌, ◌+◌, ◌<◌, ℕ, zero, suc, Bool, true, false, List, [], ◌∷◌}
use Rattle.std.proofs.Common.{◌++◌, inl, inr, Option, None, length, get_or, cond, refl, sym}
use Rattle.std.proofs.Common.{ap}
use Rattle.std.proofs.Common.{subst, arith}
use Rattle.std.proofs.Math.Nat.{eq-or-lt_of_le}
use Rattle.std.proofs.lemmas.Bool.{cases_Bool}
use Rattle.std.proofs.lemmas.List.{get_or_append_left, get_or_push, length_push, append-nil}
use Rattle.league_core.specs.declared.season.Score.{Score}
use Rattle.score_box.specs.inside.Unplayed.{is_unplayed, unplayed_below, unplayed_in}
use Rattle.score_box.proofs.PathLemmas.{unplayed_below-suc}

-- what holds of each number of a list
abbrev HoldOf : (ℕ → Type 0) → List ℕ → Type 0
HoldOf P xs = (j : ℕ) → j < length xs → P (get_or xs j 0)

-- it holds of the numbers before the last, and of the last
hold_before : (P : ℕ → Type 0) (keep : Bool) (xs : List ℕ) (n : ℕ)
    → HoldOf P (xs ++ cond keep (n ∷ []) []) → HoldOf P xs
hold_before P true xs n each j within =
    subst P (get_or_append_left xs (n ∷ []) 0 j within)
    (each j (omega (arith, length_push xs n)))
hold_before P false xs n each j within =
    subst P (ap (λ (l : List ℕ). get_or l j 0) (append-nil xs))
    (each j (omega (arith, ap (λ (l : List ℕ). length l) (append-nil xs))))

hold_last : (P : ℕ → Type 0) (xs : List ℕ) (n : ℕ) → HoldOf P (xs ++ n ∷ []) → P n
hold_last P xs n each =
    subst P (get_or_push xs n 0 (length xs) refl)
    (each (length xs) (omega (arith, length_push xs n)))

-- what holds of each fixture that is not played, and of each that is, holds of each
each_below : (P : ℕ → Type 0) (scores : List (Option Score)) (count : ℕ)
    → HoldOf P (unplayed_below count scores)
    → ((k : ℕ) → k < count → is_unplayed (get_or scores k None) ≡ false → P k)
    → (k : ℕ) → k < count → P k
each_below P scores zero unplayed played k within = absurd (omega arith)
each_below P scores (suc count) unplayed played k within =
    let next : suc count ≡ count + 1 = omega arith in
    let longer = subst (HoldOf P) (unplayed_below-suc count scores)
    (subst (λ (n : ℕ). HoldOf P (unplayed_below n scores)) next unplayed) in
    let test = is_unplayed (get_or scores count None) in
    elim (eq-or-lt_of_le {n = k} {m = count} (omega arith)) as (λ _. P k) [
      | inl same ↦
          subst P (sym same)
          (elim (cases_Bool test) as (λ _. P count) [
            | inl is ↦
                hold_last P (unplayed_below count scores) count
                (subst (λ (b : Bool). HoldOf P (unplayed_below count scores
                ++ cond b (count ∷ []) [])) is longer)
            | inr not_so ↦ played count (omega arith) not_so
          ])
      | inr before ↦
          each_below P scores count (hold_before P test (unplayed_below count scores) count longer)
          (λ j below is. played j (omega arith) is) k before
    ]

pub each_fixture : (P : ℕ → Type 0) (scores : List (Option Score))
    → ((j : ℕ) → j < length (unplayed_in scores) → P (get_or (unplayed_in scores) j 0))
    → ((k : ℕ) → k < length scores → is_unplayed (get_or scores k None) ≡ false → P k)
    → (k : ℕ) → k < length scores → P k
each_fixture P scores unplayed played k within = each_below P scores (length scores) unplayed
    played k within
