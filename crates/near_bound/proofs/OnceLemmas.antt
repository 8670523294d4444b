-- A club that a list has once, as the list of a set has each of its clubs, and the list without it.
use Rattle.std.proofs.Common.{◌≡◌, ℕ, zero, suc, ◌+◌, ◌<◌, ◌≤◌, Bool, true, false, ◌||◌, ◌&&◌}
use Rattle.std.proofs.Common.{◌==◌, not, cond, List, [], ◌∷◌, ◌⊎◌, inl, inr, filter, eqb, ltb}
use Rattle.std.proofs.Common.{refl, sym, ap, ◌∙◌, subst, arith}
use Rattle.std.specs.List.{range_with_len}
use Rattle.std.specs.Int.{bit_at}
use Rattle.std.proofs.lemmas.Bool.{false≢true, and_parts, cases_eq, ne_eqb, lt-ltb, ltb-true}
use Rattle.league_core.specs.declared.club_set.ClubSet.{ClubSet}
use Rattle.league_core.specs.game.ClubSets.{clubs_in}
use Rattle.league_core.specs.game.Sums.{has_club}
use Rattle.league_core.proofs.ClubSetLemmas.{clubs_below-filter_range, has_club-clubs_below}
use Rattle.league_core.proofs.ClubSetLemmas.{has_club-filter, has_club-range_from}

abbrev pub is_not : ℕ → ℕ → Bool
is_not club other = not (other == club)

-- the club stands at one place alone
abbrev pub IsOnce : ℕ → List ℕ → Type 0
IsOnce club [] = ⊥
IsOnce club (first ∷ clubs) =
    ((first ≡ club) × (has_club clubs club ≡ false))
    ⊎ (((first == club) ≡ false) × IsOnce club clubs)

-- who is not in a list is not taken off it
pub filter_without : (club : ℕ) (clubs : List ℕ) → has_club clubs club ≡ false
    → filter (is_not club) clubs ≡ clubs
filter_without club [] out = refl
filter_without club (first ∷ clubs) out =
    by_first (λ later. filter_without club clubs later) (first == club) out
  where
    by_first : (has_club clubs club ≡ false → filter (is_not club) clubs ≡ clubs)
        → (b : Bool) → (b || has_club clubs club) ≡ false
        → cond (not b) (first ∷ filter (is_not club) clubs) (filter (is_not club) clubs)
        ≡ first ∷ clubs
    by_first rest true out = absurd (false≢true (sym out))
    by_first rest false out = ap (λ (xs : List ℕ). first ∷ xs) (rest out)

-- numbers of a run that pass a test
once_in_run : (test : ℕ → Bool) (from count club : ℕ) → from ≤ club → club < from + count
    → test club ≡ true → IsOnce club (filter test (range_with_len from count))
once_in_run test from zero club low high passes = absurd (omega arith)
once_in_run test from (suc count) club low high passes =
    elim (cases_eq from club) as (λ _.
    IsOnce club (filter test (range_with_len from (suc count)))) [
      | inl same ↦
          subst (λ b. IsOnce club (cond b (from ∷ rest) rest))
          (sym (ap test same ∙ passes)) (inl (same, past same))
      | inr apart ↦
          either (ne_eqb from club apart) (test from)
          (once_in_run test (from + 1) count club (omega (arith, apart)) (omega arith) passes)
    ]
  where
    rest : List ℕ
    rest = filter test (range_with_len (from + 1) count)

    past : from ≡ club → has_club rest club ≡ false
    past same =
        has_club-filter test (range_with_len (from + 1) count) club
        ∙ ap (λ b. b && test club)
        (has_club-range_from (from + 1) count club
        ∙ ap (λ b. not b && ltb club ((from + 1) + count))
        (lt-ltb club (from + 1) (omega (arith, same))))

    either : (from == club) ≡ false → (b : Bool) → IsOnce club rest
        → IsOnce club (cond b (from ∷ rest) rest)
    either apart true later = inr (apart, later)
    either apart false later = later

-- the clubs of a set
pub once_in_set : (set : ClubSet) (club : ℕ) → has_club (clubs_in set) club ≡ true
    → IsOnce club (clubs_in set)
once_in_set set club has =
    let parts = and_parts (ltb club 32) (eqb (bit_at set.bits club) 1)
    (sym (has_club-clubs_below 32 set.bits club) ∙ has) in
    subst (IsOnce club)
    (sym (clubs_below-filter_range 32 set.bits 32 (λ x. eqb (bit_at set.bits x) 1) (omega arith)
    (has_club-clubs_below 32 set.bits)))
    (once_in_run (λ x. eqb (bit_at set.bits x) 1) 0 32 club (omega arith)
    (let below = ltb-true club 32 parts.0 in omega (arith, below)) parts.1)
