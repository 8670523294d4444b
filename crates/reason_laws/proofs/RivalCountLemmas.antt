-- How many of some clubs pass a test, and how many of those that are not the question's own.
use Rattle.std.proofs.Common.{◌≡◌, ℕ, suc, ◌+◌, ◌≤◌, Bool, true, false, not, ◌==◌, cond, List, []}
use Rattle.std.proofs.Common.{◌∷◌, length, filter, count_by, refl, ap, ◌∙◌, inl, inr, arith, ◌≡◌}
use Rattle.std.proofs.Common.{◌≢◌, ℕ, ◌+◌, ◌≤◌, Bool, true, false, not, ◌==◌, cond, List, [], ◌∷◌}
use Rattle.std.proofs.Common.{length, filter, count_by, refl, ap, ◌∙◌, arith}
use Rattle.std.specs.List.{list_all, list_all}
use Rattle.std.proofs.lemmas.Bool.{false≢true, and_parts, or_cases, eqb-true, false≢true, and_parts}
use Rattle.std.proofs.lemmas.Bool.{eqb-true, eqb-false}
use Rattle.league_core.specs.game.Sums.{has_club}
use Rattle.league_core.proofs.plain.TruthValues.{one_if-most}
use Rattle.league_core.proofs.plain.Counts.{count_by-cons}

-- all clubs of a list but one
abbrev pub others_in : ℕ → List ℕ → List ℕ
others_in club clubs = filter (λ other. not (other == club)) clubs

-- a club that is not the one counts among the others if it passes
pub count_by-other : (test : ℕ → Bool) (club other : ℕ) (clubs : List ℕ)
    → count_by test (cond (not false) (other ∷ others_in club clubs) (others_in club clubs))
    ≡ cond {A = ℕ} (test other) 1 0 + count_by test (others_in club clubs)
count_by-other test club other clubs = count_by-cons test other (others_in club clubs)

-- of some clubs but one, those that pass are no more than those of all that pass another test with
-- them
pub count_by-front : (front before : ℕ → Bool) (club : ℕ) (clubs : List ℕ)
    → ((other : ℕ) → front other ≡ true → before other ≡ true)
    → count_by front (filter (λ other. not (other == club)) clubs) ≤ count_by before clubs
count_by-front front before club [] gives = omega arith
count_by-front front before club (other ∷ clubs) gives =
    let rest = count_by-front front before club clubs gives in
    let here = count_by-cons before other clubs in
    by_test (other == club) (front other) (before other) refl refl rest here
  where
    by_test : (own passes_front passes_before : Bool) → front other ≡ passes_front
        → before other ≡ passes_before
        → count_by front (filter (λ x. not (x == club)) clubs) ≤ count_by before clubs
        → count_by before (other ∷ clubs) ≡ cond {A = ℕ} (before other) 1 0 + count_by before clubs
        → count_by front
        (cond (not own) (other ∷ filter (λ x. not (x == club)) clubs)
        (filter (λ x. not (x == club)) clubs)) ≤ count_by before (other ∷ clubs)
    by_test true passes_front passes_before f b rest here = omega arith
    by_test false true passes_before f b rest here =
        let counted = count_by-other front club other clubs in
        let one : cond {A = ℕ} (front other) 1 0 ≡ 1 = ap (λ t. cond {A = ℕ} t 1 0) f in
        let other_one : cond {A = ℕ} (before other) 1 0 ≡ 1 = ap
        (λ t. cond {A = ℕ} t 1 0) (gives other f) in
        omega arith
    by_test false false passes_before f b rest here =
        let counted = count_by-other front club other clubs in
        let none : cond {A = ℕ} (front other) 1 0 ≡ 0 = ap (λ t. cond {A = ℕ} t 1 0) f in
        omega arith

-- the clubs behind, those before, and the club itself are no more than all
pub count_by-three : (back before : ℕ → Bool) (club : ℕ) (clubs : List ℕ)
    → ((other : ℕ) → back other ≡ true → before other ≡ false) → before club ≡ false
    → count_by back
    (filter (λ other. not (other == club)) clubs) + count_by before clubs
    + count_by (λ other. other == club) clubs ≤ length clubs
count_by-three back before club [] apart itself = omega arith
count_by-three back before club (other ∷ clubs) apart itself =
    let rest = count_by-three back before club clubs apart itself in
    let ahead = count_by-cons before other clubs in
    let own = count_by-cons (λ x. x == club) other clubs in
    by_test (other == club) (back other) refl refl rest ahead own
  where
    some_before : cond {A = ℕ} (before other) 1 0 ≤ 1
    some_before = one_if-most (before other)

    by_test : (is_own passes : Bool) → (other == club) ≡ is_own → back other ≡ passes
        → count_by back (filter (λ x. not (x == club)) clubs) + count_by before clubs
        + count_by (λ x. x == club) clubs ≤ length clubs
        → count_by before (other ∷ clubs) ≡ cond {A = ℕ} (before other) 1 0 + count_by before clubs
        → count_by (λ x. x == club) (other ∷ clubs) ≡ cond {A = ℕ} (other == club) 1 0
        + count_by (λ x. x == club) clubs
        → count_by back
        (cond (not is_own) (other ∷ filter (λ x. not (x == club)) clubs)
        (filter (λ x. not (x == club)) clubs)) + count_by before (other ∷ clubs)
        + count_by (λ x. x == club) (other ∷ clubs) ≤ suc (length clubs)
    by_test true passes same b rest ahead own =
        let one : cond {A = ℕ} (other == club) 1 0 ≡ 1 = ap (λ t. cond {A = ℕ} t 1 0) same in
        let none : cond {A = ℕ} (before other) 1 0 ≡ 0 = ap (λ t. cond {A = ℕ} t 1 0) (ap before
        (eqb-true other club same) ∙ itself) in
        omega arith
    by_test false true same b rest ahead own =
        let counted = count_by-other back club other clubs in
        let one : cond {A = ℕ} (back other) 1 0 ≡ 1 = ap (λ t. cond {A = ℕ} t 1 0) b in
        let none : cond {A = ℕ} (before other) 1 0 ≡ 0 = ap
        (λ t. cond {A = ℕ} t 1 0) (apart other b) in
        let not_own : cond {A = ℕ} (other == club) 1 0 ≡ 0 = ap (λ t. cond {A = ℕ} t 1 0) same in
        omega arith
    by_test false false same b rest ahead own =
        let counted = count_by-other back club other clubs in
        let zero_back : cond {A = ℕ} (back other) 1 0 ≡ 0 = ap (λ t. cond {A = ℕ} t 1 0) b in
        let not_own : cond {A = ℕ} (other == club) 1 0 ≡ 0 = ap (λ t. cond {A = ℕ} t 1 0) same in
        omega (arith, some_before)

-- a club that a list has is counted there
pub count_by-own : (club : ℕ) (clubs : List ℕ) → has_club clubs club ≡ true
    → 1 ≤ count_by (λ other. other == club) clubs
count_by-own club [] has = absurd (false≢true has)
count_by-own club (other ∷ clubs) has =
    let counted = count_by-cons (λ x. x == club) other clubs in
    elim (or_cases (other == club) (has_club clubs club) has) as (λ _. 1
    ≤ count_by (λ x. x == club) (other ∷ clubs)) [
      | inl here ↦
          let one : cond {A = ℕ} (other == club) 1 0 ≡ 1 = ap
          (λ t. cond {A = ℕ} t 1 0) here in omega arith
      | inr later ↦ let rest = count_by-own club clubs later in omega arith
    ]

-- those that pass a test which the club does not are no more than its rivals that pass a weaker one
pub count_by-rivals : (before front : ℕ → Bool) (club : ℕ) (clubs : List ℕ) → before club ≡ false
    → ((other : ℕ) → before other ≡ true → front other ≡ true)
    → count_by before clubs ≤ count_by front (filter (λ other. not (other == club)) clubs)
count_by-rivals before front club [] itself gives = omega arith
count_by-rivals before front club (other ∷ clubs) itself gives =
    let rest = count_by-rivals before front club clubs itself gives in
    let here = count_by-cons before other clubs in
    by_test (other == club) (before other) refl refl rest here
  where
    by_test : (own passes : Bool) → (other == club) ≡ own → before other ≡ passes
        → count_by before clubs ≤ count_by front (filter (λ x. not (x == club)) clubs)
        → count_by before (other ∷ clubs) ≡ cond {A = ℕ} (before other) 1 0 + count_by before clubs
        → count_by before (other ∷ clubs)
        ≤ count_by front (cond (not own) (other ∷ filter (λ x. not (x == club)) clubs)
        (filter (λ x. not (x == club)) clubs))
    by_test true passes same b rest here =
        let none : cond {A = ℕ} (before other) 1 0 ≡ 0 = ap (λ t. cond {A = ℕ} t 1 0) (ap before
        (eqb-true other club same) ∙ itself) in
        omega arith
    by_test false true same b rest here =
        let counted = count_by-other front club other clubs in
        let one : cond {A = ℕ} (before other) 1 0 ≡ 1 = ap (λ t. cond {A = ℕ} t 1 0) b in
        let other_one : cond {A = ℕ} (front other) 1 0 ≡ 1 = ap
        (λ t. cond {A = ℕ} t 1 0) (gives other b) in
        omega arith
    by_test false false same b rest here =
        let counted = count_by-other front club other clubs in
        let none : cond {A = ℕ} (before other) 1 0 ≡ 0 = ap (λ t. cond {A = ℕ} t 1 0) b in
        omega arith

-- if each rival is before or behind, the rivals are no more than both together
pub count_by-both : (known before back : ℕ → Bool) (club : ℕ) (clubs : List ℕ)
    → list_all known clubs ≡ true
    → ((other : ℕ) → known other ≡ true → other ≢ club → before other ≡ false → back other ≡ true)
    → length (filter (λ other. not (other == club)) clubs)
    ≤ count_by before (filter (λ other. not (other == club)) clubs)
    + count_by back (filter (λ other. not (other == club)) clubs)
count_by-both known before back club [] all covers = omega arith
count_by-both known before back club (other ∷ clubs) all covers =
    let parts = and_parts (known other) (list_all known clubs) all in
    by_test (other == club) (before other) refl refl parts.0
    (count_by-both known before back club clubs parts.1 covers)
  where
    by_test : (own passes : Bool) → (other == club) ≡ own → before other ≡ passes
        → known other ≡ true
        → length (filter (λ x. not (x == club)) clubs) ≤ count_by before
        (filter (λ x. not (x == club)) clubs) + count_by back (filter (λ x. not (x == club)) clubs)
        → length (cond (not own) (other ∷ filter (λ x. not (x == club)) clubs)
        (filter (λ x. not (x == club)) clubs))
        ≤ count_by before (cond (not own) (other ∷ filter (λ x. not (x == club)) clubs)
        (filter (λ x. not (x == club)) clubs))
        + count_by back (cond (not own) (other ∷ filter (λ x. not (x == club)) clubs)
        (filter (λ x. not (x == club)) clubs))
    by_test true passes same b is rest = rest
    by_test false true same b is rest =
        let ahead = count_by-other before club other clubs in
        let behind = count_by-other back club other clubs in
        let one : cond {A = ℕ} (before other) 1 0 ≡ 1 = ap (λ t. cond {A = ℕ} t 1 0) b in
        omega arith
    by_test false false same b is rest =
        let ahead = count_by-other before club other clubs in
        let behind = count_by-other back club other clubs in
        let one : cond {A = ℕ} (back other) 1 0 ≡ 1 = ap (λ t. cond {A = ℕ} t 1 0) (covers other is
        (eqb-false other club same) b) in
        omega arith
