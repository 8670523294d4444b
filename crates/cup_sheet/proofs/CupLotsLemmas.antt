-- Lots name no other clubs, and none twice.
use Rattle.std.proofs.Common.{◌≡◌, ◌<◌, ◌≤◌, ℕ, zero, suc, ◌+◌, Bool, true, false, ◌&&◌, ◌==◌}
use Rattle.std.proofs.Common.{cond, List, [], ◌∷◌, ◌++◌, length, filter, refl, sym, ◌∙◌, arith}
use Rattle.std.proofs.Common.{nat_lt, subst, inl, inr}
use Rattle.std.specs.List.{list_all}
use Rattle.std.proofs.lemmas.Bool.{and_parts, and_from, eqb-true, eq-eqb, or_cases}
use Rattle.std.proofs.lemmas.Bool.{or_left, or_right}
use Rattle.std.proofs.lemmas.Bool.Decides.{nat_tests}
use Rattle.std.proofs.lemmas.List.{length-append}
use Rattle.league_core.specs.game.Sums.{has_club}
use Rattle.league_core.specs.game.Ranking.{are_lots}
use Rattle.league_core.proofs.ClubLemmas.{has_club-append, has_club-some}
use Rattle.league_core.proofs.ClubSetLemmas.{has_club-filter}
use Rattle.league_core.proofs.RankingLemmas.{lots_have}

-- one number more
below_one_more : (n : ℕ) (xs : List ℕ)
    → length (filter (λ x. nat_lt x (suc n)) xs)
    ≡ length (filter (λ x. nat_lt x n) xs) + length (filter (λ x. x == n) xs)
below_one_more n [] = refl
below_one_more n (x ∷ xs) = grind (arith, nat_tests, below_one_more n xs)

-- a list with each number below one has as many of them
pub has_as_many : (n : ℕ) (xs : List ℕ) → ((k : ℕ) → k < n → has_club xs k ≡ true)
    → n ≤ length (filter (λ x. nat_lt x n) xs)
has_as_many zero xs each = omega arith
has_as_many (suc n) xs each =
    let has : has_club (filter (λ x. x == n) xs) n ≡ true =
    has_club-filter (λ x. x == n) xs n
    ∙ and_from (has_club xs n) (n == n) (each n (omega arith)) (eq-eqb n n refl) in
    omega (
      arith,
      below_one_more n xs,
      has_as_many n xs (λ k below. each k (omega arith)),
      has_club-some (filter (λ x. x == n) xs) n has,
    )

-- one element more
few_step : (b : Bool) (x : ℕ) (kept xs : List ℕ) → length kept ≤ length xs
    → length (cond b (x ∷ kept) kept) ≤ length (x ∷ xs)
few_step true x kept xs few = omega arith
few_step false x kept xs few = omega arith

-- a filter keeps no more than there is
pub keeps_few : (p : ℕ → Bool) (xs : List ℕ) → length (filter p xs) ≤ length xs
keeps_few p [] = omega arith
keeps_few p (x ∷ xs) = few_step (p x) x (filter p xs) xs (keeps_few p xs)

-- one element more of those that are kept whole
whole_step : (b rest : Bool) (x : ℕ) (kept xs : List ℕ) → length kept ≤ length xs
    → (length xs ≤ length kept → rest ≡ true)
    → length (x ∷ xs) ≤ length (cond b (x ∷ kept) kept) → (b && rest) ≡ true
whole_step true rest x kept xs few later whole = later (omega arith)
whole_step false rest x kept xs few later whole = absurd (omega arith)

-- what a filter keeps whole passes
pub kept_whole : (p : ℕ → Bool) (xs : List ℕ) → length xs ≤ length (filter p xs)
    → list_all p xs ≡ true
kept_whole p [] whole = refl
kept_whole p (x ∷ xs) whole =
    whole_step (p x) (list_all p xs) x (filter p xs) xs (keeps_few p xs)
    (λ rest. kept_whole p xs rest) whole

-- how many lots there are
pub as_many_lots : (count : ℕ) (lots : List ℕ) → are_lots count lots ≡ true → length lots ≡ count
as_many_lots count lots drawn = eqb-true (length lots) count (and_parts _ _ drawn).0

-- lots name only the clubs that there are
pub lots_below : (count : ℕ) (lots : List ℕ) → are_lots count lots ≡ true
    → list_all (λ club. nat_lt club count) lots ≡ true
lots_below count lots drawn =
    kept_whole (λ club. nat_lt club count) lots (omega (
      arith,
      as_many_lots count lots drawn,
      has_as_many count lots (λ k below. lots_have count lots k drawn below),
    ))

-- lots name no club twice
pub not_before : (count : ℕ) (earlier later : List ℕ) (club : ℕ)
    → are_lots count (earlier ++ club ∷ later) ≡ true → has_club earlier club ≡ false
not_before count earlier later club drawn = by (has_club earlier club) refl
  where
    lots : List ℕ
    lots = earlier ++ club ∷ later

    others : has_club earlier club ≡ true → (k : ℕ) → k < count
        → has_club (earlier ++ later) k ≡ true
    others has k below =
        let there = sym (has_club-append earlier (club ∷ later) k)
        ∙ lots_have count lots k drawn below in
        elim (or_cases (has_club earlier k) (has_club (club ∷ later) k) there) [
          | inl front ↦ has_club-append earlier later k
              ∙ or_left (has_club earlier k) (has_club later k) front
          | inr rest ↦ elim (or_cases (club == k) (has_club later k) rest) [
            | inl same ↦ has_club-append earlier later k
                ∙ or_left (has_club earlier k) (has_club later k)
                (subst (λ (x : ℕ). has_club earlier x ≡ true) (eqb-true club k same) has)
            | inr back ↦ has_club-append earlier later k
                ∙ or_right (has_club earlier k) (has_club later k) back
          ]
        ]

    by : (b : Bool) → has_club earlier club ≡ b → b ≡ false
    by false is = refl
    by true is = absurd (omega (
      arith,
      as_many_lots count lots drawn,
      length-append earlier (club ∷ later),
      length-append earlier later,
      has_as_many count (earlier ++ later) (others is),
      keeps_few (λ x. nat_lt x count) (earlier ++ later),
    ))
