-- The bits of a set of clubs: the first so many, one alone, those that two sets share, how many are
-- set, and the lowest.
use Rattle.std.proofs.Common.{◌≡◌, ℕ, ◌-◌, ◌/◌, ◌^◌, ◌<◌, ◌≤◌, ◌≢◌, ◌⊎◌, inl, inr, min, Bool, true}
use Rattle.std.proofs.Common.{false, ◌&&◌, eqb, ltb, [], ◌∷◌, length, count_ones, sym, ap, refl}
use Rattle.std.proofs.Common.{◌∙◌, arith}
use Rattle.std.specs.List.{range_with_len}
use Rattle.std.specs.Int.{bit_at, trailing_zeros}
use lib.Bits.{bit_and}
use mir.Syntax.{w32}
use Rattle.std.proofs.lemmas.Bool.{eq-eqb, cases_eq, cases_lt, and_from, lt-ltb, le-ltb, ne_eqb}
use Rattle.std.proofs.lemmas.Bool.Decides.{nat_tests}
use Rattle.std.proofs.lemmas.Nat.Bits.{bit_at-lt, bit_at_and, bit_at_ones, bit_at_ones_above}
use Rattle.std.proofs.lemmas.Nat.Bits.{bit_at-pow_same, bit_at-pow_other, bit_at-trailing_zeros}
use Rattle.league_core.specs.game.Sums.{has_club}
use Rattle.league_core.specs.game.ClubSets.{clubs_below}
use Rattle.league_core.proofs.ClubSetLemmas.{has_club-clubs_below, filter_agree_in}
use Rattle.league_core.proofs.ClubSetLemmas.{clubs_below-range, clubs_below-zero}
use Rattle.league_core.proofs.plain.Runs.{filter-run_one}
use Rattle.league_core.proofs.plain.Counts.{length-run_bits}

-- the lowest bits, so many of them, are the first clubs
pub clubs_below-ones : (count clubs : ℕ) → clubs ≤ count
    → clubs_below count (2 ^ clubs - 1) ≡ range_with_len 0 clubs
clubs_below-ones count clubs within =
    clubs_below-range count (2 ^ clubs - 1) clubs within
    (λ x. has_club-clubs_below count (2 ^ clubs - 1) x ∙ by_place x (cases_lt x clubs))
  where
    by_place : (x : ℕ) → (x < clubs) ⊎ (clubs ≤ x)
        → (ltb x count && eqb (bit_at (2 ^ clubs - 1) x) 1) ≡ ltb x clubs
    by_place x (inl below) =
        and_from _ _ (lt-ltb x count (omega arith)) (eq-eqb _ 1 (bit_at_ones clubs x below))
        ∙ sym (lt-ltb x clubs below)
    by_place x (inr above) =
        let none = bit_at_ones_above clubs x above in
        let over = le-ltb x clubs above in
        grind (arith, nat_tests)

-- one bit alone is the set of its club
pub clubs_below-one : (count club : ℕ) → club < count → clubs_below count (2 ^ club) ≡ club ∷ []
unfolding clubs_below
clubs_below-one count club within =
    filter_agree_in (λ x. eqb (bit_at (2 ^ club) x) 1) (λ x. eqb club x) (range_with_len 0 count)
    (λ x inside. by_place x (cases_eq x club))
    ∙ filter-run_one club 0 count (omega arith) (omega arith)
  where
    by_place : (x : ℕ) → (x ≡ club) ⊎ (x ≢ club) → eqb (bit_at (2 ^ club) x) 1 ≡ eqb club x
    by_place x (inl same) =
        eq-eqb _ 1 (ap (bit_at (2 ^ club)) same ∙ bit_at-pow_same club)
        ∙ sym (eq-eqb club x (sym same))
    by_place x (inr other) =
        ap (λ bit. eqb bit 1) (bit_at-pow_other club x other)
        ∙ sym (ne_eqb club x (λ e. other (sym e)))

-- the clubs that two sets share
pub has_club-and : (bits other x : ℕ)
    → has_club (clubs_below 32 (bit_and bits other)) x ≡
    (has_club (clubs_below 32 bits) x && has_club (clubs_below 32 other) x)
has_club-and bits other x =
    rw (
      has_club-clubs_below 32
          (bit_and bits other) x,
      has_club-clubs_below 32 bits x,
      has_club-clubs_below 32 other x,
      bit_at_and bits other x,
    )
    (both_bits (ltb x 32) (bit_at bits x) (bit_at other x) (bit_at-lt bits x) (bit_at-lt other x))
  where
    both_bits : (b : Bool) (m n : ℕ) → m < 2 → n < 2
        → (b && eqb (min m n) 1) ≡ ((b && eqb m 1) && (b && eqb n 1))
    both_bits true m n low low' = grind (arith, nat_tests)
    both_bits false m n low low' = refl

-- a set has as many clubs as it has bits
pub length-clubs_below : (count bits : ℕ) → bits < 2 ^ count
    → length (clubs_below count bits) ≡ count_ones bits
unfolding clubs_below
length-clubs_below count bits fits =
    length-run_bits bits count 0 count (omega arith) fits ∙ ap count_ones (whole bits)
  where
    whole : (n : ℕ) → n / 2 ^ 0 ≡ n
    whole n = omega arith

-- the lowest bit of a set that has one is its first club
pub lowest_is_first : (bits : ℕ) → bits < 2 ^ 32 → clubs_below 32 bits ≢ []
    → (has_club (clubs_below 32 bits) (trailing_zeros w32 bits) ≡ true)
    × ((club : ℕ) → has_club (clubs_below 32 bits) club ≡ true → trailing_zeros w32 bits ≤ club)
lowest_is_first bits fits some = (member, least)
  where
    first : ℕ
    first = trailing_zeros w32 bits

    not_zero : bits ≢ 0
    not_zero none = some (ap (clubs_below 32) none ∙ clubs_below-zero 32)

    member : has_club (clubs_below 32 bits) first ≡ true
    member =
        let lowest = bit_at-trailing_zeros w32 bits (omega (arith, not_zero)) fits in
        has_club-clubs_below 32 bits first
        ∙ and_from (ltb first 32) (eqb (bit_at bits first) 1) (lt-ltb first 32 lowest.0)
        (eq-eqb (bit_at bits first) 1 lowest.1)

    least : (club : ℕ) → has_club (clubs_below 32 bits) club ≡ true → first ≤ club
    least club has = by_order (cases_lt club first)
      where
        by_order : (club < first) ⊎ (first ≤ club) → first ≤ club
        by_order (inr later) = later
        by_order (inl earlier) =
            let lowest = bit_at-trailing_zeros w32 bits (omega (arith, not_zero)) fits in
            let none : bit_at bits club ≡ 0 = lowest.2 club earlier in
            let bit = sym (has_club-clubs_below 32 bits club) ∙ has in
            grind (arith, nat_tests)
