-- The bits of a set, added over its clubs, are the set.
use Rattle.std.proofs.Common.{◌≡◌, ℕ, zero, suc, ◌+◌, ◌*◌, ◌/◌, ◌%◌, ◌^◌, ◌<◌, ◌≤◌, Bool, true}
use Rattle.std.proofs.Common.{false, ◌&&◌, eqb, cond, List, [], ◌∷◌, filter, Option, Some, None}
use Rattle.std.proofs.Common.{refl, sym, ap, subst, ◌∙◌, arith, pow-suc, add-one}
use Rattle.std.specs.Prelude.{nat_le}
use Rattle.std.specs.List.{list_all, range_with_len}
use Rattle.std.specs.Int.{bit_at}
use Rattle.std.proofs.Math.Pow.{shr-shr}
use Rattle.std.proofs.lemmas.Nat.{shr_below}
use Rattle.std.proofs.lemmas.Bool.{and_parts, and_from, cond_both, le-leb, false≢true}
use Rattle.std.proofs.lemmas.Nat.Bits.{bit_at-lt}
use Rattle.league_core.specs.declared.club_set.ClubSet.{ClubSet}
use Rattle.league_core.specs.game.ClubSets.{clubs_below, clubs_in}
use Rattle.league_core.specs.search.Reasons.{has_member}
use Rattle.cert_text.specs.Ranges.{is_club_number}
use Rattle.cert_text.specs.Places.{are_rising_from, bits_at, set_listed}
use Rattle.league_core.proofs.plain.Numbers.{halves, bit_times}

bits_at-cond : (b : Bool) (club : ℕ) (clubs : List ℕ)
    → bits_at (cond b (club ∷ clubs) clubs) ≡ cond b (2 ^ club) 0 + bits_at clubs
bits_at-cond true club clubs = refl
bits_at-cond false club clubs = omega arith

-- from a place on
bits_at-run : (bits width from count : ℕ) → from + count ≡ width → bits < 2 ^ width
    → bits_at (filter (λ club. eqb (bit_at bits club) 1) (range_with_len from count))
    ≡ bits / 2 ^ from * 2 ^ from
bits_at-run bits width from zero ends fits =
    let at_end : width ≡ 0 + from = omega arith in
    let below : bits < 2 ^ (0 + from) = subst (λ n. bits < 2 ^ n) at_end fits in
    let low : bits / 2 ^ from < 2 ^ 0 = shr_below bits 0 from below in
    let none : bits / 2 ^ from ≡ 0 = omega arith in
    let nothing : 0 ≡ 0 * 2 ^ from = omega arith in
    nothing ∙ ap (λ n. n * 2 ^ from) (sym none)
bits_at-run bits width from (suc count) ends fits =
    let q = bits / 2 ^ from in
    let rest = filter (λ club. eqb (bit_at bits club) 1) (range_with_len (from + 1) count) in
    let later : bits_at rest ≡ bits / 2 ^ (from + 1) * 2 ^ (from + 1) =
    bits_at-run bits width (from + 1) count (omega arith) fits in
    let half : bits / 2 ^ (from + 1) ≡ q / 2 = sym (shr-shr bits from 1) in
    let double : 2 ^ (from + 1) ≡ 2 ^ from * 2 = ap (λ n. 2 ^ n) (add-one from) ∙ pow-suc 2 from in
    bits_at-cond (eqb (bit_at bits from) 1) from rest
    ∙ ap (λ n. n + bits_at rest) (bit_times (bit_at bits from) (2 ^ from) (bit_at-lt bits from))
    ∙ ap (λ n. q % 2 * 2 ^ from + n)
    (later ∙ ap (λ n. n * 2 ^ (from + 1)) half ∙ ap (λ n. q / 2 * n) double)
    ∙ halves q (2 ^ from)

-- a set's bits are those at its clubs
pub bits_at-clubs_in : (bits : ℕ) → bits < 2 ^ 32 → bits_at (clubs_below 32 bits) ≡ bits
unfolding clubs_below
bits_at-clubs_in bits fits = bits_at-run bits 32 0 32 refl fits ∙ whole bits
  where
    whole : (n : ℕ) → n / 2 ^ 0 * 2 ^ 0 ≡ n
    whole n = omega arith

-- the clubs of a range that pass a test rise
rising-filter : (test : ℕ → Bool) (least from count : ℕ) → least ≤ from
    → list_all is_club_number (filter test (range_with_len from count)) ≡ true
    → are_rising_from least (filter test (range_with_len from count)) ≡ true
rising-filter test least from zero low all = refl
rising-filter test least from (suc count) low all =
    let rest = filter test (range_with_len (from + 1) count) in
    cond_both (test from) (from ∷ rest) rest
    (λ clubs. list_all is_club_number clubs ≡ true → are_rising_from least clubs ≡ true)
    (λ kept all.
    let parts = and_parts (is_club_number from) (list_all is_club_number rest) all in
    and_from (nat_le least from && is_club_number from) (are_rising_from (from + 1) rest)
    (and_from (nat_le least from) (is_club_number from) (le-leb least from low) parts.0)
    (rising-filter test (from + 1) (from + 1) count (omega arith) parts.1))
    (λ left all. rising-filter test least (from + 1) count (omega (arith, low)) all) all

-- a set's clubs rise
pub clubs_in_rise : (bits : ℕ) → list_all is_club_number (clubs_below 32 bits) ≡ true
    → are_rising_from 0 (clubs_below 32 bits) ≡ true
unfolding clubs_below
clubs_in_rise bits all =
    rising-filter (λ club. eqb (bit_at bits club) 1) 0 0 32 (omega arith) all

-- the set with these bits
abbrev some_set : ℕ → Option ClubSet
some_set bits = Some (record { bits = bits })

set_listed-rising : (clubs : List ℕ) → has_member clubs ≡ true → are_rising_from 0 clubs ≡ true
    → set_listed clubs ≡ some_set (bits_at clubs)
set_listed-rising [] some rise = absurd (false≢true some)
set_listed-rising (club ∷ clubs) some rise =
    ap (λ b. cond b (some_set (bits_at (club ∷ clubs))) None) rise

-- a set is read from the list of its clubs
pub set_listed-clubs_in : (set : ClubSet) → set.bits < 2 ^ 32 → has_member (clubs_in set) ≡ true
    → list_all is_club_number (clubs_in set) ≡ true → set_listed (clubs_in set) ≡ Some set
set_listed-clubs_in set fits some all =
    set_listed-rising (clubs_in set) some (clubs_in_rise set.bits all)
    ∙ ap some_set (bits_at-clubs_in set.bits fits)
