-- Sets of clubs: which clubs a set has by its bits, and when two sets have the same clubs.
use Rattle.std.proofs.Common.{◌≡◌, ℕ, suc, zero, ◌+◌, ◌-◌, ◌*◌, ◌%◌, ◌^◌, ◌<◌, ◌≤◌, ◌≢◌, ◌⊎◌, inl}
use Rattle.std.proofs.Common.{inr, min, max, Bool, true, false, not, ◌&&◌, ◌||◌, eqb, ltb, cond}
use Rattle.std.proofs.Common.{List, [], ◌∷◌, ◌++◌, filter, length, sym, ap, refl, ◌∙◌, subst, arith}
use Rattle.std.specs.List.{range_with_len}
use Rattle.std.specs.Int.{bit_at, bit_not}
use Rattle.std.specs.Int.RustNames.{bit_or}
use lib.Bits.{bit_and}
use mir.Syntax.{w32}
use Rattle.std.proofs.lemmas.Bool.{eqb-true, eq-eqb, or_left, or_right, cases_eq, cases_lt}
use Rattle.std.proofs.lemmas.Bool.{and_from, not_from_false, lt-ltb, le-ltb, ne_eqb}
use Rattle.std.proofs.lemmas.Bool.Decides.{nat_tests}
use Rattle.std.proofs.lemmas.List.{map-id, length-append}
use Rattle.std.proofs.lemmas.List.Filters.{length-filter_both}
use Rattle.std.proofs.lemmas.List.FromFn.{filter_of_map_range_with_len_more}
use Rattle.std.proofs.lemmas.Nat.Bits.{bit_at-zero, bit_at-lt, bit_at_or, bit_at_and, bit_at_not}
use Rattle.std.proofs.lemmas.Nat.Bits.{bit_at_set_same, bit_at_set_other, same_from_bits_below}
use Rattle.std.proofs.lemmas.Map.Views.{any-filter_same}
use Rattle.league_core.specs.declared.club_set.ClubSet.{ClubSet}
use Rattle.league_core.specs.game.Sums.{has_club}
use Rattle.league_core.specs.game.ClubSets.{clubs_below, clubs_in}
use Rattle.std.proofs.Math.Bool.{and-true, or-false}
use Rattle.league_core.proofs.ClubLemmas.{has_club-some}
use Rattle.league_core.proofs.plain.TruthValues.{and_comm}
use Rattle.league_core.proofs.plain.Filters.{filter-filter}
use Rattle.league_core.proofs.plain.Runs.{filter-range_below}

-- a run of numbers from a on has a number exactly when it is among them
pub has_club-range_from : (from count x : ℕ)
    → has_club (range_with_len from count) x ≡ (not (ltb x from) && ltb x (from + count))
has_club-range_from from zero x = grind (arith, nat_tests)
has_club-range_from from (suc count) x = grind
    (arith, nat_tests, has_club-range_from (from + 1) count x)

-- the clubs of a sheet are those below their number
pub has_club-range : (count x : ℕ) → has_club (range_with_len 0 count) x ≡ ltb x count
has_club-range count x = grind (arith, nat_tests, has_club-range_from 0 count x)

-- of the clubs that pass a test, a club is one exactly when it is one of all and passes
pub has_club-filter : (p : ℕ → Bool) (xs : List ℕ) (x : ℕ)
    → has_club (filter p xs) x ≡ (has_club xs x && p x)
has_club-filter p xs x =
    any-filter_same (λ member. eqb member x) p (p x) (λ k h. ap p (eqb-true k x h)) xs
    ∙ and_comm (p x) (has_club xs x)

-- tests that agree on the clubs of a list leave the same of them
pub filter_agree_in : (p q : ℕ → Bool) (xs : List ℕ) → ((x : ℕ) → has_club xs x ≡ true → p x ≡ q x)
    → filter p xs ≡ filter q xs
filter_agree_in p q [] agree = refl
filter_agree_in p q (y ∷ ys) agree =
    let here : p y ≡ q y = agree y (or_left (eqb y y) (has_club ys y) (eq-eqb y y refl)) in
    let rest : filter p ys ≡ filter q ys = filter_agree_in p q ys (λ x h. agree x
    (or_right (eqb y x) (has_club ys x) h)) in
    (λ i. cond (here i) (y ∷ rest i) (rest i))

-- a set has a club below its width exactly when the club's bit is set
pub has_club-clubs_below : (count bits x : ℕ)
    → has_club (clubs_below count bits) x ≡ (ltb x count && eqb (bit_at bits x) 1)
unfolding clubs_below
has_club-clubs_below count bits x =
    has_club-filter (λ club. eqb (bit_at bits club) 1) (range_with_len 0 count) x
    ∙ ap (λ b. b && eqb (bit_at bits x) 1) (has_club-range count x)

-- if a set has those clubs of another that pass a test, its list is the filtered list
pub clubs_below-filter : (count bits group : ℕ) (p : ℕ → Bool)
    → ((x : ℕ) → has_club (clubs_below count bits) x ≡
    (has_club (clubs_below count group) x && p x))
    → clubs_below count bits ≡ filter p (clubs_below count group)
unfolding clubs_below
clubs_below-filter count bits group p same =
    filter_agree_in (λ x. eqb (bit_at bits x) 1) (λ x. eqb (bit_at group x) 1 && p x)
    (range_with_len 0 count)
    (λ x within.
    let below : ltb x count ≡ true = sym (has_club-range count x) ∙ within in
    let both : (ltb x count && eqb (bit_at bits x) 1) ≡
    (ltb x count && eqb (bit_at group x) 1 && p x) =
    sym (has_club-clubs_below count bits x) ∙ same x
    ∙ ap (λ b. b && p x) (has_club-clubs_below count group x) in
    let P : Bool → Type 0 = λ b. (b && eqb (bit_at bits x) 1) ≡
    (b && eqb (bit_at group x) 1 && p x) in
    subst P below both)
    ∙ sym (filter-filter p (λ x. eqb (bit_at group x) 1) (range_with_len 0 count))

-- a set that has exactly the clubs below a number is the run of them
pub clubs_below-range : (count bits clubs : ℕ) → clubs ≤ count
    → ((x : ℕ) → has_club (clubs_below count bits) x ≡ ltb x clubs)
    → clubs_below count bits ≡ range_with_len 0 clubs
unfolding clubs_below
clubs_below-range count bits clubs within same =
    let front : min count (clubs - 0) ≡ clubs = omega arith in
    filter_agree_in (λ x. eqb (bit_at bits x) 1) (λ x. ltb x clubs) (range_with_len 0 count)
    (λ x inside.
    let below : ltb x count ≡ true = sym (has_club-range count x) ∙ inside in
    let both : (ltb x count && eqb (bit_at bits x) 1) ≡ ltb x clubs = sym
    (has_club-clubs_below count bits x) ∙ same x in
    let P : Bool → Type 0 = λ b. (b && eqb (bit_at bits x) 1) ≡ ltb x clubs in
    subst P below both)
    ∙ filter-range_below clubs 0 count
    ∙ ap (range_with_len 0) front

-- a set that has exactly the clubs below a number that pass a test is the filtered run of them
pub clubs_below-filter_range : (count bits clubs : ℕ) (p : ℕ → Bool) → clubs ≤ count
    → ((x : ℕ) → has_club (clubs_below count bits) x ≡ (ltb x clubs && p x))
    → clubs_below count bits ≡ filter p (range_with_len 0 clubs)
unfolding clubs_below
clubs_below-filter_range count bits clubs p within same =
    let front : min count (clubs - 0) ≡ clubs = omega arith in
    filter_agree_in (λ x. eqb (bit_at bits x) 1) (λ x. ltb x clubs && p x) (range_with_len 0 count)
    (λ x inside.
    let below : ltb x count ≡ true = sym (has_club-range count x) ∙ inside in
    let both : (ltb x count && eqb (bit_at bits x) 1) ≡ (ltb x clubs && p x) = sym
    (has_club-clubs_below count bits x) ∙ same x in
    let P : Bool → Type 0 = λ b. (b && eqb (bit_at bits x) 1) ≡ (ltb x clubs && p x) in
    subst P below both)
    ∙ sym (filter-filter p (λ x. ltb x clubs) (range_with_len 0 count))
    ∙ ap (filter p) (filter-range_below clubs 0 count)
    ∙ ap (λ n. filter p (range_with_len 0 n)) front

-- one bit more puts its club at the end, or nothing
pub clubs_below-suc : (count bits : ℕ)
    → clubs_below (count + 1) bits ≡ clubs_below count bits ++ cond (eqb (bit_at bits count) 1)
    (count ∷ []) []
unfolding clubs_below
clubs_below-suc count bits =
    let more = filter_of_map_range_with_len_more (λ club. eqb (bit_at bits club) 1)
    (λ (x : ℕ). x) 0 count count (omega arith) in
    rw (map-id, map-id) at more

-- no club is in a set without bits
pub clubs_below-zero : (count : ℕ) → clubs_below count 0 ≡ []
unfolding clubs_below
clubs_below-zero count =
    filter_agree_in (λ x. eqb (bit_at 0 x) 1) (λ x. ltb x 0) (range_with_len 0 count)
    (λ x inside. grind (arith, nat_tests, bit_at-zero x))
    ∙ filter-range_below 0 0 count
    ∙ ap (range_with_len 0) (none count)
  where
    none : (count : ℕ) → min count (0 - 0) ≡ 0
    none count = omega arith

-- a set of so many bits without a club has no bit
pub no_club_no_bit : (count bits : ℕ) → bits < 2 ^ count → clubs_below count bits ≡ [] → bits ≡ 0
no_club_no_bit count bits fits none =
    let zero_fits : 0 < 2 ^ count = omega arith in
    same_from_bits_below count bits 0 fits zero_fits
    (λ x below.
    let no : (ltb x count && eqb (bit_at bits x) 1) ≡ false = sym
    (has_club-clubs_below count bits x) ∙ ap (λ clubs. has_club clubs x) none in
    let low = bit_at-lt bits x in
    grind (arith, nat_tests, bit_at-zero x))

-- what a club's own bit says of a set with one club more
pub has_club-with_bit : (bits club x : ℕ) → club < 32
    → has_club (clubs_below 32 (bit_or bits (1 * 2 ^ club % 2 ^ 32))) x ≡
    (has_club (clubs_below 32 bits) x || eqb club x)
has_club-with_bit bits club x within =
    has_club-clubs_below 32 (bit_or bits (1 * 2 ^ club % 2 ^ 32)) x
    ∙ by_club (cases_eq x club)
    ∙ ap (λ b. b || eqb club x) (sym (has_club-clubs_below 32 bits x))
  where
    by_club : (x ≡ club) ⊎ (x ≢ club)
        → (ltb x 32 && eqb (bit_at (bit_or bits (1 * 2 ^ club % 2 ^ 32)) x) 1) ≡
        ((ltb x 32 && eqb (bit_at bits x) 1) || eqb club x)
    by_club (inl same) =
        let set : bit_at (bit_or bits (1 * 2 ^ club % 2 ^ 32)) club
        ≡ 1 = bit_at_set_same w32 bits club within in
        let set' : bit_at (bit_or bits (1 * 2 ^ club % 2 ^ 32)) x ≡ 1 = ap
        (bit_at (bit_or bits (1 * 2 ^ club % 2 ^ 32))) same ∙ set in
        let below : x < 32 = omega arith in
        and_from (ltb x 32) (eqb (bit_at (bit_or bits (1 * 2 ^ club % 2 ^ 32)) x) 1)
        (lt-ltb x 32 below) (eq-eqb _ 1 set')
        ∙ sym (or_right (ltb x 32 && eqb (bit_at bits x) 1) (eqb club x) (eq-eqb club x (sym same)))
    by_club (inr other) =
        let kept : bit_at (bit_or bits (1 * 2 ^ club % 2 ^ 32)) x
        ≡ bit_at bits x = bit_at_set_other w32 bits club within x other in
        let differs : eqb club x ≡ false = ne_eqb club x (λ e. other (sym e)) in
        ap (λ bit. ltb x 32 && eqb bit 1) kept
        ∙ sym (or-false (ltb x 32 && eqb (bit_at bits x) 1))
        ∙ ap (λ b. (ltb x 32 && eqb (bit_at bits x) 1) || b) (sym differs)

-- the clubs of either of two sets
pub has_club-or : (bits other x : ℕ)
    → has_club (clubs_below 32 (bit_or bits other)) x ≡
    (has_club (clubs_below 32 bits) x || has_club (clubs_below 32 other) x)
has_club-or bits other x =
    rw (
      has_club-clubs_below 32
          (bit_or bits other) x,
      has_club-clubs_below 32 bits x,
      has_club-clubs_below 32 other x,
      bit_at_or bits other x,
    )
    (either_bit (ltb x 32) (bit_at bits x) (bit_at other x) (bit_at-lt bits x) (bit_at-lt other x))
  where
    either_bit : (b : Bool) (m n : ℕ) → m < 2 → n < 2
        → (b && eqb (max m n) 1) ≡ ((b && eqb m 1) || (b && eqb n 1))
    either_bit true m n low low' = grind (arith, nat_tests)
    either_bit false m n low low' = refl

-- the clubs of a set that another has not
pub has_club-and_not : (bits other x : ℕ) → other < 2 ^ 32
    → has_club (clubs_below 32 (bit_and bits (bit_not w32 other))) x ≡
    (has_club (clubs_below 32 bits) x && not (has_club (clubs_below 32 other) x))
has_club-and_not bits other x fits =
    has_club-clubs_below 32 (bit_and bits (bit_not w32 other)) x
    ∙ by_width (cases_lt x 32)
    ∙ ap (λ b. b && not (ltb x 32 && eqb (bit_at other x) 1)) (sym (has_club-clubs_below 32 bits x))
    ∙ ap (λ b. has_club (clubs_below 32 bits) x && not b) (sym (has_club-clubs_below 32 other x))
  where
    only_one : (m n : ℕ) → m < 2 → n < 2 → eqb (min m (1 - n)) 1 ≡ (eqb m 1 && not (eqb n 1))
    only_one m n low low' = grind (arith, nat_tests)

    by_width : (x < 32) ⊎ (32 ≤ x)
        → (ltb x 32 && eqb (bit_at (bit_and bits (bit_not w32 other)) x) 1) ≡
        (ltb x 32 && eqb (bit_at bits x) 1 && not (ltb x 32 && eqb (bit_at other x) 1))
    by_width (inl below) =
        let in_width : ltb x 32 ≡ true = lt-ltb x 32 below in
        let bit : bit_at (bit_and bits (bit_not w32 other)) x ≡ min (bit_at bits x)
        (1 - bit_at other x) =
        bit_at_and bits (bit_not w32 other) x
        ∙ ap (min (bit_at bits x)) (bit_at_not w32 other x fits below) in
        let P : Bool → Type 0 = λ b. (b && eqb (bit_at (bit_and bits (bit_not w32 other)) x) 1) ≡
        (b && eqb (bit_at bits x) 1 && not (b && eqb (bit_at other x) 1)) in
        subst P (sym in_width)
        (ap (λ m. eqb m 1) bit
        ∙ only_one (bit_at bits x) (bit_at other x) (bit_at-lt bits x) (bit_at-lt other x))
    by_width (inr above) =
        let P : Bool → Type 0 = λ b. (b && eqb (bit_at (bit_and bits (bit_not w32 other)) x) 1) ≡
        (b && eqb (bit_at bits x) 1 && not (b && eqb (bit_at other x) 1)) in
        subst P (sym (le-ltb x 32 above)) refl

-- the clubs of a set below one number more are those below it, and the next one if the set has it
pub clubs_below-more : (count bits : ℕ) → count < 32
    → clubs_below (count + 1) bits ≡ clubs_below count bits ++ cond
    (has_club (clubs_below 32 bits) count) (count ∷ []) []
clubs_below-more count bits within =
    let here : has_club (clubs_below 32 bits) count ≡ eqb (bit_at bits count) 1 =
    has_club-clubs_below 32 bits count
    ∙ ap (λ b. b && eqb (bit_at bits count) 1) (lt-ltb count 32 within) in
    clubs_below-suc count bits
    ∙ ap (λ b. clubs_below count bits ++ cond b (count ∷ []) []) (sym here)

-- no set has a club below 0
pub clubs_below-none : (bits : ℕ) → clubs_below 0 bits ≡ []
unfolding clubs_below
clubs_below-none bits = refl

-- how many clubs a set has below one number more
pub length-clubs_below-suc : (count bits : ℕ) → count < 32
    → length (clubs_below (count + 1) bits) ≡ length (clubs_below count bits) + cond
    (has_club (clubs_below 32 bits) count) 1 0
length-clubs_below-suc count bits within =
    let here : has_club (clubs_below 32 bits) count ≡ eqb (bit_at bits count) 1 =
    has_club-clubs_below 32 bits count
    ∙ ap (λ b. b && eqb (bit_at bits count) 1) (lt-ltb count 32 within) in
    ap length (clubs_below-suc count bits)
    ∙ length-append (clubs_below count bits) (cond (eqb (bit_at bits count) 1) (count ∷ []) [])
    ∙ ap (λ n. length (clubs_below count bits) + n) (length-cond (eqb (bit_at bits count) 1) count)
    ∙ ap (λ b. length (clubs_below count bits) + cond b 1 0) (sym here)
  where
    length-cond : (b : Bool) (x : ℕ) → length (cond b (x ∷ []) []) ≡ cond b 1 0
    length-cond true x = refl
    length-cond false x = refl

-- a set within another that misses a club of it has fewer clubs
pub length-fewer : (set whole : ClubSet) (missed : ℕ)
    → ((x : ℕ) → has_club (clubs_in set) x ≡ true → has_club (clubs_in whole) x ≡ true)
    → has_club (clubs_in whole) missed ≡ true → has_club (clubs_in set) missed ≡ false
    → length (clubs_in set) < length (clubs_in whole)
length-fewer set whole missed within among out =
    let p : ℕ → Bool = has_club (clubs_in set) in
    let q : ℕ → Bool = λ x. not (has_club (clubs_in set) x) in
    let list : clubs_in set ≡ filter p (clubs_in whole) = clubs_below-filter 32 set.bits whole.bits
    p (λ x. kept (p x) (has_club (clubs_in whole) x) (within x)) in
    let both = length-filter_both p q (λ _. refl) (clubs_in whole) in
    let some : 0 < length (filter q (clubs_in whole)) =
    has_club-some (filter q (clubs_in whole)) missed
    (has_club-filter q (clubs_in whole) missed
    ∙ and_from (has_club (clubs_in whole) missed) (q missed) among
    (not_from_false (p missed) out)) in
    omega (arith, ap length list)
  where
    kept : (b c : Bool) → (b ≡ true → c ≡ true) → b ≡ (c && b)
    kept true c sub = sym (and-true c ∙ sub refl)
    kept false true sub = refl
    kept false false sub = refl
