-- General facts on natural and whole numbers.
use Rattle.std.proofs.Common.{Bool, ap, arith, cond, eqb, false, inl, inr, int_le, max, min, nat_le}
use Rattle.std.proofs.Common.{nat_lt, negsuc, pos, refl, suc, sym, true, zero, ℕ, ℤ, ◌%◌, ◌&&◌}
use Rattle.std.proofs.Common.{◌*ℤ◌, ◌*◌, ◌+ℤ◌, ◌+◌, ◌-ℤ◌, ◌-◌, ◌/◌, ◌<ℤ◌, ◌<◌, ◌==◌, ◌^◌, ◌||◌, ◌∙◌}
use Rattle.std.proofs.Common.{◌≡◌, ◌≤ℤ◌, ◌≤◌, ◌⊎◌}
use Rattle.std.specs.Bool.{Decides}
use Rattle.std.specs.Int.{bit_at, int_max, int_min}
use Rattle.std.specs.Int.Bits.{bit_and}
use Rattle.std.specs.Prelude.{int_lt}
use Rattle.std.proofs.Math.Nat.{add-mul, mul-add, mul-le-mul_right, pow-succ'}
use Rattle.std.proofs.Math.Pow.{pow-lt}
use Rattle.std.proofs.lemmas.Bool.{cases_Bool, cases_lt, le-leb, leb-true, lt-ltb, ltb-false}
use Rattle.std.proofs.lemmas.Bool.{ltb-true}
use Rattle.std.proofs.lemmas.Bool.Decides.{Decides-and, Decides-eqb, nat_tests}
use Rattle.std.proofs.lemmas.Int.{clamps, ints}
use Rattle.std.proofs.lemmas.Nat.Bits.{bit_at-lt, bit_at_and, bit_at_ones}
use lib.Signed.{lt_z}

-- which of two numbers is asked first does not matter
pub eqb-swap : (m n : ℕ) → (m == n) ≡ (n == m)
eqb-swap m n = grind (arith, nat_tests)

-- what the test for less says
pub int_lt-true : (a b : ℤ) → int_lt a b ≡ true → a <ℤ b
int_lt-true a b h = grind (arith, ints)

pub int_lt-false : (a b : ℤ) → int_lt a b ≡ false → b ≤ℤ a
int_lt-false a b h = grind (arith, ints)

-- so many times a number, and once more
pub times-suc : (n : ℕ) (number : ℤ)
    → pos (suc n) *ℤ number ≡ number +ℤ (pos n *ℤ number)
times-suc n number = omega (arith, ints)

-- two numbers are equal on both sides, or the pairs differ
pub pairs_decided : (a b c d : ℕ) → Decides ((a == c) && (b == d)) ((a ≡ c) × (b ≡ d))
pairs_decided a b c d = Decides-and (a == c) (b == d) (Decides-eqb a c) (Decides-eqb b d)

-- a number that counts or not
pub cond_pos : (b : Bool) (n : ℕ) → cond b (pos n) (pos 0) ≡ pos (cond b n 0)
cond_pos true n = refl
cond_pos false n = refl

pub add_none : (b : Bool) (m : ℕ) → m + cond b 0 0 ≡ m
add_none true m = omega arith
add_none false m = omega arith

pub none_add : (b : Bool) (m : ℕ) → cond b 0 0 + m ≡ m
none_add true m = omega arith
none_add false m = omega arith

pub bit_times : (bit power : ℕ) → bit < 2 → cond (eqb bit 1) power 0 ≡ bit * power
bit_times zero power low = omega arith
bit_times (suc zero) power low = omega arith
bit_times (suc (suc bit)) power low = absurd (omega arith)

pub halves : (q power : ℕ) → q % 2 * power + q / 2 * (power * 2) ≡ q * power
halves q power =
    together (q / 2) (q % 2) power ∙ ap (λ n. n * power) whole
  where
    together : (a b power : ℕ) → b * power + a * (power * 2) ≡ (a * 2 + b) * power
    together a b power = omega arith

    whole : q / 2 * 2 + q % 2 ≡ q
    whole = omega arith

pub zero_if : (b : Bool) (n : ℤ) → n ≡ pos 0 → cond b n (pos 0) ≡ pos 0
zero_if true n none = none
zero_if false n none = refl

pub one_less_below : (n most : ℕ) → 1 ≤ n → n ≤ most → nat_lt (n - 1) most ≡ true
one_less_below n most some few = lt-ltb (n - 1) most (omega arith)

pub power_fits : (club : ℕ) → club < 24 → 1 * 2 ^ club % 2 ^ 32 ≡ 2 ^ club
power_fits club below =
    let fits : 2 ^ club < 2 ^ 32 = pow-lt {j = 32} (omega (arith, below)) in
    omega (arith, fits)

-- the place after a beginning is one alone
pub same_rest : (at place more : ℕ) → at + more ≡ at + place → place ≡ more
same_rest at place more same = omega arith

pub le_more : (line few many : ℕ) → few ≤ many → nat_le line few ≡ true → nat_le line many ≡ true
le_more line few many more is =
    let low = leb-true line few is in le-leb line many (omega arith)

-- a greater number is not among the first so many
pub not_le : (m n : ℕ) → n < m → nat_le m n ≡ false
not_le m n less = grind (arith, nat_tests)

pub int_lt-gap : (a b : ℤ) → pos 0 <ℤ (b -ℤ a) → int_lt a b ≡ true
int_lt-gap a b h = grind (arith, ints)

pub int_lt-no_gap : (a b : ℤ) → (b -ℤ a) ≤ℤ pos 0 → int_lt a b ≡ false
int_lt-no_gap a b h = grind (arith, ints)

-- how far a number is above another
pub distance : (low points : ℤ) → low ≤ℤ points → (count : ℕ) × (low +ℤ pos count ≡ points)
distance low points above =
    from (points -ℤ low) (omega (arith, ints)) (omega (arith, ints))
  where
    from : (gap : ℤ) → pos 0 ≤ℤ gap → low +ℤ gap ≡ points
        → (count : ℕ) × (low +ℤ pos count ≡ points)
    from (pos n) least is = (n, is)
    from (negsuc n) least is = absurd (omega (arith, ints))

pub lt_z-true : (a b : ℤ) → lt_z a b ≡ true → a <ℤ b
lt_z-true a b h = grind (arith, ints)

pub lt_z-false : (a b : ℤ) → lt_z a b ≡ false → b ≤ℤ a
lt_z-false a b h = grind (arith, ints)

pub int_min-not_negative : (a b : ℤ) → pos 0 ≤ℤ a → pos 0 ≤ℤ b → pos 0 ≤ℤ int_min a b
int_min-not_negative a b h k = omega (arith, ints, clamps)

-- the first is at most the second, as a test has it
pub int_le-from : (a b : ℤ) → a ≤ℤ b → int_le a b ≡ true
int_le-from a b h = grind (arith, ints)

-- and the other way round
pub int_le-to : (a b : ℤ) → int_le a b ≡ true → a ≤ℤ b
int_le-to a b h = grind (arith, ints)

pub min_is_one : (x y z : ℕ)
    → (min (min x y) z ≡ x) ⊎ ((min (min x y) z ≡ y) ⊎ (min (min x y) z ≡ z))
min_is_one x y z =
    elim (cases_lt z (min x y)) as (λ _. (min (min x y) z ≡ x)
    ⊎ ((min (min x y) z ≡ y) ⊎ (min (min x y) z ≡ z))) [
      | inl under ↦ inr (inr (omega arith))
      | inr over ↦
          elim (cases_lt y x) as (λ _. (min (min x y) z ≡ x)
          ⊎ ((min (min x y) z ≡ y) ⊎ (min (min x y) z ≡ z))) [
            | inl below ↦ inr (inl (omega arith))
            | inr above ↦ inl (omega arith)
          ]
    ]

pub max_is_one : (x y z : ℕ)
    → (max (max x y) z ≡ x) ⊎ ((max (max x y) z ≡ y) ⊎ (max (max x y) z ≡ z))
max_is_one x y z =
    elim (cases_lt (max x y) z) as (λ _. (max (max x y) z ≡ x)
    ⊎ ((max (max x y) z ≡ y) ⊎ (max (max x y) z ≡ z))) [
      | inl over ↦ inr (inr (omega arith))
      | inr under ↦
          elim (cases_lt x y) as (λ _. (max (max x y) z ≡ x)
          ⊎ ((max (max x y) z ≡ y) ⊎ (max (max x y) z ≡ z))) [
            | inl above ↦ inr (inl (omega arith))
            | inr below ↦ inl (omega arith)
          ]
    ]

-- the lesser of two numbers, and the greater, is one of them
pub int_min-is_one : (x y : ℤ) → (int_min x y ≡ x) ⊎ (int_min x y ≡ y)
int_min-is_one x y = by_test _ x y
  where
    by_test : (b : Bool) (x y : ℤ) → (cond b y x ≡ x) ⊎ (cond b y x ≡ y)
    by_test true x y = inr refl
    by_test false x y = inl refl

pub int_max-is_one : (x y : ℤ) → (int_max x y ≡ x) ⊎ (int_max x y ≡ y)
int_max-is_one x y = by_test _ x y
  where
    by_test : (b : Bool) (x y : ℤ) → (cond b x y ≡ x) ⊎ (cond b x y ≡ y)
    by_test true x y = inl refl
    by_test false x y = inr refl

-- two different numbers are told apart by the smaller as a bound
pub bound_between : (a b : ℕ) → (a == b) ≡ false
    → (most : ℕ) × (((nat_le a most ≡ true) × (nat_le b most ≡ false))
    ⊎ ((nat_le a most ≡ false) × (nat_le b most ≡ true)))
bound_between a b differ =
    elim (cases_Bool (nat_lt a b)) [
      | inl less ↦ (a, inl (le-leb a a (omega arith), above a b (ltb-true a b less)))
      | inr more ↦
          let most = ltb-false a b more in
          (b, inr (above b a (strictly a b differ most), le-leb b b (omega arith)))
    ]
  where
    above : (m n : ℕ) → m < n → nat_le n m ≡ false
    above m n h = grind (arith, nat_tests)

    strictly : (m n : ℕ) → (m == n) ≡ false → n ≤ m → n < m
    strictly m n other h = grind (arith, nat_tests)

-- twice a power of two is the next one
pub powers_sum : (m n k : ℕ) → m + 1 ≡ k → n + 1 ≡ k → 2 ^ m + 2 ^ n ≡ 2 ^ k
powers_sum m n k first second =
    let same : n ≡ m = omega arith in
    let next : suc m ≡ k = omega arith in
    let powers = pow-succ' 2 m in
    ap (λ i. 2 ^ m + 2 ^ i) same ∙ (let twice : 2 ^ m + 2 ^ m ≡ 2 ^ suc m = omega arith in twice)
    ∙ ap (λ i. 2 ^ i) next

-- products with one factor divided and the other kept
pub divided : (a b c x y z : ℕ) → a + b ≡ c → x ≡ z → y ≡ z → a * x + b * y ≡ c * z
divided a b c x y z sum first second =
    ap (λ n. a * n + b * y) first
    ∙ ap (λ n. a * z + b * n) second
    ∙ sym (add-mul a b z)
    ∙ ap (λ n. n * z) sum

pub kept_divided : (a b c x y z : ℕ) → a ≡ c → b ≡ c → x + y ≡ z → a * x + b * y ≡ c * z
kept_divided a b c x y z first second sum =
    ap (λ n. n * x + b * y) first
    ∙ ap (λ n. c * x + n * y) second
    ∙ sym (mul-add c x y)
    ∙ ap (λ n. c * n) sum

-- a place in a piece is a place in the list
pub within_pieces : (i j pieces size : ℕ) → i < pieces → j < size → i * size + j < pieces * size
within_pieces i j pieces size below within =
    let whole : suc i * size ≤ pieces * size = mul-le-mul_right size (omega arith) in
    omega arith

-- some of a sum is some of one of its parts
pub some_of_sum : (m n : ℕ) → nat_lt 0 (m + n) ≡ (nat_lt 0 m || nat_lt 0 n)
some_of_sum m n = grind (arith, nat_tests)

pub bit-kept : (bits club : ℕ) → club < 32
    → bit_at (bit_and bits (2 ^ 32 - 1)) club ≡ bit_at bits club
bit-kept bits club below =
    bit_at_and bits (2 ^ 32 - 1) club ∙ ap (min (bit_at bits club)) (bit_at_ones 32 club below)
    ∙ least (bit_at bits club) (bit_at-lt bits club)
  where
    least : (bit : ℕ) → bit < 2 → min bit 1 ≡ bit
    least bit low = omega arith
