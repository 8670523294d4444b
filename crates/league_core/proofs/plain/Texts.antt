-- General facts on texts as lists of bytes, and on decimal numbers in them.
use Rattle.std.proofs.Common.{List, [], ap, append_assoc, arith, bytes_eq, decimal, length, refl}
use Rattle.std.proofs.Common.{rules, sym, true, ℕ, ◌%◌, ◌*◌, ◌++◌, ◌+◌, ◌-◌, ◌/◌, ◌<◌, ◌∙◌, ◌∷◌}
use Rattle.std.proofs.Common.{◌≡◌, ◌≤◌}
use Rattle.std.specs.Char.{digit_value, is_ascii_digit}
use Rattle.std.specs.List.{list_all}
use Rattle.std.specs.Str.Parse.{AllDigits, digits_value}
use Rattle.std.proofs.lemmas.Bool.{and_parts}
use Rattle.std.proofs.lemmas.Bool.Decides.{nat_tests, same_from_decides}
use Rattle.std.proofs.lemmas.Fmt.{decimal_digit, decimal_step, length-decimal-le}
use Rattle.std.proofs.lemmas.Slice.Eq.{bytes_eq-Decides}
use Rattle.std.proofs.lemmas.Str.Parse.{IsNumeralModel, numerals_by_value}

pub decimal-size : (n : ℕ) → n < 10000 → length (decimal n) ≤ 4
decimal-size n small =
    length-decimal-le 4 n (omega arith) (omega (arith, small)) (omega (arith, small))

-- one digit
pub digits_one : (n byte : ℕ) (text rest : List ℕ) → n < 10 → byte ≡ 48 + n
    → text ≡ byte ∷ rest → text ≡ decimal n ++ rest
digits_one n byte text rest small shown is =
    is ∙ ap (λ b. b ∷ rest) shown ∙ ap (λ ds. ds ++ rest) (sym (decimal_digit n small))

-- one digit more
pub digits_more : (n next byte : ℕ) (text rest : List ℕ) → 0 < n → n < 1000 → next < 10
    → byte ≡ 48 + next → text ≡ byte ∷ rest
    → decimal n ++ text ≡ decimal (10 * n + next) ++ rest
digits_more n next byte text rest some few small shown is =
    let whole : (10 * n + next) / 10 ≡ n = omega arith in
    let last : (10 * n + next) % 10 ≡ next = omega arith in
    ap (λ t. decimal n ++ t) (is ∙ ap (λ b. b ∷ rest) shown)
    ∙ sym (ap (λ ds. ds ++ rest)
    (decimal_step (10 * n + next) (omega arith) (omega arith)
    ∙ ap (λ k. decimal k ++ (48 + (10 * n + next) % 10) ∷ []) whole
    ∙ ap (λ d. decimal n ++ (48 + d) ∷ []) last)
    ∙ append_assoc (decimal n) ((48 + next) ∷ []) rest)

-- texts of which the test says so are the same
pub bytes_eq-true : (text other : List ℕ) → bytes_eq text other ≡ true → text ≡ other
bytes_eq-true text other same = (bytes_eq-Decides text other).0 same

-- a text is the same as itself
pub bytes_eq-itself : (text : List ℕ) → bytes_eq text text ≡ true
bytes_eq-itself text = (bytes_eq-Decides text text).1 refl

-- two texts are the same whichever is asked first
pub bytes_eq-swap : (first second : List ℕ) → bytes_eq first second ≡ bytes_eq second first
bytes_eq-swap first second =
    let other = bytes_eq-Decides second first in
    same_from_decides (bytes_eq first second) (bytes_eq second first)
    (bytes_eq-Decides first second)
    ((λ is. sym (other.0 is)), (λ same. other.1 (sym same)))

-- a digit's value is below ten
pub digit_value-lt : (byte : ℕ) → is_ascii_digit byte ≡ true → digit_value byte < 10
digit_value-lt byte digit = grind (arith, nat_tests)

-- a digit writes how far it comes after `0`
pub digit_value-from : (byte : ℕ) → is_ascii_digit byte ≡ true → digit_value byte ≡ byte - 48
digit_value-from byte digit = grind (arith, nat_tests)

-- digits are digits
pub AllDigits-from : (text : List ℕ) → list_all is_ascii_digit text ≡ true → AllDigits 10 text
AllDigits-from [] all = tt
AllDigits-from (byte ∷ text) all =
    let parts = and_parts (is_ascii_digit byte) (list_all is_ascii_digit text) all in
    (digit_value-lt byte parts.0, AllDigits-from text parts.1)

-- digits are numerals, by their value
pub numerals : IsNumeralModel (λ ds. list_all is_ascii_digit ds ≡ true) (digits_value 10)
numerals = numerals_by_value _ (search rules)
