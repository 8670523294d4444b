-- Lemmas on numbers.
use Rattle.std.proofs.Common.{◌≡◌, ℕ, ◌-◌, ◌^◌, ◌<◌, ◌≤◌, true, ◌&&◌, nat_le, List, length, take}
use Rattle.std.proofs.Common.{get_or, arith, lit<}
use Rattle.std.specs.List.{list_all}
use Rattle.std.specs.Char.{is_ascii_digit, digit_value}
use Rattle.std.specs.Str.Parse.{digits_value}
use Rattle.std.proofs.lemmas.Bool.{and_parts, leb-true}
use Rattle.std.proofs.lemmas.List.{length-take-le}
use Rattle.std.proofs.lemmas.Int.Digits.{digits_value-lt}
use Rattle.std.proofs.Math.Nat.{pow-le-pow_right}
use Rattle.fixture_sheet.specs.Texts.{is_number}
use Rattle.league_core.proofs.plain.Lists.{list_all-at}
use Rattle.league_core.proofs.plain.Texts.{AllDigits-from, digit_value-from}
use Rattle.league_core.proofs.plain.Parts.{list_all-take}

-- each byte of a number does
pub digit_value-at : (text : List ℕ) (i : ℕ) → is_number text ≡ true → i < length text
    → digit_value (get_or text i 0) ≡ get_or text i 0 - 48
digit_value-at text i number inside =
    let parts = and_parts (nat_le 1 (length text) && nat_le (length text) 6)
    (list_all is_ascii_digit text) number in
    digit_value-from (get_or text i 0) (list_all-at is_ascii_digit text i 0 inside parts.1)

-- the first digits of a number, but for the last, are less than 100,000
pub digits_value-take-lt : (text : List ℕ) (i : ℕ) → is_number text ≡ true → i < length text
    → digits_value 10 (take i text) < 100000
digits_value-take-lt text i number inside =
    let parts = and_parts (nat_le 1 (length text) && nat_le (length text) 6)
    (list_all is_ascii_digit text) number in
    let room = leb-true (length text) 6
    (and_parts (nat_le 1 (length text)) (nat_le (length text) 6) parts.0).1 in
    let digits = AllDigits-from (take i text) (list_all-take is_ascii_digit i text parts.1) in
    let less = digits_value-lt 10 (take i text) digits in
    let few : length (take i text) ≡ i = length-take-le i text (omega arith) in
    let most : 10 ^ length (take i text) ≤ 10 ^ 5 =
    pow-le-pow_right {n = 10} (lit< tt) {i = length (take i text)} {j = 5}
    (omega (arith, few, room)) in
    omega (arith, less, most)
