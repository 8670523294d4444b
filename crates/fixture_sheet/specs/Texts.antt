-- Numbers and names, as fields write them.
use Rattle.std.specs.Prelude.{ℕ, Bool, ◌&&◌, nat_le, List, length, Option, Some, None}
use Rattle.std.specs.Prelude.{if◌then◌else◌, option_and_then}
use Rattle.std.specs.List.{list_all}
use Rattle.std.specs.Char.{is_ascii_digit}
use Rattle.std.specs.Str.{is_utf8}
use Rattle.std.specs.Str.Parse.{digits_value}
use Rattle.league_core.specs.game.Sheets.{is_name}

-- the value, if the test says so
abbrev pub only_if : {A : Type 0} → Bool → A → Option A
only_if test value = if test then Some value else None

-- a number has 1 to 6 ASCII digits, and may begin with zeros
abbrev pub is_number : List ℕ → Bool
is_number text = nat_le 1 (length text) && nat_le (length text) 6 && list_all is_ascii_digit text

-- the number that a text writes, if it writes one
abbrev pub number_written : List ℕ → Option ℕ
number_written text = only_if (is_number text) (digits_value 10 text)

-- a number that is not out of range
abbrev pub if_within : ℕ → ℕ → ℕ → Option ℕ
if_within least most number = only_if (nat_le least number && nat_le number most) number

-- the number that a text writes, if it writes one in the range
abbrev pub number_within : ℕ → ℕ → List ℕ → Option ℕ
number_within least most text = option_and_then (if_within least most) (number_written text)

-- the text that bytes are, if they are UTF-8
abbrev pub text_of : List ℕ → Option (List ℕ)
text_of bytes = only_if (is_utf8 bytes) bytes

-- the name that bytes are, if they are one: as many and such as a name has to have, and UTF-8
abbrev pub name_of : List ℕ → Option (List ℕ)
name_of bytes = if is_name bytes then text_of bytes else None
