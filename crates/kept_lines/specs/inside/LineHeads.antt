-- What a line is among the bytes of many: a head, which says its number and its length, and then
-- its text. A head is one byte if the line is short and its number little more than that of the
-- line before it; else it is the byte 255, the number in four bytes and the length in four more.
use Rattle.std.specs.Prelude.{◌≡◌, ℕ, ◌+◌, ◌-◌, ◌/◌, ◌%◌, ◌^◌, List, [], ◌∷◌, ◌++◌, length}
use Rattle.std.specs.Prelude.{nat_lt, slice_index, if◌then◌else◌}
use Rattle.std.specs.Int.{w32, from_le_bytes}
use Rattle.kept_lines.specs.declared.line_head.LineHead.{LineHead}
use Rattle.kept_lines.specs.declared.line_head.LinePlace.{LinePlace}

-- how much a byte alone says that the number goes up: by one, or from 128 on by two to nine
abbrev pub step_said : ℕ → ℕ
step_said byte = if nat_lt byte 128 then 1 else 2 + (byte - 128) / 16

-- how long the line is by a byte alone
abbrev pub length_said : ℕ → ℕ
length_said byte = if nat_lt byte 128 then byte else (byte - 128) % 16

-- the number that four bytes say, the lowest first
abbrev pub long_number : List ℕ → ℕ → ℕ
long_number bytes at = from_le_bytes w32 (slice_index bytes at ∷ slice_index bytes (at + 1)
    ∷ slice_index bytes (at + 2) ∷ slice_index bytes (at + 3) ∷ [])

-- what a byte alone says of the line at a place
abbrev pub near_head : ℕ → LinePlace → LineHead
near_head byte place = record {
  number = (place.number + step_said byte) % 2 ^ 32;
  text = place.start + 1;
  end = place.start + 1 + length_said byte;
}

-- what nine bytes say of it
abbrev pub far_head : List ℕ → LinePlace → LineHead
far_head bytes place = record {
  number = long_number bytes (place.start + 1);
  text = place.start + 9;
  end = place.start + 9 + long_number bytes (place.start + 5);
}

-- what the head of the line at a place says
abbrev pub head_at : List ℕ → LinePlace → LineHead
head_at bytes place =
    if nat_lt (slice_index bytes place.start) 255
    then near_head (slice_index bytes place.start) place
    else far_head bytes place

-- a head was put behind the bytes, which says this of the line at their end
abbrev pub WritesHead : List ℕ → List ℕ → ℕ → ℕ → ℕ → Type 0
WritesHead old new last number long =
    (head : List ℕ) × (new ≡ old ++ head)
    × (head_at new (record { start = length old; number = last })
    ≡ record { number = number; text = length new; end = length new + long })
