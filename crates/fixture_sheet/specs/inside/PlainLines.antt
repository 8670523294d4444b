-- Texts that csv reads by their commas alone.
use Rattle.std.specs.Prelude.{ℕ, Bool, ◌==◌, ◌||◌, List, [], ◌∷◌, ◌++◌, if◌then◌else◌}
use Rattle.std.specs.List.{list_any}

-- a byte that means more to csv than itself, a comma apart: a quote, CR, LF, and the first byte of
-- the byte order mark
abbrev pub is_sign : ℕ → Bool
is_sign byte = (byte == 34) || ((byte == 13) || ((byte == 10) || (byte == 0xEF)))

-- such a byte stands in the text
abbrev pub has_sign : List ℕ → Bool
has_sign text = list_any is_sign text

-- these bytes stand before the first field
abbrev pub with_prefix : List ℕ → List (List ℕ) → List (List ℕ)
with_prefix front [] = front ∷ []
with_prefix front (field ∷ fields) = (front ++ field) ∷ fields

-- what stands between the commas of the text
abbrev pub between_commas : List ℕ → List (List ℕ)
between_commas [] = [] ∷ []
between_commas (byte ∷ bytes) =
    if byte == 44 then [] ∷ between_commas bytes
    else with_prefix (byte ∷ []) (between_commas bytes)

-- one more byte before them: it does not stay if it is a comma and nothing after it stays
abbrev pub with_byte : ℕ → List ℕ → List ℕ
with_byte byte [] = if byte == 44 then [] else byte ∷ []
with_byte byte (next ∷ bytes) = byte ∷ next ∷ bytes

-- the text without the commas at its end
abbrev pub without_commas : List ℕ → List ℕ
without_commas [] = []
without_commas (byte ∷ bytes) = with_byte byte (without_commas bytes)
