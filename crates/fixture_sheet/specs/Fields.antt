-- The record that a line is. Which fields a text has is csv's own rule for a text read alone:
-- commas, double quotes, no trimming, and a byte order mark at its start counts for nothing. That
-- empty fields at the end do not count is the project's rule, since spreadsheets pad their rows.
use Rattle.std.specs.Prelude.{ℕ, Bool, true, false, ◌==◌, List, [], ◌∷◌, get_or, Option, Some, None}
use Rattle.std.specs.Prelude.{option_map, option_and_then, if◌then◌else◌}
use Rattle.std.specs.List.{list_any}
use Rattle.csv.specs.Machine.{Read, next_record}
use Rattle.csv.specs.Reading.{default_config, strip_bom}
use Rattle.csv.specs.declared.parser.State.TheVariants as state

-- a CR stands in the text
abbrev pub has_return : List ℕ → Bool
has_return text = list_any (λ byte. byte == 13) text

-- the first record that csv reads in a text, if it reads one, and what it leaves of the text
abbrev pub csv_read : List ℕ → Option Read
csv_read text = next_record default_config state.StartRecord [] [] (strip_bom text)

-- the fields of that record
abbrev pub csv_record : List ℕ → Option (List (List ℕ))
csv_record text = option_map (λ read. read.0) (csv_read text)

-- nothing stands in the field
abbrev pub is_blank : List ℕ → Bool
is_blank [] = true
is_blank (byte ∷ bytes) = false

-- one more field before them: it does not count if it is blank and no field after it counts
abbrev pub with_field : List ℕ → List (List ℕ) → List (List ℕ)
with_field field [] = if is_blank field then [] else field ∷ []
with_field field (next ∷ fields) = field ∷ next ∷ fields

-- the fields without the empty ones at their end
abbrev pub without_padding : List (List ℕ) → List (List ℕ)
without_padding [] = []
without_padding (field ∷ fields) = with_field field (without_padding fields)

-- the fields, if there are any
abbrev pub unless_empty : List (List ℕ) → Option (List (List ℕ))
unless_empty [] = None
unless_empty (field ∷ fields) = Some (field ∷ fields)

-- the record that a text is, if a field is left of it
abbrev pub record_of : List ℕ → Option (List (List ℕ))
record_of text = option_and_then (λ fields. unless_empty (without_padding fields)) (csv_record text)

-- the field at a place, from 0; empty if the record has none there
abbrev pub field : ℕ → List (List ℕ) → List ℕ
field place fields = get_or fields place []
