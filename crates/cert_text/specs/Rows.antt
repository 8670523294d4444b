-- A row: fields of bytes, written as one CSV record. What a record's text is, and how a text reads
-- as records, are csv's own definitions.
use Rattle.std.specs.Prelude.{◌≡◌, ℕ, List, [], Some}
use Rattle.csv.specs.Machine.{next_record}
use Rattle.csv.specs.Reading.{default_config}
use Rattle.csv.specs.Writing.{default_writer, row_text}
use Rattle.csv.specs.declared.parser.State.TheVariants as st

-- the text of a row: what csv writes by its defaults, with the line feed that ends it
abbrev pub text_of_row : List (List ℕ) → List ℕ
text_of_row fields = row_text default_writer fields

-- read by csv's defaults, the text is one record of these fields, and nothing is left
abbrev pub ReadsBack : List ℕ → List (List ℕ) → Type 0
ReadsBack text fields =
    next_record default_config st.StartRecord [] [] text ≡ Some (fields, st.StartRecord, [])
