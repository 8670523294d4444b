-- A sheet of whatever kind, as its records make it: what a line makes of the sheet so far, and the
-- sheet that an input's contents are, or what comes in its place: the first refusal of the first
-- line that is refused, with its number, or the stop of the input.
use Rattle.std.specs.Prelude.{ℕ, List, [], ◌∷◌, Option, None, Some, Result, Ok, Err}
use Rattle.std.specs.Prelude.{if◌then◌else◌}
use Rattle.port_core.specs.declared.line.ReadStop.{ReadStop}
use Rattle.port_core.specs.Contents.{Contents, ended}
use Rattle.fixture_sheet.specs.declared.fault.ReadingStop.{ReadingStop}
use Rattle.fixture_sheet.specs.declared.fault.ReadingStop.TheVariants.{Fault, Read}
use Rattle.fixture_sheet.specs.declared.progress.Progress.{Progress}
use Rattle.fixture_sheet.specs.declared.progress.Progress.TheVariants.{SoFar, Whole}
use Rattle.fixture_sheet.specs.Fields.{has_return, record_of}

-- a value, and what is made of it; a refusal stays
abbrev pub and_then : {A B F : Type 0} → (A → Result B F) → Result A F → Result B F
and_then next (Ok value) = next value
and_then next (Err fault) = Err fault

-- the reading goes on with this sheet
abbrev pub so_far : {D W F : Type 0} → D → Result (Progress D W) F
so_far draft = Ok (SoFar (Some draft))

-- the reading ends with this sheet
abbrev pub whole : {D W F : Type 0} → W → Result (Progress D W) F
whole sheet = Ok (Whole sheet)

-- ---- a line

-- a kind of sheet, by its sheets so far D, whole sheets W and refusals F: what the first record
-- begins, what a later one makes of the sheet so far, and why a line that is no record, and an
-- input that ends here, are refused
pub record SheetRules (D W F : Type 0) : Type 0 where
  pub first : List (List ℕ) → Result D F
  pub later : D → List (List ℕ) → Result (Progress D W) F
  pub no_record : Option D → F
  pub at_end : Option D → F

-- a record; the first one begins the sheet
abbrev pub record_taken : {D W F : Type 0} → SheetRules D W F → Option D → List (List ℕ)
    → Result (Progress D W) F
record_taken rules None fields = and_then so_far (rules.first fields)
record_taken rules (Some draft) fields = rules.later draft fields

-- a record, if a line has one: a line of empty fields changes nothing
abbrev pub record_taken_if : {D W F : Type 0} → SheetRules D W F → Option D
    → Option (List (List ℕ)) → Result (Progress D W) F
record_taken_if rules draft None = Ok (SoFar draft)
record_taken_if rules draft (Some fields) = record_taken rules draft fields

-- the content of a line: a CR in it makes it no record
abbrev pub content_taken_by : {D W F : Type 0} → SheetRules D W F → Option D → List ℕ
    → Result (Progress D W) F
content_taken_by rules draft content =
    if has_return content then Err (rules.no_record draft)
    else record_taken_if rules draft (record_of content)

-- ---- the contents

-- a reading of a sheet: what it gives, and the contents after what it read
pub record ReadingOf (W F : Type 0) : Type 0 where
  pub gives : Result W (ReadingStop F)
  pub rest : Contents

-- the input ends, or stops, before the sheet is whole
abbrev pub given_at_end : {D W F : Type 0} → SheetRules D W F → Option D → Result ℕ ReadStop
    → Result W (ReadingStop F)
given_at_end rules draft (Ok number) = Err (Fault number (rules.at_end draft))
given_at_end rules draft (Err stop) = Err (Read stop)

-- what a line's content leads to, by what it makes of the sheet so far: the sheet, the refusal of
-- the line of this number, or what comes of the lines after it
abbrev pub reading_by : {D W F : Type 0} → ℕ → Contents → (Option D → ReadingOf W F)
    → Result (Progress D W) F → ReadingOf W F
reading_by number rest onward (Ok (SoFar draft)) = onward draft
reading_by number rest onward (Ok (Whole sheet)) = record { gives = Ok sheet; rest = rest }
reading_by number rest onward (Err fault) =
    record { gives = Err (Fault number fault); rest = rest }

-- the reading of these lines and this ending, from a sheet so far on
abbrev pub reading_from : {D W F : Type 0} → SheetRules D W F → List (ℕ × List ℕ)
    → Result ℕ ReadStop → Option D → ReadingOf W F
reading_from rules
    [] ending draft = record { gives = given_at_end rules draft ending; rest = ended ending }
reading_from rules (line ∷ lines) ending draft =
    reading_by line.0 (record { lines = lines; ending = ending })
    (reading_from rules lines ending)
    (content_taken_by rules draft line.1)

-- the same of contents
abbrev pub reading_of : {D W F : Type 0} → SheetRules D W F → Contents → Option D
    → ReadingOf W F
reading_of rules contents draft = reading_from rules contents.lines contents.ending draft
