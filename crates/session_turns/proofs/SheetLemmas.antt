-- The reading of a sheet: it is the same whatever follows the lines that it took.
use Rattle.std.proofs.Common.{◌≡◌, ℕ, suc, ◌<◌, List, [], ◌∷◌, ◌++◌, length, Option, Some, None}
use Rattle.std.proofs.Common.{Result, Ok, Err, ap, ap₂, sym, ◌∙◌, arith}
use Rattle.std.specs.Prelude.{option_map}
use Rattle.std.proofs.lemmas.List.{append_cancel_right}
use Rattle.league_core.specs.declared.sheet.Sheet.{Sheet}
use Rattle.port_core.specs.declared.line.ReadStop.{ReadStop}
use Rattle.port_core.specs.Contents.{Contents, with_lines}
use Rattle.fixture_sheet.specs.declared.fault.SheetFault.{SheetFault}
use Rattle.fixture_sheet.specs.Sheets.{SheetStop}
use Rattle.fixture_sheet.specs.Records.{SheetProgress}
use Rattle.fixture_sheet.specs.declared.progress.Progress.TheVariants.{SoFar, Whole}
use Rattle.fixture_sheet.specs.Records.{content_taken}
use Rattle.fixture_sheet.specs.Readings.{reading_by}
use Rattle.fixture_sheet.specs.Sheets.{SheetReading, sheet_reading_from, sheet_reading_of}
use Rattle.league_core.proofs.plain.Parts.{none-left}
use Rattle.run_ends.proofs.StandLemmas.{known}

-- a sheet was read, and these contents come after it
abbrev pub read_up_to : Sheet → Contents → SheetReading
read_up_to sheet rest = record { gives = Ok sheet; rest = rest }

-- ---- a whole sheet takes a line

-- from a line on
by-shorter : (number : ℕ) (lines : List (ℕ × List ℕ)) (ending : Result ℕ ReadStop)
    (onward : Option Sheet → SheetReading) (sheet : Sheet) (rest : Contents)
    → ((draft : Option Sheet) → onward draft ≡ read_up_to sheet rest
    → length rest.lines < length lines)
    → (found : Result SheetProgress SheetFault)
    → reading_by number (record { lines = lines; ending = ending }) onward found
    ≡ read_up_to sheet rest
    → length rest.lines < suc (length lines)
by-shorter number lines ending onward sheet rest behind (Ok (SoFar draft)) is =
    omega (arith, behind draft is)
by-shorter number lines ending onward sheet rest behind (Ok (Whole whole)) is =
    let same = ap (λ (r : SheetReading). length r.rest.lines) is in omega (arith, same)
by-shorter number lines ending onward sheet rest behind (Err fault) is =
    let wrong = ap (λ (r : SheetReading). r.gives) is in cc

-- from these lines on
shorter : (lines : List (ℕ × List ℕ)) (ending : Result ℕ ReadStop) (draft : Option Sheet)
    (sheet : Sheet) (rest : Contents)
    → sheet_reading_from lines ending draft ≡ read_up_to sheet rest
    → length rest.lines < length lines
shorter [] (Ok number) draft sheet rest is =
    let wrong = ap (λ (r : SheetReading). r.gives) is in cc
shorter [] (Err stop) draft sheet rest is =
    let wrong = ap (λ (r : SheetReading). r.gives) is in cc
shorter (line ∷ lines) ending draft sheet rest is =
    by-shorter line.0 lines ending (sheet_reading_from lines ending) sheet rest
    (λ next. shorter lines ending next sheet rest) (content_taken draft line.1) is

-- ---- the same reading before other contents

-- from a line on
by-elsewhere : (number : ℕ) (given : List (ℕ × List ℕ)) (there rest : Contents) (sheet : Sheet)
    (onward onward' : Option Sheet → SheetReading)
    → ((draft : Option Sheet) → onward draft ≡ read_up_to sheet there
    → onward' draft ≡ read_up_to sheet rest)
    → (found : Result SheetProgress SheetFault)
    → reading_by number (with_lines given there) onward found ≡ read_up_to sheet there
    → reading_by number (with_lines given rest) onward' found ≡ read_up_to sheet rest
by-elsewhere number given there rest sheet onward onward' behind (Ok (SoFar draft)) is =
    behind draft is
by-elsewhere number given there rest sheet onward onward' behind (Ok (Whole whole)) is =
    let none = none-left given there.lines (ap (λ (r : SheetReading). r.rest.lines) is) in
    let gives = ap (λ (r : SheetReading). r.gives) is in
    ap₂ (λ (g : Result Sheet SheetStop) (taken : List (ℕ × List ℕ)).
    record { gives = g; rest = with_lines taken rest }) gives none
by-elsewhere number given there rest sheet onward onward' behind (Err fault) is =
    let wrong = ap (λ (r : SheetReading). r.gives) is in cc

-- from these lines on
elsewhere-from : (given : List (ℕ × List ℕ)) (draft : Option Sheet) (there rest : Contents)
    (sheet : Sheet)
    → sheet_reading_of (with_lines given there) draft ≡ read_up_to sheet there
    → sheet_reading_of (with_lines given rest) draft ≡ read_up_to sheet rest
elsewhere-from [] draft there rest sheet is =
    absurd (omega (arith, shorter there.lines there.ending draft sheet there is))
elsewhere-from (line ∷ given) draft there rest sheet is =
    by-elsewhere line.0 given there rest sheet
    (sheet_reading_from (given ++ there.lines) there.ending)
    (sheet_reading_from (given ++ rest.lines) rest.ending)
    (λ next. elsewhere-from given next there rest sheet)
    (content_taken draft line.1) is

-- a sheet that was read after these lines is read after them whatever follows
pub sheet-elsewhere : (given : List (ℕ × List ℕ)) (before there : Contents) (sheet : Sheet)
    → before ≡ with_lines given there
    → option_map (λ contents. sheet_reading_of contents None) (Some before)
    ≡ option_map (λ rest. record { gives = Ok sheet; rest = rest }) (Some there)
    → (rest : Contents) → sheet_reading_of (with_lines given rest) None ≡ read_up_to sheet rest
sheet-elsewhere given before there sheet is reads rest =
    let read : sheet_reading_of before None ≡ read_up_to sheet there =
    ap (known (sheet_reading_of before None)) reads in
    elsewhere-from given None there rest sheet
    (ap (λ contents. sheet_reading_of contents None) (sym is) ∙ read)

-- the reading that was made of told contents
pub sheet-reading : (before there : Contents) (gives : Result Sheet SheetStop)
    → option_map (λ contents. sheet_reading_of contents None) (Some before)
    ≡ option_map (λ rest. record { gives = gives; rest = rest }) (Some there)
    → sheet_reading_of before None ≡ record { gives = gives; rest = there }
sheet-reading before there gives reads = ap (known (sheet_reading_of before None)) reads

-- lines before the same contents are the same
pub same-lines : (given other : List (ℕ × List ℕ)) (there : Contents)
    → with_lines given there ≡ with_lines other there → given ≡ other
same-lines given other there is =
    append_cancel_right given other there.lines (ap (λ (c : Contents). c.lines) is)
