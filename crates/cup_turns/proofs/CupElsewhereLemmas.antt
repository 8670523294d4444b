-- The reading of a cup's sheet: it is the same whatever follows the lines that it took.
use Rattle.std.proofs.Common.{◌≡◌, ℕ, suc, ◌<◌, List, [], ◌∷◌, ◌++◌, length, Option, Some, None}
use Rattle.std.proofs.Common.{Result, Ok, Err, ap, ap₂, sym, ◌∙◌, arith}
use Rattle.std.specs.Prelude.{option_map}
use Rattle.cup_sheet.specs.declared.cup.Cup.{Cup}
use Rattle.cup_sheet.specs.declared.cup.CupDraft.{CupDraft}
use Rattle.port_core.specs.declared.line.ReadStop.{ReadStop}
use Rattle.port_core.specs.Contents.{Contents, with_lines}
use Rattle.cup_sheet.specs.declared.fault.CupFault.{CupFault}
use Rattle.fixture_sheet.specs.declared.progress.Progress.TheVariants.{SoFar, Whole}
use Rattle.fixture_sheet.specs.Readings.{reading_by}
use Rattle.cup_sheet.specs.CupRecords.{CupProgress, cup_content_taken}
use Rattle.cup_sheet.specs.CupReadings.{CupReading, CupStop, cup_reading_from, cup_reading_of}
use Rattle.league_core.proofs.plain.Parts.{none-left}
use Rattle.run_ends.proofs.StandLemmas.{known}

-- a cup was read, and these contents come after it
abbrev pub cup_read_up_to : Cup → Contents → CupReading
cup_read_up_to cup rest = record { gives = Ok cup; rest = rest }

-- ---- a whole cup takes a line

-- from a line on
cup-by_shorter : (number : ℕ) (lines : List (ℕ × List ℕ)) (ending : Result ℕ ReadStop)
    (onward : Option CupDraft → CupReading) (cup : Cup) (rest : Contents)
    → ((draft : Option CupDraft) → onward draft ≡ cup_read_up_to cup rest
    → length rest.lines < length lines)
    → (found : Result CupProgress CupFault)
    → reading_by number (record { lines = lines; ending = ending }) onward found
    ≡ cup_read_up_to cup rest
    → length rest.lines < suc (length lines)
cup-by_shorter number lines ending onward cup rest behind (Ok (SoFar draft)) is =
    omega (arith, behind draft is)
cup-by_shorter number lines ending onward cup rest behind (Ok (Whole whole)) is =
    let same = ap (λ (r : CupReading). length r.rest.lines) is in omega (arith, same)
cup-by_shorter number lines ending onward cup rest behind (Err fault) is =
    let wrong = ap (λ (r : CupReading). r.gives) is in cc

-- from these lines on
cup-shorter : (lines : List (ℕ × List ℕ)) (ending : Result ℕ ReadStop) (draft : Option CupDraft)
    (cup : Cup) (rest : Contents)
    → cup_reading_from lines ending draft ≡ cup_read_up_to cup rest
    → length rest.lines < length lines
cup-shorter [] (Ok number) draft cup rest is =
    let wrong = ap (λ (r : CupReading). r.gives) is in cc
cup-shorter [] (Err stop) draft cup rest is =
    let wrong = ap (λ (r : CupReading). r.gives) is in cc
cup-shorter (line ∷ lines) ending draft cup rest is =
    cup-by_shorter line.0 lines ending (cup_reading_from lines ending) cup rest
    (λ next. cup-shorter lines ending next cup rest) (cup_content_taken draft line.1) is

-- ---- the same reading before other contents

-- from a line on
by_elsewhere : (number : ℕ) (given : List (ℕ × List ℕ)) (there rest : Contents) (cup : Cup)
    (onward onward' : Option CupDraft → CupReading)
    → ((draft : Option CupDraft) → onward draft ≡ cup_read_up_to cup there
    → onward' draft ≡ cup_read_up_to cup rest)
    → (found : Result CupProgress CupFault)
    → reading_by number (with_lines given there) onward found ≡ cup_read_up_to cup there
    → reading_by number (with_lines given rest) onward' found ≡ cup_read_up_to cup rest
by_elsewhere number given there rest cup onward onward' behind (Ok (SoFar draft)) is =
    behind draft is
by_elsewhere number given there rest cup onward onward' behind (Ok (Whole whole)) is =
    let none = none-left given there.lines (ap (λ (r : CupReading). r.rest.lines) is) in
    let gives = ap (λ (r : CupReading). r.gives) is in
    ap₂ (λ (g : Result Cup CupStop) (taken : List (ℕ × List ℕ)).
    record { gives = g; rest = with_lines taken rest }) gives none
by_elsewhere number given there rest cup onward onward' behind (Err fault) is =
    let wrong = ap (λ (r : CupReading). r.gives) is in cc

-- from these lines on
elsewhere_from : (given : List (ℕ × List ℕ)) (draft : Option CupDraft) (there rest : Contents)
    (cup : Cup)
    → cup_reading_of (with_lines given there) draft ≡ cup_read_up_to cup there
    → cup_reading_of (with_lines given rest) draft ≡ cup_read_up_to cup rest
elsewhere_from [] draft there rest cup is =
    absurd (omega (arith, cup-shorter there.lines there.ending draft cup there is))
elsewhere_from (line ∷ given) draft there rest cup is =
    by_elsewhere line.0 given there rest cup
    (cup_reading_from (given ++ there.lines) there.ending)
    (cup_reading_from (given ++ rest.lines) rest.ending)
    (λ next. elsewhere_from given next there rest cup)
    (cup_content_taken draft line.1) is

-- a cup that was read after these lines is read after them whatever follows
pub cup-elsewhere : (given : List (ℕ × List ℕ)) (before there : Contents) (cup : Cup)
    → before ≡ with_lines given there
    → option_map (λ contents. cup_reading_of contents None) (Some before)
    ≡ option_map (λ rest. record { gives = Ok cup; rest = rest }) (Some there)
    → (rest : Contents) → cup_reading_of (with_lines given rest) None ≡ cup_read_up_to cup rest
cup-elsewhere given before there cup is reads rest =
    let read : cup_reading_of before None ≡ cup_read_up_to cup there =
    ap (known (cup_reading_of before None)) reads in
    elsewhere_from given None there rest cup
    (ap (λ contents. cup_reading_of contents None) (sym is) ∙ read)

-- the reading that was made of told contents
pub cup-reading : (before there : Contents) (gives : Result Cup CupStop)
    → option_map (λ contents. cup_reading_of contents None) (Some before)
    ≡ option_map (λ rest. record { gives = gives; rest = rest }) (Some there)
    → cup_reading_of before None ≡ record { gives = gives; rest = there }
cup-reading before there gives reads = ap (known (cup_reading_of before None)) reads
