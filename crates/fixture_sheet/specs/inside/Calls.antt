-- What the calls answer.
use Rattle.std.specs.Prelude.{◌≡◌, ℕ, ◌==◌, ◌<◌, ◌≤◌, Bool, List, ◌++◌, Option, None, Some, IfSome}
use Rattle.std.specs.Prelude.{option_map, Result, Ok, Err, if◌then◌else◌}
use Rattle.port_core.specs.declared.line.Line.{Line}
use Rattle.port_core.specs.declared.line.Line.TheVariants.{Text, End}
use Rattle.port_core.specs.declared.line.ReadStop.{ReadStop}
use Rattle.port_core.specs.declared.line.ReadStop.TheVariants.{ReadFault, LineTooLong}
use Rattle.port_core.specs.declared.line.ReadStop.TheVariants.{InputTooLong}
use Rattle.port_core.specs.Contents.{Contents, Position, input_limit, number_at, with_lines}
use Rattle.port_core.specs.Readers.{LineReaderView}
use Rattle.port_core.specs.inside.ReaderCalls.{PassesTo, given_by}
use Rattle.port_core.specs.Ports.{Rose}
use Rattle.fixture_sheet.specs.declared.fault.RecordStop.{RecordStop}
use Rattle.fixture_sheet.specs.declared.fault.RecordStop.TheVariants as record_stop
use Rattle.fixture_sheet.specs.declared.fault.ReadingStop.{ReadingStop}
use Rattle.fixture_sheet.specs.declared.fault.ReadingStop.TheVariants.{Fault, Read, OutOfMemory}
use Rattle.fixture_sheet.specs.declared.progress.Progress.{Progress}
use Rattle.fixture_sheet.specs.declared.progress.Progress.TheVariants.{SoFar, Whole}
use Rattle.fixture_sheet.specs.Readings.{SheetRules, reading_of}

-- the answer is what was wanted, or memory ran out
abbrev pub Answers : {A F : Type 0} → Result A F → Result A (RecordStop F) → Type 0
Answers wanted (Ok value) = wanted ≡ Ok value
Answers wanted (Err (record_stop.Fault fault)) = wanted ≡ Err fault
Answers wanted (Err record_stop.OutOfMemory) = Unit {0}

-- a record's answer, as that of the reading
abbrev pub as_progress : {D W E : Type 0} → Result D E → Result (Progress D W) E
as_progress (Ok draft) = Ok (SoFar (Some draft))
as_progress (Err stop) = Err stop

-- what is made keeps to the limits, so far or as a whole
abbrev pub KeepsLimits : {D W E : Type 0} → (D → Type 0) → (W → Type 0) → Result (Progress D W) E
    → Type 0
KeepsLimits IsSound IsWhole (Ok (SoFar draft)) = IfSome draft IsSound
KeepsLimits IsSound IsWhole (Ok (Whole sheet)) = IsWhole sheet
KeepsLimits IsSound IsWhole (Err stop) = Unit {0}

-- lines were read that led from no sheet to this sheet so far, and none of them was refused
abbrev pub Leads : {D W F : Type 0} → SheetRules D W F → Option Contents → Option Contents
    → Option D → Type 0
Leads rules before after draft =
    (lines : List (ℕ × List ℕ)) × (before ≡ option_map (with_lines lines) after)
    × ((rest : Contents)
    → reading_of rules (with_lines lines rest) None ≡ reading_of rules rest draft)

-- the contents, if they are known, are read as the definition says
abbrev pub ReadsSheetAs : {D W F : Type 0} → SheetRules D W F → Option Contents → Option Contents
    → Result W (ReadingStop F) → Type 0
ReadsSheetAs rules before after result =
    option_map (λ contents. reading_of rules contents None) before
    ≡ option_map (λ rest. record { gives = result; rest = rest }) after

-- some lines were read, if they are known
abbrev pub TakesLines : Option Contents → Option Contents → Type 0
TakesLines before after =
    (lines : List (ℕ × List ℕ)) × (before ≡ option_map (with_lines lines) after)

-- the contents that were to come before the call and are to come after it, by its answer: the
-- sheet, a refusal and a stop for good come as the definition says; before a fault of the source no
-- line was refused; running out of memory may come after any line
abbrev pub ReadsSheet : {D W F : Type 0} → SheetRules D W F → Option Contents → Option Contents
    → Result W (ReadingStop F) → Type 0
ReadsSheet rules before after (Ok sheet) = ReadsSheetAs rules before after (Ok sheet)
ReadsSheet rules before after (Err (Fault number fault)) =
    ReadsSheetAs rules before after (Err (Fault number fault))
ReadsSheet {D} rules before after (Err (Read ReadFault)) =
    (draft : Option D) × Leads rules before after draft
ReadsSheet rules before after (Err (Read (LineTooLong number))) =
    ReadsSheetAs rules before after (Err (Read (LineTooLong number)))
ReadsSheet rules before after (Err (Read (InputTooLong number))) =
    ReadsSheetAs rules before after (Err (Read (InputTooLong number)))
ReadsSheet rules before after (Err OutOfMemory) = TakesLines before after

-- ---- the lines passed, and where the reader is left

-- whole lines of the input were passed, and they give these contents and no others
abbrev pub PassesLines :
    LineReaderView → LineReaderView → Option (List ℕ) → Option (List ℕ) → Bool → Bool → Type 0
PassesLines old new left left' ended ended' =
    (given : List (ℕ × List ℕ)) × PassesTo old new left left' ended ended' given

-- the same, and what this answer of the reader gives is the last of these contents
abbrev pub PassesUpTo :
    LineReaderView → LineReaderView → Option (List ℕ) → Option (List ℕ) → Bool → Bool
    → Result Line ReadStop
    → Type 0
PassesUpTo old new left left' ended ended' answer =
    (front : List (ℕ × List ℕ))
    × PassesTo old new left left' ended ended' (front ++ given_by answer new.text)

-- what a refusal of this number refuses, if the reader stands at this position after it: the line
-- of the number, which is passed, or the input's end
abbrev pub refused_before : Position → ℕ → Line
refused_before position number = if number == number_at position then End number else Text number

-- the reader's answer that a call's answer came of: the line passed last, the input's end, or a
-- stop
abbrev pub sheet_answer_after : {A F : Type 0} → LineReaderView → Result A (ReadingStop F)
    → Result Line ReadStop
sheet_answer_after new (Ok value) = Ok (Text new.position.lines)
sheet_answer_after new (Err (Fault number fault)) = Ok (refused_before new.position number)
sheet_answer_after new (Err (Read stop)) = Err stop
sheet_answer_after new (Err OutOfMemory) = Ok (Text new.position.lines)

-- a fault of the source is returned only if its count rose, and else that count stays
abbrev pub CountsSheet : {A F : Type 0} → ℕ → ℕ → Result A (ReadingStop F) → Type 0
CountsSheet before now (Err (Read ReadFault)) = Rose before now
CountsSheet before now result = now ≡ before

-- ---- one step of a reading

-- it goes on from a sheet so far, or it is over
abbrev pub StepReads : {D W F : Type 0} → SheetRules D W F → Option Contents → Option Contents
    → Result (Progress D W) (ReadingStop F) → Type 0
StepReads rules start after (Ok (SoFar draft)) = Leads rules start after draft
StepReads rules start after (Ok (Whole sheet)) = ReadsSheet rules start after (Ok sheet)
StepReads rules start after (Err stop) = ReadsSheet rules start after (Err stop)

-- if it goes on, bytes were passed, and none of them past the input's limit
abbrev pub StepMoves : {D W E : Type 0} → LineReaderView → LineReaderView
    → Result (Progress D W) E → Type 0
StepMoves old new (Ok (SoFar draft)) =
    (old.position.bytes < new.position.bytes) × (new.position.bytes ≤ input_limit)
StepMoves old new (Ok (Whole sheet)) = Unit {0}
StepMoves old new (Err stop) = Unit {0}
