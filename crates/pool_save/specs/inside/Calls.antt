-- What the calls promise, by what they return.
use Rattle.std.specs.Prelude.{◌≡◌, ℕ, ◌+◌, ◌<◌, ◌≤◌, Bool, true, false, List, Option}
use Rattle.std.specs.Prelude.{option_map}
use Rattle.std.specs.Prelude.{Result, Ok, Err, length}
use Rattle.league_core.specs.declared.sheet.Sheet.{Sheet}
use Rattle.league_core.specs.declared.question.Question.{Question}
use Rattle.league_core.specs.search.Trees.{Tree}
use Rattle.port_core.specs.declared.line.Line.{Line}
use Rattle.port_core.specs.declared.line.Line.TheVariants.{Text}
use Rattle.port_core.specs.declared.line.ReadStop.{ReadStop}
use Rattle.port_core.specs.declared.line.ReadStop.TheVariants.{ReadFault, LineTooLong, InputTooLong}
use Rattle.port_core.specs.Contents.{Contents, with_lines, input_limit}
use Rattle.port_core.specs.Readers.{LineReaderView}
use Rattle.port_core.specs.inside.ReaderCalls.{LeavesReader, ReadsInNeed}
use Rattle.port_core.specs.Ports.{Rose}
use Rattle.fixture_sheet.specs.LastReads.{ReadsOnWay}
use Rattle.fixture_sheet.specs.inside.Calls.{TakesLines, refused_before}
use Rattle.pool_save.specs.declared.stop.SaveStop.{SaveStop}
use Rattle.pool_save.specs.declared.stop.SaveStop.TheVariants.{BadSave, Read, OutOfMemory}
use Rattle.pool_save.specs.SavedTexts.{AreSavedTrees}
use Rattle.pool_save.specs.SavedReadings.{SaveState, nothing_saved, saved_reading_of}
use Rattle.pool_save.specs.inside.SoFar.{IsSaveState}

-- ---- what is read

-- lines were read that led from nothing to what is read so far, and none of them was refused
abbrev pub LeadsSaved : Sheet → List Question → Option Contents → Option Contents → SaveState
    → Type 0
LeadsSaved sheet asked before after state =
    (lines : List (ℕ × List ℕ)) × (before ≡ option_map (with_lines lines) after)
    × ((rest : Contents) → saved_reading_of sheet asked (with_lines lines rest) nothing_saved
    ≡ saved_reading_of sheet asked rest state)

-- the contents, if they are known, are read as the definition says
abbrev pub ReadsSavedAs : Sheet → List Question → Option Contents → Option Contents
    → Result (List (Option Tree)) SaveStop → Type 0
ReadsSavedAs sheet asked before after given =
    option_map (λ contents. saved_reading_of sheet asked contents nothing_saved) before
    ≡ option_map (λ rest. record { gives = given; rest = rest }) after

-- the contents that were to come before the call and are to come after it, by its answer: the
-- trees, a bad line and a stop for good come as the definition says; before a fault of the source
-- no line was bad; running out of memory may come after any line
abbrev pub ReadsSaved : Sheet → List Question → Option Contents → Option Contents
    → Result (List (Option Tree)) SaveStop → Type 0
ReadsSaved sheet asked before after (Ok trees) = ReadsSavedAs sheet asked before after (Ok trees)
ReadsSaved sheet asked before after (Err (BadSave number)) =
    ReadsSavedAs sheet asked before after (Err (BadSave number))
ReadsSaved sheet asked before after (Err (Read ReadFault)) =
    (state : SaveState) × LeadsSaved sheet asked before after state
ReadsSaved sheet asked before after (Err (Read (LineTooLong number))) =
    ReadsSavedAs sheet asked before after (Err (Read (LineTooLong number)))
ReadsSaved sheet asked before after (Err (Read (InputTooLong number))) =
    ReadsSavedAs sheet asked before after (Err (Read (InputTooLong number)))
ReadsSaved sheet asked before after (Err OutOfMemory) = TakesLines before after

-- what a call gave, as the list of what it returned
abbrev pub given_as : {V : Type 0} → Result V SaveStop → (V → List (Option Tree))
    → Result (List (Option Tree)) SaveStop
given_as (Ok value) listed = Ok (listed value)
given_as (Err stop) listed = Err stop

-- ---- the lines passed, and where the reader is left

-- the reader's answer that a call's answer came of: the line passed last, the input's end, or a
-- stop. Memory may run out before any line: then the answer is one that gives no line
abbrev pub saved_answer_after : {A : Type 0} → LineReaderView → Result A SaveStop
    → Result Line ReadStop
saved_answer_after new (Ok value) = Ok (Text new.position.lines)
saved_answer_after new (Err (BadSave number)) = Ok (refused_before new.position number)
saved_answer_after new (Err (Read stop)) = Err stop
saved_answer_after new (Err OutOfMemory) = Err ReadFault

-- after the line `saved_end` or the bad line; at the input's end; or at a stop
abbrev pub LeavesSaved : {A : Type 0} → LineReaderView → Option (List ℕ) → Result A SaveStop
    → Type 0
LeavesSaved new left (Ok value) = LeavesReader new left (Ok (Text new.position.lines))
LeavesSaved new left (Err (BadSave number)) =
    LeavesReader new left (Ok (refused_before new.position number))
LeavesSaved new left (Err (Read stop)) = LeavesReader new left (Err stop)
LeavesSaved new left (Err OutOfMemory) = Unit {0}

-- a fault of the source is returned only if its count rose, and else that count stays
abbrev pub CountsSaved : {A : Type 0} → ℕ → ℕ → Result A SaveStop → Type 0
CountsSaved before now (Err (Read ReadFault)) = Rose before now
CountsSaved before now result = now ≡ before

-- lines led to what is read so far, and not to the end of the text
abbrev pub LeadsToState : Sheet → List Question → Option Contents → Option Contents → Type 0
LeadsToState sheet asked before after = (state : SaveState) × LeadsSaved sheet asked before after
    state

-- if the source did not fail, reading stops at the read that completes the bad line, the end or the
-- stop
abbrev pub StopsBySave : {S : Type 0} → Sheet → List Question → (S → Option (List ℕ))
    → (S → List ℕ → S → Type 0) → LineReaderView → LineReaderView → S → S → SaveStop → Type 0
StopsBySave sheet asked left reads old new before after (Read ReadFault) = Unit {0}
StopsBySave sheet asked left reads old new before after _ =
    ReadsOnWay left reads (LeadsToState sheet asked) old new before after

-- the same of a call's answer: of the trees it is the line `saved_end`
abbrev pub StopsAtSaved : {A S : Type 0} → Sheet → List Question → (S → Option (List ℕ))
    → (S → List ℕ → S → Type 0) → LineReaderView → LineReaderView → S → S → Result A SaveStop
    → Type 0
StopsAtSaved sheet asked left reads old new before after (Ok value) =
    ReadsOnWay left reads (LeadsToState sheet asked) old new before after
StopsAtSaved sheet asked left reads old new before after (Err stop) =
    StopsBySave sheet asked left reads old new before after stop

-- ---- one line

-- the reading goes on from what is read so far, or it is over
abbrev pub SaveStepReads : Sheet → List Question → Option Contents → Option Contents → SaveState
    → Result Bool SaveStop → Type 0
SaveStepReads sheet asked start after new (Ok false) = LeadsSaved sheet asked start after new
SaveStepReads sheet asked start after new (Ok true) =
    ReadsSavedAs sheet asked start after (Ok new.trees)
SaveStepReads sheet asked start after new (Err stop) = ReadsSaved sheet asked start after (Err stop)

-- what is read so far is sound, or the trees are
abbrev pub StepSound : Sheet → List Question → SaveState → Result Bool SaveStop → Type 0
StepSound sheet asked new (Ok false) = IsSaveState sheet asked new
StepSound sheet asked new (Ok true) = AreSavedTrees sheet asked new.trees
StepSound sheet asked new (Err stop) = Unit {0}

-- if it goes on, bytes were passed, and none of them past the input's limit
abbrev pub SaveStepMoves : LineReaderView → LineReaderView → Result Bool SaveStop → Type 0
SaveStepMoves old new (Ok false) =
    (old.position.bytes < new.position.bytes) × (new.position.bytes ≤ input_limit)
SaveStepMoves old new (Ok true) = Unit {0}
SaveStepMoves old new (Err stop) = Unit {0}

-- if it goes on, one node more was read at most
abbrev pub StepGrows : SaveState → SaveState → Result Bool SaveStop → Type 0
StepGrows old new (Ok false) = length new.nodes ≤ length old.nodes + 1
StepGrows old new (Ok true) = Unit {0}
StepGrows old new (Err stop) = Unit {0}

-- where the reader is left, if the reading is over
abbrev pub StepLeaves : LineReaderView → Option (List ℕ) → Result Bool SaveStop → Type 0
StepLeaves new left (Ok false) = Unit {0}
StepLeaves new left (Ok true) = LeavesReader new left (Ok (Text new.position.lines))
StepLeaves new left (Err stop) = LeavesSaved {A = Bool} new left (Err stop)

-- one line is read, unless the source failed, and nothing after it
abbrev pub StepStops : {S : Type 0} → (S → Option (List ℕ)) → (S → List ℕ → S → Type 0)
    → LineReaderView → LineReaderView → S → S → Result Bool SaveStop → Type 0
StepStops left reads old new before after (Err (Read ReadFault)) = Unit {0}
StepStops left reads old new before after _ = ReadsInNeed left reads old new before after
