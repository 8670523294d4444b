-- What the calls answer.
use Rattle.std.specs.Prelude.{◌≡◌, ◌<◌, ◌≤◌, ℕ, Bool, List, ◌++◌, All, Option, None, Some}
use Rattle.std.specs.Prelude.{option_map, Result, Ok, Err}
use Rattle.port_core.specs.declared.line.Line.{Line}
use Rattle.port_core.specs.declared.line.Line.TheVariants as line
use Rattle.port_core.specs.declared.line.ReadStop.{ReadStop}
use Rattle.port_core.specs.declared.line.ReadStop.TheVariants.{ReadFault, LineTooLong, InputTooLong}
use Rattle.port_core.specs.Contents.{Contents, with_line, with_lines, input_limit, number_at}
use Rattle.port_core.specs.Readers.{LineReaderView}
use Rattle.port_core.specs.inside.ReaderCalls.{PassesTo, given_by}
use Rattle.port_core.specs.Ports.{Rose}
use Rattle.fixture_sheet.specs.inside.Calls.{TakesLines}
use Rattle.result_log.specs.declared.entry.Entry.{Entry}
use Rattle.result_log.specs.declared.entry.Entry.TheVariants.{Change, Ask, Proofs, End}
use Rattle.result_log.specs.declared.fault.FeedFault.{FeedFault}
use Rattle.result_log.specs.declared.fault.ContentStop.{ContentStop}
use Rattle.result_log.specs.declared.fault.ContentStop.TheVariants as content_stop
use Rattle.result_log.specs.declared.fault.FeedStop.{FeedStop}
use Rattle.result_log.specs.declared.fault.FeedStop.TheVariants.{Fault, Read, OutOfMemory}
use Rattle.result_log.specs.inside.FeedParts.{LineEntry, entry_reading_of}

-- ---- one line

-- the answer is what the content is, or memory ran out
abbrev pub AnswersContent : {T : Type 0}
    → Result (Option T) FeedFault → Result (Option T) ContentStop → Type 0
AnswersContent wanted (Ok found) = wanted ≡ Ok found
AnswersContent wanted (Err (content_stop.Fault fault)) = wanted ≡ Err fault
AnswersContent wanted (Err content_stop.OutOfMemory) = Unit {0}

-- the same of the line of this number: without an answer no field is left of it
abbrev pub AnswersLine : {T : Type 0}
    → ℕ → Result (Option T) FeedFault → Option (Result T FeedStop) → Type 0
AnswersLine number line None = line ≡ Ok None
AnswersLine number line (Some (Ok told)) = line ≡ Ok (Some told)
AnswersLine number line (Some (Err (Fault refused fault))) =
    (refused ≡ number) × (line ≡ Err fault)
AnswersLine number line (Some (Err (Read stop))) = ⊥
AnswersLine number line (Some (Err OutOfMemory)) = Unit {0}

-- a line was read that holds no record
abbrev pub PassesBareLine : LineEntry → Option Contents → Option Contents → Type 0
PassesBareLine entry before after =
    (number : ℕ) × (content : List ℕ)
    × (before ≡ option_map (with_line number content) after) × (entry content ≡ Ok None)

-- the contents, if they are shown, are read as the definition says
abbrev pub ReadsEntryAs :
    LineEntry → Option Contents → Option Contents → Result Entry FeedStop → Type 0
ReadsEntryAs entry before after result =
    option_map (entry_reading_of entry) before
    ≡ option_map (λ rest. record { gives = result; rest = rest }) after

-- ---- the lines up to a record

-- lines were read that hold no record
abbrev pub PassesBareLines : LineEntry → Option Contents → Option Contents → Type 0
PassesBareLines entry before after =
    (lines : List (ℕ × List ℕ)) × (before ≡ option_map (with_lines lines) after)
    × ((rest : Contents)
    → entry_reading_of entry (with_lines lines rest) ≡ entry_reading_of entry rest)

-- the contents that were to come before the call and are to come after it, by its answer: an
-- entry, a refusal and a stop for good come as the definition says; before a fault of the source
-- no record came; running out of memory may come after any line
abbrev pub ReadsEntry :
    LineEntry → Option Contents → Option Contents → Result Entry FeedStop → Type 0
ReadsEntry entry before after (Ok given) = ReadsEntryAs entry before after (Ok given)
ReadsEntry entry before after (Err (Fault number fault)) =
    ReadsEntryAs entry before after (Err (Fault number fault))
ReadsEntry entry before after (Err (Read ReadFault)) = PassesBareLines entry before after
ReadsEntry entry before after (Err (Read (LineTooLong number))) =
    ReadsEntryAs entry before after (Err (Read (LineTooLong number)))
ReadsEntry entry before after (Err (Read (InputTooLong number))) =
    ReadsEntryAs entry before after (Err (Read (InputTooLong number)))
ReadsEntry entry before after (Err OutOfMemory) = TakesLines before after

-- the same of one line: without an answer it holds no record
abbrev pub ReadsRecord :
    LineEntry → Option Contents → Option Contents → Option (Result Entry FeedStop) → Type 0
ReadsRecord entry before after None = PassesBareLine entry before after
ReadsRecord entry before after (Some result) = ReadsEntry entry before after result

-- ---- the lines passed, and where the reader is left

-- the reader's answer that an entry or its want came of: the line passed last, which a refusal has
-- the number of, the input's end, or a stop
abbrev pub entry_answer_after : LineReaderView → Result Entry FeedStop → Result Line ReadStop
entry_answer_after new (Ok (Change event)) = Ok (line.Text new.position.lines)
entry_answer_after new (Ok Ask) = Ok (line.Text new.position.lines)
entry_answer_after new (Ok Proofs) = Ok (line.Text new.position.lines)
entry_answer_after new (Ok End) = Ok (line.End (number_at new.position))
entry_answer_after new (Err (Fault number fault)) = Ok (line.Text number)
entry_answer_after new (Err (Read stop)) = Err stop
entry_answer_after new (Err OutOfMemory) = Ok (line.Text new.position.lines)

-- the same of one line: without an answer it is passed
abbrev pub answer_there : LineReaderView → Option (Result Entry FeedStop) → Result Line ReadStop
answer_there new None = Ok (line.Text new.position.lines)
answer_there new (Some result) = entry_answer_after new result

-- ---- the contents passed, up to the answer

-- what the line passed last is, by the answer: it holds the entry, or is refused; the end and a
-- stop come of no line
abbrev pub ComesOf : LineEntry → List ℕ → Result Entry FeedStop → Type 0
ComesOf entry text (Ok (Change event)) = entry text ≡ Ok (Some (Change event))
ComesOf entry text (Ok Ask) = entry text ≡ Ok (Some Ask)
ComesOf entry text (Ok Proofs) = entry text ≡ Ok (Some Proofs)
ComesOf entry text (Ok End) = Unit {0}
ComesOf entry text (Err (Fault number fault)) = entry text ≡ Err fault
ComesOf entry text (Err (Read stop)) = Unit {0}
ComesOf entry text (Err OutOfMemory) = Unit {0}

-- the same of one line: without an answer it holds no record
abbrev pub ComesThere : LineEntry → List ℕ → Option (Result Entry FeedStop) → Type 0
ComesThere entry text None = entry text ≡ Ok None
ComesThere entry text (Some result) = ComesOf entry text result

-- lines were passed that give these contents, and none of them holds a record
abbrev pub PassesBlank : LineEntry → LineReaderView → LineReaderView → Option (List ℕ)
    → Option (List ℕ)
    → Bool → Bool → Type 0
PassesBlank entry old new left left' ended ended' =
    (blank : List (ℕ × List ℕ)) × All (λ line. entry line.1 ≡ Ok None) blank
    × PassesTo old new left left' ended ended' blank

-- the contents passed: all but the last hold no record, and the last is what the answer says
pub record PassesToEntry (entry : LineEntry) (old new : LineReaderView)
    (left left' : Option (List ℕ))
    (ended ended' : Bool) (result : Result Entry FeedStop) : Type 0 where
  pub blank : List (ℕ × List ℕ)
  pub none : All (λ line. entry line.1 ≡ Ok None) blank
  pub passes : PassesTo old new left left' ended ended'
      (blank ++ given_by (entry_answer_after new result) new.text)
  pub comes : ComesOf entry new.text result

-- ---- progress, and faults

-- a reader passed bytes, and none past the input's limit
abbrev pub PassesBytes : LineReaderView → LineReaderView → Type 0
PassesBytes old new = (old.position.bytes < new.position.bytes) × (new.position.bytes ≤ input_limit)

-- after a record the reader has passed more bytes than before, so that a feed ends
abbrev pub MovesToEntry : LineReaderView → LineReaderView → Result Entry FeedStop → Type 0
MovesToEntry old new (Ok (Change event)) = PassesBytes old new
MovesToEntry old new (Ok Ask) = PassesBytes old new
MovesToEntry old new (Ok Proofs) = PassesBytes old new
MovesToEntry old new (Ok End) = Unit {0}
MovesToEntry old new (Err stop) = Unit {0}

-- the same of one line
abbrev pub MovesToRecord :
    LineReaderView → LineReaderView → Option (Result Entry FeedStop) → Type 0
MovesToRecord old new None = PassesBytes old new
MovesToRecord old new (Some result) = MovesToEntry old new result

-- a fault of the source is answered only if its count rose, and otherwise that count stays
abbrev pub CountsEntry : ℕ → ℕ → Result Entry FeedStop → Type 0
CountsEntry before now (Err (Read ReadFault)) = Rose before now
CountsEntry before now _ = now ≡ before

-- the same of one line
abbrev pub CountsRecord : ℕ → ℕ → Option (Result Entry FeedStop) → Type 0
CountsRecord before now None = now ≡ before
CountsRecord before now (Some result) = CountsEntry before now result
