-- What a run that answers asks or saves promises of the status, of the bytes written, and of what
-- the source has left. It is said if the source exposes its bytes; a sink that exposes none is
-- taken to hold what was written.
use Rattle.std.specs.Prelude.{◌≡◌, ℕ, Bool, false, ◌⊎◌, List, [], ◌++◌, Option, Some, None, Ok}
use Rattle.std.specs.Io.KnownBytes.{append_known}
use Rattle.port_core.specs.Lines.{lines_of, AreEndedLines, HasNoLineFeed}
use Rattle.port_core.specs.Ports.{IsBytePrefix, Rose}
use Rattle.port_core.specs.Contents.{start, contents_from, contents_of}
use Rattle.run_ends.specs.declared.status.Status.{Status}
use Rattle.run_ends.specs.declared.status.Status.TheVariants.{Done, BadWords, BadSheet, BadFeed}
use Rattle.run_ends.specs.declared.status.Status.TheVariants.{ReadFault, WriteFault, OutOfMemory}
use Rattle.run_ends.specs.declared.status.Status.TheVariants.{NotProved, TooLong}
use Rattle.run_ends.specs.Rows.{usage_row}
use Rattle.run_ends.specs.Texts.{SessionKind, IsTextOf, IsPrefixOf, AreAllAnswers}
use Rattle.run_ends.specs.InputEnds.{status_of_outcome}

-- ---- what is written

-- the status of the session of an input
abbrev pub session_status : {Play : Type 0} → SessionKind Play → List ℕ → Status
session_status kind input =
    status_of_outcome (kind.course (contents_of input)).outcome

-- the text is one of the session of an input
abbrev pub IsText : {Play : Type 0} → SessionKind Play → List ℕ → List ℕ → Type 0
IsText kind input text = IsTextOf kind (kind.course (contents_of input)) text

-- the text is a prefix of a text of the session of an input
abbrev pub IsTextPrefix : {Play : Type 0} → SessionKind Play → List ℕ → List ℕ → Type 0
IsTextPrefix kind input text =
    IsPrefixOf kind (kind.course (contents_of input)) text

-- the whole text of the session, which has this status
abbrev pub IsWholeText : {Play : Type 0} → SessionKind Play → List ℕ → Status → List ℕ → Type 0
IsWholeText kind input status text =
    (session_status kind input ≡ status) × IsText kind input text

-- the text is the answers of all asks in these first lines of an input, of which none is refused or
-- too long, and none has the input's first byte too many
abbrev pub AreAnswersIn : {Play : Type 0} → SessionKind Play → List (List ℕ) → List ℕ → Type 0
AreAnswersIn kind lines text =
    let contents = contents_from start lines in
    (number : ℕ) × (contents.ending ≡ Ok number)
    × AreAllAnswers kind number (kind.course contents) text

-- the answers of the asks in the whole lines that were taken: what was taken after them has no LF,
-- and each of them ended with its LF, unless the source's end was reached, which ends a line too
abbrev pub AnswersTaken : {Play : Type 0} → SessionKind Play → List ℕ → Option (List ℕ) → Bool
    → List ℕ → Type 0
AnswersTaken kind input None ended text = ⊥
AnswersTaken kind input (Some left) ended text =
    (taken : List (List ℕ)) × (held : List ℕ) × HasNoLineFeed held
    × (lines_of input ≡ taken ++ lines_of (held ++ left)) × (ended ≡ false → AreEndedLines taken)
    × AreAnswersIn kind taken text

-- what was written if a run over this input ends with this status, by what the source has left
-- then and by whether its end was reached
abbrev pub Ends : {Play : Type 0} → SessionKind Play → List ℕ → Option (List ℕ) → Bool → Status
    → List ℕ → Type 0
Ends kind input left ended Done text = IsWholeText kind input Done text × (left ≡ Some [])
Ends kind input left ended BadWords text = IsWholeText kind input BadWords text
Ends kind input left ended BadSheet text = IsWholeText kind input BadSheet text
Ends kind input left ended BadFeed text = IsWholeText kind input BadFeed text
Ends kind input left ended ReadFault text = AnswersTaken kind input left ended text
Ends kind input left ended WriteFault text = IsTextPrefix kind input text
Ends kind input left ended OutOfMemory text = IsTextPrefix kind input text
Ends kind input left ended NotProved text = IsWholeText kind input NotProved text
Ends kind input left ended TooLong text = IsWholeText kind input TooLong text

-- what was written if the words fit no mode: the usage row, a prefix of it if the sink failed, or
-- nothing if there was no memory for it
abbrev pub EndsUnread : Status → List ℕ → Type 0
EndsUnread BadWords text = text ≡ usage_row
EndsUnread WriteFault text = IsBytePrefix text usage_row
EndsUnread OutOfMemory text = text ≡ []
EndsUnread _ text = ⊥

-- the sink's bytes before and after, if the words fit no mode
abbrev pub RefusesWords : Option (List ℕ) → Option (List ℕ) → Status → Type 0
RefusesWords old new status =
    (text : List ℕ) × (new ≡ append_known old text) × EndsUnread status text

-- the sink's bytes before and after a run, by its kind, by what the source had left before and has
-- left after, and by whether its end was reached
abbrev pub Serves : {Play : Type 0} → SessionKind Play → Option (List ℕ) → Option (List ℕ)
    → Bool → Option (List ℕ)
    → Option (List ℕ) → Status → Type 0
Serves kind None left ended old new status = Unit {0}
Serves kind (Some input) left ended old new status =
    (text : List ℕ) × (new ≡ append_known old text) × Ends kind input left ended status text

-- ---- the status alone, whether or not the devices expose their bytes

-- a fault of a device is returned only if its count rose, and else that count stays; running out of
-- memory, as each other end, leaves both counts as they were
abbrev pub Counts : ℕ → ℕ → ℕ → ℕ → Status → Type 0
Counts reads reads' writes writes' ReadFault = Rose reads reads' × (writes' ≡ writes)
Counts reads reads' writes writes' WriteFault = (reads' ≡ reads) × Rose writes writes'
Counts reads reads' writes writes' status = (reads' ≡ reads) × (writes' ≡ writes)

-- the status is that of the session of some input
abbrev pub IsEarned : {Play : Type 0} → SessionKind Play → Status → Type 0
IsEarned kind status = (input : List ℕ) × (session_status kind input ≡ status)

-- the status of a run in which no device failed: that of the session, which is that of some input
-- if the source exposes none; or running out of memory
abbrev pub IsSettled : {Play : Type 0} → SessionKind Play → Option (List ℕ) → Status → Type 0
IsSettled kind None status = IsEarned kind status ⊎ (status ≡ OutOfMemory)
IsSettled kind (Some input) status =
    (status ≡ session_status kind input) ⊎ (status ≡ OutOfMemory)
