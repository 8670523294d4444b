-- What a call for the next content returns, and what the reader has in hand then; and the same of
-- each line that such a call passes on its way.
use Rattle.std.specs.Prelude.{◌≡◌, ℕ, ◌+◌, ◌-◌, ◌<◌, ◌≤◌, Bool, false, ◌==◌, ◌⊎◌, nat_le}
use Rattle.std.specs.Prelude.{MatchBool, List, [], ◌∷◌, ◌++◌, length, take, drop, Option}
use Rattle.std.specs.Prelude.{Some, None, option_map, IfSome, Result, Ok, Err, if◌then◌else◌}
use Rattle.std.specs.Io.KnownBytes.{prepend_known, IsAtEnd}
use Rattle.port_core.specs.declared.line.Line.{Line}
use Rattle.port_core.specs.declared.line.Line.TheVariants.{Text, End}
use Rattle.port_core.specs.declared.line.ReadStop.{ReadStop}
use Rattle.port_core.specs.declared.line.ReadStop.TheVariants.{ReadFault, LineTooLong}
use Rattle.port_core.specs.declared.line.ReadStop.TheVariants.{InputTooLong}
use Rattle.port_core.specs.Ports.{Rose}
use Rattle.port_core.specs.declared.buffer.Due.{Due}
use Rattle.port_core.specs.declared.buffer.Due.TheVariants.{Ended, Open, Failed, Stuck, Full}
use Rattle.port_core.specs.Lines.{lines_of, line_limit, AreEndedLines, HasNoLineFeed}
use Rattle.port_core.specs.inside.Buffers.{IsDue}
use Rattle.port_core.specs.Contents.{Position, position_after, number_at, input_limit, content_at}
use Rattle.port_core.specs.Contents.{is_skipped, stop_due, Contents, ended, with_line}
use Rattle.port_core.specs.Contents.{with_lines, contents_from}
use Rattle.port_core.specs.Readers.{LineReaderView, stream_of, contents_to_come, bytes_taken}
use Rattle.port_core.specs.Readers.{TakesInput}
use Rattle.port_core.specs.Readers.{HasAnswer}

-- the input stops at the line that is due, as the bytes in hand show
abbrev pub HasStop : LineReaderView → ReadStop → Type 0
HasStop reader stop = stop_due reader.position (lines_of reader.held) ≡ Some stop

-- what was still to come before the call and after it, if the source shows its bytes: the first
-- content is given; or nothing was left but the ending, which stays; or nothing changes
abbrev pub NextGives :
    Option Contents → Option Contents → List ℕ → Result Line ReadStop → Type 0
NextGives before after text (Ok (Text number)) = before ≡ option_map (with_line number text) after
NextGives before after text (Ok (End number)) =
    IfSome before (λ contents. contents ≡ ended (Ok number)) × (before ≡ after)
NextGives before after text (Err ReadFault) = before ≡ after
NextGives before after text (Err (LineTooLong number)) =
    IfSome before (λ contents. contents ≡ ended (Err (LineTooLong number))) × (before ≡ after)
NextGives before after text (Err (InputTooLong number)) =
    IfSome before (λ contents. contents ≡ ended (Err (InputTooLong number))) × (before ≡ after)

-- lines were passed from one position in an input to another: they are the first of the bytes from
-- the one position on, those from the other position on are what comes after them, and whatever
-- follows them, they give these contents and no stop; unless the end was marked, each of them
-- ended, and an end marked before stays marked
pub record Passes (from : Position) (before : List ℕ) (ended : Bool)
    (to : Position) (after : List ℕ) (ended' : Bool) (given : List (ℕ × List ℕ)) : Type 0 where
  pub lines : List (List ℕ)
  pub split : lines_of before ≡ lines ++ lines_of after
  pub gives : (more : List (List ℕ))
      → contents_from from (lines ++ more) ≡ with_lines given (contents_from to more)
  pub whole : ended' ≡ false → AreEndedLines lines
  pub told : ended' ≡ false → ended ≡ false

-- the same, if the source shows its bytes
abbrev pub PassesKnown : Position → Option (List ℕ) → Bool → Position → Option (List ℕ) → Bool
    → List (ℕ × List ℕ) → Type 0
PassesKnown from None ended to None ended' given = Unit {0}
PassesKnown from (Some before) ended to (Some after) ended' given =
    Passes from before ended to after ended' given
PassesKnown from _ ended to _ ended' given = ⊥

-- what an answer gives, with the content last given
abbrev pub given_by : Result Line ReadStop → List ℕ → List (ℕ × List ℕ)
given_by (Ok (Text number)) text = (number, text) ∷ []
given_by (Ok (End number)) text = []
given_by (Err stop) text = []

-- the lines that a reader passed on its way to an answer
abbrev pub PassesTo : LineReaderView → LineReaderView → Option (List ℕ) → Option (List ℕ) → Bool
    → Bool
    → List (ℕ × List ℕ) → Type 0
PassesTo old new left left' ended ended' given =
    PassesKnown old.position (stream_of old left) ended new.position (stream_of new left') ended'
    given

-- the reader after each answer: after the line given, which is within its limit; at the end, with
-- nothing in hand; with no whole line in hand; or with the stop in hand
abbrev pub LeavesReader :
    LineReaderView → Option (List ℕ) → Result Line ReadStop → Type 0
LeavesReader new left (Ok (Text number)) =
    (number ≡ new.position.lines) × (is_skipped new.text ≡ false) × (length new.text ≤ line_limit)
LeavesReader new left (Ok (End number)) =
    (number ≡ number_at new.position) × (new.held ≡ []) × IsAtEnd left
LeavesReader new left (Err ReadFault) =
    HasNoLineFeed new.held × (length new.held ≤ line_limit) × (bytes_taken new ≤ input_limit)
LeavesReader new left (Err (LineTooLong number)) = HasStop new (LineTooLong number)
LeavesReader new left (Err (InputTooLong number)) = HasStop new (InputTooLong number)

-- a content given leaves more bytes passed than before, and none of them past the input's limit
abbrev pub MovesOn : LineReaderView → LineReaderView → Result Line ReadStop → Type 0
MovesOn old new (Ok (Text number)) =
    (old.position.bytes < new.position.bytes) × (new.position.bytes ≤ input_limit)
MovesOn old new _ = Unit {0}

-- the content last given stays if none is given
abbrev pub KeepsText : LineReaderView → LineReaderView → Result Line ReadStop → Type 0
KeepsText old new (Ok (Text number)) = Unit {0}
KeepsText old new (Ok (End number)) = new.text ≡ old.text
KeepsText old new (Err stop) = new.text ≡ old.text

-- a fault is returned only if the source's count rose, and else that count stays
abbrev pub CountsNext : ℕ → ℕ → Result Line ReadStop → Type 0
CountsNext before now (Err ReadFault) = Rose before now
CountsNext before now _ = now ≡ before

-- the last read of a call: what was to come before the call was still to come, no answer was in
-- hand, and the read gave the last of the bytes that the call took
pub record LastRead {S : Type 0} (left : S → Option (List ℕ)) (reads : S → List ℕ → S → Type 0)
    (old new : LineReaderView) (before after : S) : Type 0 where
  pub reader : LineReaderView
  pub source : S
  pub last : List ℕ
  pub same : contents_to_come old (left before) ≡ contents_to_come reader (left source)
  pub front : TakesInput old reader (left before) (left source)
  pub unanswered : HasAnswer reader → ⊥
  pub read : reads source last after
  pub stream : left source ≡ prepend_known last (left after)
  pub count : bytes_taken new ≡ bytes_taken reader + length last

-- a call read nothing, or its last read came while no answer was in hand
abbrev pub ReadsInNeed : {S : Type 0} → (S → Option (List ℕ)) → (S → List ℕ → S → Type 0)
    → LineReaderView → LineReaderView → S → S → Type 0
ReadsInNeed left reads old new before after =
    ((after ≡ before) × (bytes_taken new ≡ bytes_taken old))
    ⊎ LastRead left reads old new before after

-- reading stops at the read that completes an answer, unless the source failed
abbrev pub StopsAtAnswer : {S : Type 0} → (S → Option (List ℕ)) → (S → List ℕ → S → Type 0)
    → LineReaderView → LineReaderView → S → S → Result Line ReadStop → Type 0
StopsAtAnswer left reads old new before after (Err ReadFault) = Unit {0}
StopsAtAnswer left reads old new before after _ = ReadsInNeed left reads old new before after

-- a reader that has a stop in hand returns it, and stays as it is
abbrev pub StaysStopped : LineReaderView → LineReaderView → Result Line ReadStop → Type 0
StaysStopped old new result =
    (stop : ReadStop) → HasStop old stop → (result ≡ Err stop) × (new ≡ old)

-- ---- one line

-- the text of the line that is due ends at one position among the bytes in hand, and its bytes at
-- another; its content is given, or the line is passed over
abbrev pub PassesLine : LineReaderView → LineReaderView → ℕ → ℕ → Option Line → Type 0
PassesLine old new end behind line =
    let content = content_at old.position (take end old.held) in
    (line ≡ (if is_skipped content then None else Some (Text (number_at old.position))))
    × (new ≡ record {
      held = drop behind old.held;
      text = if is_skipped content then old.text else content;
      position = position_after old.position behind;
    })

-- the same, as an answer
abbrev pub GivesLine :
    LineReaderView → LineReaderView → ℕ → ℕ → Option (Result Line ReadStop) → Type 0
GivesLine old new end behind result =
    (line : Option Line) × (result ≡ option_map Ok line) × PassesLine old new end behind line

-- a stop is returned, and the reader stays as it is
abbrev pub Stops : LineReaderView → LineReaderView → ReadStop → Option (Result Line ReadStop)
    → Type 0
Stops old new stop result = (result ≡ Some (Err stop)) × (new ≡ old)

-- a line ends with the LF at this place in hand, if that is not past the input's limit
abbrev pub EndsLine : LineReaderView → LineReaderView → ℕ → Option (Result Line ReadStop) → Type 0
EndsLine old new at result =
    MatchBool (nat_le input_limit (old.position.bytes + at))
    (Stops old new (InputTooLong (number_at old.position)) result)
    (GivesLine old new at (at + 1) result)

-- the input ends after the bytes in hand: they are its last line, if there are any
abbrev pub EndsInput : LineReaderView → LineReaderView → Option (Result Line ReadStop) → Type 0
EndsInput old new result =
    MatchBool (length old.held == 0)
    ((result ≡ Some (Ok (End (number_at old.position)))) × (new ≡ old))
    (GivesLine old new (length old.held) (length old.held) result)

-- what came of a wait for the line that is due is within the limits of a line and of the input
abbrev pub IsWithin : LineReaderView → Due → Type 0
IsWithin reader (Ended at) = (at ≤ line_limit) × (at < length reader.held)
IsWithin reader Open = (length reader.held ≤ line_limit) × (bytes_taken reader ≤ input_limit)
IsWithin reader _ = Unit {0}

-- what a wait for the line that is due leads to, by what came of it
abbrev pub EndsWait : LineReaderView → LineReaderView → Due → Option (Result Line ReadStop) → Type 0
EndsWait old new (Ended at) result = EndsLine old new at result
EndsWait old new Open result = EndsInput old new result
EndsWait old new Failed result = Stops old new ReadFault result
EndsWait old new Stuck result = Stops old new (LineTooLong (number_at old.position)) result
EndsWait old new Full result = Stops old new (InputTooLong (number_at old.position)) result

-- the most bytes that may be in hand: one past the input's limit shows that it is passed
abbrev pub most_held : LineReaderView → ℕ
most_held reader = input_limit + 1 - reader.position.bytes

-- a wait for the line that is due puts bytes of the source in hand until it is whole or cannot go
-- on
pub record Waits (old new : LineReaderView) (left left' : Option (List ℕ)) (due : Due) : Type 0
  where
    pub text : new.text ≡ old.text
    pub position : new.position ≡ old.position
    pub stream : stream_of old left ≡ stream_of new left'
    pub end : IsDue (most_held new) new.held left' due
    pub inside : old.position.bytes ≤ input_limit
    pub within : bytes_taken new ≤ input_limit + 1
    pub takes : TakesInput old new left left'
    pub ready : HasAnswer old → new ≡ old

-- the next answer, or none if one line was passed over
abbrev pub LineGives :
    Option Contents → Option Contents → List ℕ → Option (Result Line ReadStop) → Type 0
LineGives before after text None = before ≡ after
LineGives before after text (Some result) = NextGives before after text result

-- what an answer gives, and a line that was passed over
abbrev pub given_there : Option (Result Line ReadStop) → List ℕ → List (ℕ × List ℕ)
given_there None text = []
given_there (Some result) text = given_by result text

-- the reader after the answer, or after a line that was passed over
abbrev pub LeavesAfter :
    LineReaderView → LineReaderView → Option (List ℕ) → Option (Result Line ReadStop) → Type 0
LeavesAfter old new left None = old.position.bytes < new.position.bytes
LeavesAfter old new left (Some result) = LeavesReader new left result

-- a content given leaves more bytes passed than before, and none of them past the input's limit
abbrev pub LineMovesOn : LineReaderView → LineReaderView → Option (Result Line ReadStop) → Type 0
LineMovesOn old new None = Unit {0}
LineMovesOn old new (Some result) = MovesOn old new result

-- the content last given stays if none is given
abbrev pub LineKeepsText : LineReaderView → LineReaderView → Option (Result Line ReadStop) → Type 0
LineKeepsText old new None = new.text ≡ old.text
LineKeepsText old new (Some result) = KeepsText old new result

-- a line that is not failed by the source reads nothing, or stops at the read that ends it
abbrev pub LineStopsReading : {S : Type 0} → (S → Option (List ℕ)) → (S → List ℕ → S → Type 0)
    → LineReaderView → LineReaderView → S → S → Option (Result Line ReadStop) → Type 0
LineStopsReading left reads old new before after None =
    ReadsInNeed left reads old new before after
LineStopsReading left reads old new before after (Some result) =
    StopsAtAnswer left reads old new before after result

-- an answer in hand stays in hand if a line was passed over
abbrev pub KeepsAnswer : LineReaderView → LineReaderView → Option (Result Line ReadStop) → Type 0
KeepsAnswer old new None = HasAnswer old → HasAnswer new
KeepsAnswer old new (Some result) = Unit {0}

-- a reader that has a stop in hand returns it, and stays as it is
abbrev pub AnswersStop : LineReaderView → LineReaderView → Option (Result Line ReadStop) → Type 0
AnswersStop old new result =
    (stop : ReadStop) → HasStop old stop → (result ≡ Some (Err stop)) × (new ≡ old)
