-- Lemmas on what a call for the next entry reads.
use Rattle.std.proofs.Common.{◌≡◌, ◌≤◌, ℕ, List, [], ◌∷◌, ◌++◌, Option, None, Some, option_map}
use Rattle.std.proofs.Common.{IfSome, Result, Ok, Err, refl, sym, ap, ◌∙◌, arith, append_assoc}
use Rattle.port_core.specs.declared.line.ReadStop.{ReadStop}
use Rattle.port_core.specs.declared.line.ReadStop.TheVariants.{ReadFault, LineTooLong, InputTooLong}
use Rattle.port_core.specs.Contents.{Contents, ended, with_line, with_lines}
use Rattle.port_core.specs.Readers.{LineReaderView}
use Rattle.port_core.specs.inside.ReaderCalls.{PassesTo, given_by}
use Rattle.port_core.proofs.PassingLemmas.{passes-none, passes-more}
use Rattle.std.proofs.lemmas.List.Elements.{All-nil, All-push}
use Rattle.std.specs.Prelude.{Bool}
use Rattle.result_log.specs.declared.entry.Entry.{Entry}
use Rattle.result_log.specs.declared.entry.Entry.TheVariants.{Change, Ask, Proofs, End}
use Rattle.result_log.specs.declared.fault.FeedStop.{FeedStop}
use Rattle.result_log.specs.declared.fault.FeedStop.TheVariants.{Fault, Read, OutOfMemory}
use Rattle.result_log.specs.inside.FeedParts.{entry_reading_from, entry_reading_of, LineEntry}
use Rattle.result_log.specs.inside.Calls.{ComesOf, ComesThere, PassesBlank, PassesToEntry}
use Rattle.result_log.specs.inside.Calls.{entry_answer_after, AnswersLine, MovesToEntry}
use Rattle.result_log.specs.inside.Calls.{PassesBareLines, PassesBareLine, ReadsEntryAs, ReadsEntry}
use Rattle.result_log.specs.inside.Calls.{ReadsRecord}

-- ---- lines at the front

-- no line at the front
pub with_lines-none : (known : Option Contents) → known ≡ option_map (with_lines []) known
with_lines-none None = refl
with_lines-none (Some contents) = refl

-- some lines and then others are all of them
pub with_lines-append : (first second : List (ℕ × List ℕ)) (before mid after : Option Contents)
    → before ≡ option_map (with_lines first) mid → mid ≡ option_map (with_lines second) after
    → before ≡ option_map (with_lines (first ++ second)) after
with_lines-append first second before mid None front behind =
    front ∙ ap (option_map (with_lines first)) behind
with_lines-append first second before mid (Some contents) front behind =
    front ∙ ap (option_map (with_lines first)) behind
    ∙ ap (λ (lines : List (ℕ × List ℕ)). Some (record { lines = lines; ending = contents.ending }))
    (sym (append_assoc first second contents.lines))

-- one line at the front is a list of one
with_line-one : (number : ℕ) (content : List ℕ) (known : Option Contents)
    → option_map (with_line number content) known
    ≡ option_map (with_lines ((number, content) ∷ [])) known
with_line-one number content None = refl
with_line-one number content (Some contents) = refl

-- ---- lines that hold no record

pub PassesBareLines-none : (entry : LineEntry) (known : Option Contents)
    → PassesBareLines entry known known
PassesBareLines-none entry known = ([], with_lines-none known, λ rest. refl)

-- a line that holds no record leaves the reading as it is
reading-blank : (entry : LineEntry) (number : ℕ) (content : List ℕ) (rest : Contents)
    → entry content ≡ Ok None
    → entry_reading_of entry (with_lines ((number, content) ∷ []) rest)
    ≡ entry_reading_of entry rest
reading-blank entry number content rest blank = rw blank refl

-- lines that hold none, and more of them
reading-append : (entry : LineEntry) (first second : List (ℕ × List ℕ))
    → ((rest : Contents)
    → entry_reading_of entry (with_lines first rest) ≡ entry_reading_of entry rest)
    → ((rest : Contents)
    → entry_reading_of entry (with_lines second rest) ≡ entry_reading_of entry rest)
    → (rest : Contents)
    → entry_reading_of entry (with_lines (first ++ second) rest) ≡ entry_reading_of entry rest
reading-append entry first second front behind rest =
    ap (λ (lines : List (ℕ × List ℕ)). entry_reading_from entry lines rest.ending)
    (append_assoc first second rest.lines)
    ∙ front (with_lines second rest) ∙ behind rest

pub PassesBareLines-append : (entry : LineEntry) (first mid last : Option Contents)
    → PassesBareLines entry first mid → PassesBareLines entry mid last
    → PassesBareLines entry first last
PassesBareLines-append entry first mid last front behind = (
  front.0 ++ behind.0,
  with_lines-append front.0 behind.0 first mid last front.1 behind.1,
  reading-append entry front.0 behind.0 front.2 behind.2,
)

pub PassesBareLines-more : (entry : LineEntry) (first mid last : Option Contents)
    → PassesBareLines entry first mid → PassesBareLine entry mid last
    → PassesBareLines entry first last
PassesBareLines-more entry first mid last front line =
    PassesBareLines-append entry first mid last front (
      (line.0, line.1) ∷ [],
      line.2 ∙ with_line-one line.0 line.1 last,
      λ rest. reading-blank entry line.0 line.1 rest line.3,
    )

-- ---- an answer after lines that hold no record

reading-behind : (entry : LineEntry) (lines : List (ℕ × List ℕ)) (before mid : Option Contents)
    → before ≡ option_map (with_lines lines) mid
    → ((rest : Contents)
    → entry_reading_of entry (with_lines lines rest) ≡ entry_reading_of entry rest)
    → option_map (entry_reading_of entry) before ≡ option_map (entry_reading_of entry) mid
reading-behind entry lines before None front same = ap (option_map (entry_reading_of entry)) front
reading-behind entry lines before (Some contents) front same =
    ap (option_map (entry_reading_of entry)) front ∙ ap Some (same contents)

ReadsEntryAs-behind : (entry : LineEntry) (first mid last : Option Contents)
    (result : Result Entry FeedStop) → PassesBareLines entry first mid
    → ReadsEntryAs entry mid last result
    → ReadsEntryAs entry first last result
ReadsEntryAs-behind entry first mid last result passes reads =
    reading-behind entry passes.0 first mid passes.1 passes.2 ∙ reads

pub ReadsEntry-behind : (entry : LineEntry) (first mid last : Option Contents)
    (result : Result Entry FeedStop) → PassesBareLines entry first mid
    → ReadsEntry entry mid last result
    → ReadsEntry entry first last result
ReadsEntry-behind entry first mid last (Ok given) passes reads =
    ReadsEntryAs-behind entry first mid last (Ok given) passes reads
ReadsEntry-behind entry first mid last (Err (Fault number fault)) passes reads =
    ReadsEntryAs-behind entry first mid last (Err (Fault number fault)) passes reads
ReadsEntry-behind entry first mid last (Err (Read ReadFault)) passes reads =
    PassesBareLines-append entry first mid last passes reads
ReadsEntry-behind entry first mid last (Err (Read (LineTooLong number))) passes reads =
    ReadsEntryAs-behind entry first mid last (Err (Read (LineTooLong number))) passes reads
ReadsEntry-behind entry first mid last (Err (Read (InputTooLong number))) passes reads =
    ReadsEntryAs-behind entry first mid last (Err (Read (InputTooLong number))) passes reads
ReadsEntry-behind entry first mid last (Err OutOfMemory) passes reads =
    (passes.0 ++ reads.0, with_lines-append passes.0 reads.0 first mid last passes.1 reads.1)

-- ---- one line

-- a line whose entry gives this reading
line-reads : (entry : LineEntry) (number : ℕ) (content : List ℕ) (before after : Option Contents)
    (result : Result Entry FeedStop) → before ≡ option_map (with_line number content) after
    → ((contents : Contents) → entry_reading_of entry (with_line number content contents)
    ≡ record { gives = result; rest = contents })
    → ReadsEntryAs entry before after result
line-reads entry number content before None result front reads =
    ap (option_map (entry_reading_of entry)) front
line-reads entry number content before (Some contents) result front reads =
    ap (option_map (entry_reading_of entry)) front ∙ ap Some (reads contents)

-- what the content of a line is answers a call
pub Text-reads : (entry : LineEntry) (number : ℕ) (content : List ℕ)
    (before after : Option Contents)
    (result : Option (Result Entry FeedStop)) → before ≡ option_map (with_line number content) after
    → AnswersLine number (entry content) result → ReadsRecord entry before after result
Text-reads entry number content before after None front answer = (number, content, front, answer)
Text-reads entry number content before after (Some (Ok given)) front answer =
    line-reads entry number content before after (Ok given) front (λ contents. rw answer refl)
Text-reads entry number content before after (Some (Err (Fault refused fault))) front answer =
    line-reads entry number content before after (Err (Fault refused fault)) front
    (λ contents. rw (answer.1, answer.0) refl)
Text-reads entry number content before after (Some (Err (Read stop))) front answer = absurd answer
Text-reads entry number content before after (Some (Err OutOfMemory)) front answer =
    ((number, content) ∷ [], front ∙ with_line-one number content after)

-- an ending, where nothing else was left, answers a call
ending-reads : (entry : LineEntry) (ending : Result ℕ ReadStop) (before after : Option Contents)
    (result : Result Entry FeedStop) → IfSome before (λ contents. contents ≡ ended ending)
    → before ≡ after
    → entry_reading_of entry (ended ending) ≡ record { gives = result; rest = ended ending }
    → ReadsEntryAs entry before after result
ending-reads entry ending None after result is same reads =
    ap (option_map (λ (rest : Contents). record { gives = result; rest = rest })) same
ending-reads entry ending (Some contents) after result is same reads =
    ap (λ (c : Contents). Some (entry_reading_of entry c)) is ∙ ap Some reads
    ∙ ap (λ (c : Contents). Some (record { gives = result; rest = c })) (sym is)
    ∙ ap (option_map (λ (rest : Contents). record { gives = result; rest = rest })) same

pub End-reads : (entry : LineEntry) (number : ℕ) (before after : Option Contents)
    → IfSome before (λ contents. contents ≡ ended (Ok number)) → before ≡ after
    → ReadsEntryAs entry before after (Ok End)
End-reads entry number before after is same =
    ending-reads entry (Ok number) before after (Ok End) is same refl

pub Stop-reads : (entry : LineEntry) (stop : ReadStop) (before after : Option Contents)
    → IfSome before (λ contents. contents ≡ ended (Err stop)) → before ≡ after
    → ReadsEntryAs entry before after (Err (Read stop))
Stop-reads entry stop before after is same =
    ending-reads entry (Err stop) before after (Err (Read stop)) is same refl

-- ---- the contents passed

-- what the content of a line is, said of the answer
pub comes-of : (entry : LineEntry) (number : ℕ) (text : List ℕ)
    (result : Option (Result Entry FeedStop)) → AnswersLine number (entry text) result
    → ComesThere entry text result
comes-of entry number text None answer = answer
comes-of entry number text (Some (Ok (Change event))) answer = answer
comes-of entry number text (Some (Ok Ask)) answer = answer
comes-of entry number text (Some (Ok Proofs)) answer = answer
comes-of entry number text (Some (Ok End)) answer = tt
comes-of entry number text (Some (Err (Fault refused fault))) answer = answer.1
comes-of entry number text (Some (Err (Read stop))) answer = tt
comes-of entry number text (Some (Err OutOfMemory)) answer = tt

-- no line was passed yet
pub blank-none : (entry : LineEntry) (old : LineReaderView) (left : Option (List ℕ)) (ended : Bool)
    → PassesBlank entry old old left left ended ended
blank-none entry old left ended =
    ([], All-nil (λ line. entry line.1 ≡ Ok None), passes-none _ _ _ _ _ refl (λ unsaid. unsaid))

-- one more, which holds no record
pub blank-more : (entry : LineEntry) (first mid last : LineReaderView)
    (left left' left'' : Option (List ℕ)) (x y z : Bool)
    → PassesBlank entry first mid left left' x y
    → PassesTo mid last left' left'' y z ((last.position.lines, last.text) ∷ [])
    → entry last.text ≡ Ok None → PassesBlank entry first last left left'' x z
blank-more entry first mid last left left' left'' x y z front behind none = (
  front.0 ++ (last.position.lines, last.text) ∷ [],
  All-push (λ line. entry line.1 ≡ Ok None) front.0 (last.position.lines, last.text) front.1 none,
  passes-more _ _ _ _ _ _ _ _ _ front.0 ((last.position.lines, last.text) ∷ []) front.2 behind,
)

-- the answer after them
pub entry-behind : (entry : LineEntry) (first mid last : LineReaderView)
    (left left' left'' : Option (List ℕ)) (x y z : Bool) (result : Result Entry FeedStop)
    → PassesBlank entry first mid left left' x y
    → PassesTo mid last left' left'' y z (given_by (entry_answer_after last result) last.text)
    → ComesOf entry last.text result
    → PassesToEntry entry first last left left'' x z result
entry-behind entry first mid last left left' left'' x y z result front behind comes = record {
  blank = front.0;
  none = front.1;
  passes = passes-more _ _ _ _ _ _ _ _ _ front.0
      (given_by (entry_answer_after last result) last.text)
      front.2 behind;
  comes = comes;
}

-- ---- progress, and faults

-- a reader that had passed bytes before passes more
pub MovesToEntry-from : (first old new : LineReaderView) (result : Result Entry FeedStop)
    → first.position.bytes ≤ old.position.bytes → MovesToEntry old new result
    → MovesToEntry first new result
MovesToEntry-from first old new (Ok (Change event)) before moves =
    let (more, room) = moves in (omega arith, room)
MovesToEntry-from first old new (Ok Ask) before moves =
    let (more, room) = moves in (omega arith, room)
MovesToEntry-from first old new (Ok Proofs) before moves =
    let (more, room) = moves in (omega arith, room)
MovesToEntry-from first old new (Ok End) before moves = tt
MovesToEntry-from first old new (Err stop) before moves = tt
