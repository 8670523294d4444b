-- What a wait for the line that is due leads to, whatever came of it.
use Rattle.std.proofs.Common.{◌≡◌, ℕ, ◌+◌, ◌<◌, ◌≤◌, ◌||◌, ◌&&◌, Bool, true, List, [], ◌∷◌, ◌++◌}
use Rattle.std.proofs.Common.{length, Option, Some, None, is_some, not, Result, Ok, Err, refl, ap}
use Rattle.std.proofs.Common.{sym, ◌∙◌, subst, inl, inr, arith, length-append}
use Rattle.std.specs.Prelude.{◌⊎◌}
use Rattle.std.specs.Io.KnownBytes.{prepend_known}
use Rattle.std.proofs.lemmas.Option.{none-some}
use Rattle.port_core.specs.declared.line.Line.{Line}
use Rattle.port_core.specs.declared.line.Line.TheVariants.{Text, End}
use Rattle.port_core.specs.declared.line.ReadStop.{ReadStop}
use Rattle.port_core.specs.declared.line.ReadStop.TheVariants.{ReadFault, LineTooLong, InputTooLong}
use Rattle.port_core.specs.declared.buffer.Due.{Due}
use Rattle.port_core.specs.declared.buffer.Due.TheVariants.{Ended, Open, Failed, Stuck, Full}
use Rattle.port_core.specs.Lines.{lines_of, text_of_line, HasNoLineFeed}
use Rattle.port_core.specs.inside.Buffers.{CountsDue, EndSeen, LastFill, StopsReading}
use Rattle.port_core.specs.Contents.{Position, position_after, number_at, content_at, is_skipped}
use Rattle.port_core.specs.Contents.{stop_due, is_whole, has_answer}
use Rattle.port_core.specs.Readers.{LineReaderView, HasAnswer, stream_of, contents_after}
use Rattle.port_core.specs.Readers.{contents_to_come, bytes_taken, TakesInput}
use Rattle.port_core.specs.inside.ReaderCalls.{HasStop, LineGives, LeavesAfter, LineMovesOn}
use Rattle.port_core.specs.inside.ReaderCalls.{KeepsAnswer, AnswersStop, PassesTo, given_there}
use Rattle.port_core.specs.inside.ReaderCalls.{LastRead, ReadsInNeed, LineStopsReading}
use Rattle.port_core.specs.inside.ReaderCalls.{StopsAtAnswer, Stops, EndsWait, Waits, most_held}
use Rattle.port_core.proofs.StopLemmas.{stop-held, stop-overlong, stop-full, stop-open}
use Rattle.port_core.proofs.AnswerLemmas.{Ended-gives, Ended-leaves, Open-gives, Open-leaves}
use Rattle.port_core.proofs.AnswerLemmas.{stop-gives}
use Rattle.port_core.proofs.HandLemmas.{Ended-keeps, Ended-stops, KeepsAnswer-none, no_answer-open}
use Rattle.port_core.proofs.HandLemmas.{none-answers, stop-answers}
use Rattle.port_core.proofs.TakingLemmas.{Ended-moves, LeavesAfter-at, LineMovesOn-at, Open-moves}
use Rattle.port_core.proofs.TakingLemmas.{TakesInput-more}
use Rattle.port_core.proofs.PassingLemmas.{Ended-passes, Open-passes, passes-before, passes-stays}
use Rattle.league_core.proofs.plain.Streams.{prepend-prepend}

-- ---- what the bytes in hand show

-- the bytes in hand are within the input's limit if fewer are than may be
within : (old mid : LineReaderView) (left left' : Option (List ℕ)) (due : Due)
    → Waits old mid left left' due
    → length mid.held < most_held mid → mid.position.bytes + length mid.held ≤ 67108864
within old mid left left' due waits fewer =
    omega (arith, fewer, waits.inside, ap (λ p. p.bytes) waits.position)

-- the line in hand that is too long stops the input, whatever follows
stuck-stop : (old mid : LineReaderView) (left left' : Option (List ℕ)) (rest : List ℕ)
    → Waits old mid left left' Stuck
    → stop_due mid.position (lines_of (mid.held ++ rest))
    ≡ Some (LineTooLong (number_at mid.position))
stuck-stop old mid left left' rest waits =
    stop-overlong mid.position mid.held rest waits.end (omega (arith, waits.within))

-- the most bytes in hand stop the input, whatever follows
full-stop : (old mid : LineReaderView) (left left' : Option (List ℕ)) (rest : List ℕ)
    → Waits old mid left left' Full
    → stop_due mid.position (lines_of (mid.held ++ rest))
    ≡ Some (InputTooLong (number_at mid.position))
full-stop old mid left left' rest waits =
    stop-full mid.position mid.held rest waits.end.0
    (omega (arith, waits.inside, ap (λ p. p.bytes) waits.position))
    (omega (arith, waits.end.1, waits.inside, ap (λ p. p.bytes) waits.position))

-- ---- the answer, and where the reader is left

-- what was to come before the wait
before-is : (old mid : LineReaderView) (left left' : Option (List ℕ)) (due : Due)
    → Waits old mid left left' due
    → contents_to_come old left ≡ contents_after mid.position (stream_of old left)
before-is old mid left left' due waits =
    ap (λ p. contents_after p (stream_of old left)) (sym waits.position)

pub wait-gives : (old mid new : LineReaderView) (left left' : Option (List ℕ)) (due : Due)
    (result : Option (Result Line ReadStop)) → Waits old mid left left' due
    → EndsWait mid new due result
    → LineGives (contents_to_come old left) (contents_to_come new left') new.text result
wait-gives old mid new left left' (Ended at) result waits ends =
    Ended-gives _ _ left' mid new at result (before-is old mid left left' (Ended at) waits)
    waits.stream waits.end ends
wait-gives old mid new left left' Open result waits ends =
    Open-gives _ _ left' mid new result (before-is old mid left left' Open waits) waits.stream
    waits.end.0 waits.end.1 (within old mid left left' Open waits waits.end.2) ends
wait-gives old mid new left left' Failed result waits ends =
    subst (LineGives (contents_to_come old left) (contents_to_come new left') new.text)
    (sym ends.0) (before-is old mid left left' Failed waits
    ∙ ap (contents_after mid.position) waits.stream
    ∙ ap (λ r. contents_to_come r left') (sym ends.1))
wait-gives old mid new left left' Stuck result waits ends =
    stop-gives _ _ left' mid new _ result (before-is old mid left left' Stuck waits) waits.stream
    (λ rest. stuck-stop old mid left left' rest waits) ends
wait-gives old mid new left left' Full result waits ends =
    stop-gives _ _ left' mid new _ result (before-is old mid left left' Full waits) waits.stream
    (λ rest. full-stop old mid left left' rest waits) ends

-- a stop in hand leaves the reader with it
stop-leaves : (old mid new : LineReaderView) (left' : Option (List ℕ)) (stop : ReadStop)
    (result : Option (Result Line ReadStop)) → HasStop mid stop → Stops mid new stop result
    → (HasStop new stop → LeavesAfter old new left' (Some (Err stop)))
    → LeavesAfter old new left' result
stop-leaves old mid new left' stop result has stops leaves =
    subst (LeavesAfter old new left') (sym stops.0)
    (leaves (subst (λ r. HasStop r stop) (sym stops.1) has))

pub wait-leaves : (old mid new : LineReaderView) (left left' : Option (List ℕ)) (due : Due)
    (result : Option (Result Line ReadStop)) → Waits old mid left left' due
    → EndsWait mid new due result → LeavesAfter old new left' result
wait-leaves old mid new left left' (Ended at) result waits ends =
    LeavesAfter-at mid old new left' result (sym waits.position)
    (Ended-leaves mid new left' at result waits.end ends)
wait-leaves old mid new left left' Open result waits ends =
    LeavesAfter-at mid old new left' result (sym waits.position)
    (Open-leaves mid new left' result waits.end.0 waits.end.1 ends)
wait-leaves old mid new left left' Failed result waits ends =
    let P : LineReaderView → Type 0 = λ r. HasNoLineFeed r.held × (length r.held ≤ 1024)
    × (bytes_taken r ≤ 67108864) in
    subst (LeavesAfter old new left') (sym ends.0) (subst P (sym ends.1) (
      waits.end.0.0,
      waits.end.0.1,
      within old mid left left' Failed waits waits.end.1,
    ))
wait-leaves old mid new left left' Stuck result waits ends =
    stop-leaves old mid new left' _ result
    (stop-held mid.position mid.held _ (λ rest. stuck-stop old mid left left' rest waits)) ends
    (λ has. has)
wait-leaves old mid new left left' Full result waits ends =
    stop-leaves old mid new left' _ result
    (stop-held mid.position mid.held _ (λ rest. full-stop old mid left left' rest waits)) ends
    (λ has. has)

pub wait-moves : (old mid new : LineReaderView) (left left' : Option (List ℕ)) (due : Due)
    (result : Option (Result Line ReadStop)) → Waits old mid left left' due
    → EndsWait mid new due result → LineMovesOn old new result
wait-moves old mid new left left' (Ended at) result waits ends =
    LineMovesOn-at mid old new result (sym waits.position) (Ended-moves mid new at result ends)
wait-moves old mid new left left' Open result waits ends =
    LineMovesOn-at mid old new result (sym waits.position)
    (Open-moves mid new result (within old mid left left' Open waits waits.end.2) ends)
wait-moves old mid new left left' Failed result waits ends =
    subst (LineMovesOn old new) (sym ends.0) tt
wait-moves old mid new left left' Stuck result waits ends =
    subst (LineMovesOn old new) (sym ends.0) tt
wait-moves old mid new left left' Full result waits ends =
    subst (LineMovesOn old new) (sym ends.0) tt

-- ---- an answer or a stop that was in hand

-- a stop in hand is an answer in hand
stop-answer : (position : Position) (lines : List (List ℕ)) (stop : ReadStop)
    → stop_due position lines ≡ Some stop → has_answer position lines ≡ true
stop-answer position [] stop is = absurd (none-some stop is)
stop-answer position (line ∷ lines) stop is =
    ap (λ found. is_some found || is_whole line
    && (not (is_skipped (content_at position (text_of_line line)))
    || has_answer (position_after position (length line)) lines)) is

stays : (old mid : LineReaderView) (left left' : Option (List ℕ)) (due : Due)
    → Waits old mid left left' due
    → (stop : ReadStop) → HasStop old stop → mid ≡ old
stays old mid left left' due waits stop has =
    waits.ready (stop-answer old.position (lines_of old.held) stop has)

pub wait-keeps : (old mid new : LineReaderView) (left left' : Option (List ℕ)) (due : Due)
    (result : Option (Result Line ReadStop)) → Waits old mid left left' due
    → EndsWait mid new due result → KeepsAnswer old new result
wait-keeps old mid new left left' (Ended at) result waits ends =
    Ended-keeps old mid new at result waits.end ends waits.ready
wait-keeps old mid new left left' Open result waits ends =
    KeepsAnswer-none old new result (λ has. no_answer-open mid waits.end.0
    (within old mid left left' Open waits waits.end.2)
    (subst HasAnswer (sym (waits.ready has)) has))
wait-keeps old mid new left left' Failed result waits ends =
    subst (KeepsAnswer old new) (sym ends.0) tt
wait-keeps old mid new left left' Stuck result waits ends =
    subst (KeepsAnswer old new) (sym ends.0) tt
wait-keeps old mid new left left' Full result waits ends =
    subst (KeepsAnswer old new) (sym ends.0) tt

pub wait-stopped : (old mid new : LineReaderView) (left left' : Option (List ℕ)) (due : Due)
    (result : Option (Result Line ReadStop)) → Waits old mid left left' due
    → EndsWait mid new due result → AnswersStop old new result
wait-stopped old mid new left left' (Ended at) result waits ends =
    Ended-stops old mid new at result waits.end ends (stays old mid left left' (Ended at) waits)
wait-stopped old mid new left left' Open result waits ends =
    none-answers old mid new result (stays old mid left left' Open waits)
    (stop-open mid.position mid.held waits.end.0.1
    (within old mid left left' Open waits waits.end.2))
wait-stopped old mid new left left' Failed result waits ends =
    none-answers old mid new result (stays old mid left left' Failed waits)
    (stop-open mid.position mid.held waits.end.0.1
    (within old mid left left' Failed waits waits.end.1))
wait-stopped old mid new left left' Stuck result waits ends =
    stop-answers old mid new result _ (stays old mid left left' Stuck waits)
    (stop-held mid.position mid.held _ (λ rest. stuck-stop old mid left left' rest waits)) ends
wait-stopped old mid new left left' Full result waits ends =
    stop-answers old mid new result _ (stays old mid left left' Full waits)
    (stop-held mid.position mid.held _ (λ rest. full-stop old mid left left' rest waits)) ends

-- ---- the faults counted

-- a line that was passed over left the count as it was
pub none-counts : (mid new : LineReaderView) (before now : ℕ) (due : Due)
    → EndsWait mid new due None → CountsDue before now due → now ≡ before
none-counts mid new before now (Ended at) ends counts = counts
none-counts mid new before now Open ends counts = counts
none-counts mid new before now Failed ends counts = absurd (none-some (Err ReadFault) ends.0)
none-counts mid new before now Stuck ends counts = counts
none-counts mid new before now Full ends counts = counts

-- ---- the lines passed

passes-there : (mid new : LineReaderView) (left' : Option (List ℕ)) (ended ended' : Bool)
    (due : Due)
    (result : Option (Result Line ReadStop)) (old : LineReaderView) (left : Option (List ℕ))
    → Waits old mid left left' due → EndsWait mid new due result → EndSeen ended ended' due
    → PassesTo mid new left' left' ended ended' (given_there result new.text)
passes-there mid new left' ended ended' (Ended at) result old left waits ends told =
    Ended-passes mid new left' ended ended' at result waits.end ends told
passes-there mid new left' ended ended' Open result old left waits ends told =
    Open-passes mid new left' ended ended' result waits.end.0 waits.end.1
    (within old mid left left' Open waits waits.end.2) ends told
passes-there mid new left' ended ended' Failed result old left waits ends told =
    passes-stays mid new left' ended ended' result _ refl ends told
passes-there mid new left' ended ended' Stuck result old left waits ends told =
    passes-stays mid new left' ended ended' result _ refl ends told
passes-there mid new left' ended ended' Full result old left waits ends told =
    passes-stays mid new left' ended ended' result _ refl ends told

pub wait-passes : (old mid new : LineReaderView) (left left' : Option (List ℕ))
    (ended ended' : Bool)
    (due : Due) (result : Option (Result Line ReadStop)) → Waits old mid left left' due
    → EndsWait mid new due result → EndSeen ended ended' due
    → PassesTo old new left left' ended ended' (given_there result new.text)
wait-passes old mid new left left' ended ended' due result waits ends told =
    passes-before old mid new left left' ended ended' _ waits.position waits.stream
    (passes-there mid new left' ended ended' due result old left waits ends told)

-- ---- the last read

LastRead-fill : {S : Type 0} (left : S → Option (List ℕ)) (reads : S → List ℕ → S → Type 0)
    (old mid new : LineReaderView) (before after : S) (due : Due)
    → Waits old mid (left before) (left after) due → bytes_taken new ≡ bytes_taken mid
    → LastFill left reads (most_held old) old.held mid.held before after
    → LastRead left reads old new before after
LastRead-fill left reads old mid new before after due waits count fill =
    let reader : LineReaderView = record {
      held = fill.seen;
      text = old.text;
      position =
          old.position;
    } in
    let inside : old.position.bytes + length fill.seen ≤ 67108864 =
    omega (arith, fill.room, waits.inside) in
    let bytes = fill.takes.0 in
    record {
      reader = reader;
      source = fill.source;
      last = fill.last;
      same = ap (contents_after old.position) (ap (prepend_known old.held) fill.takes.2
          ∙ prepend-prepend old.held bytes (left fill.source)
          ∙ ap (λ h. prepend_known h (left fill.source)) (sym fill.takes.1));
      front = (
        bytes,
        fill.takes.2,
        omega (arith, ap length fill.takes.1, length-append old.held bytes),
      );
      unanswered = no_answer-open reader fill.partial inside;
      read = fill.read;
      stream = fill.stream;
      count = omega (
        arith,
        count,
        ap length fill.whole,
        length-append fill.seen fill.last,
        ap (λ p. p.bytes) waits.position,
      );
    }

need-fill : {S : Type 0} (left : S → Option (List ℕ)) (reads : S → List ℕ → S → Type 0)
    (old mid new : LineReaderView) (before after : S) (due : Due)
    → Waits old mid (left before) (left after) due → bytes_taken new ≡ bytes_taken mid
    → ((after ≡ before) × (mid.held ≡ old.held))
    ⊎ LastFill left reads (most_held old) old.held mid.held before after
    → ReadsInNeed left reads old new before after
need-fill left reads old mid new before after due waits count last =
    elim last [
      | inl none ↦ inl (
        none.0,
        omega (
          arith,
          count,
          ap length none.1,
          ap (λ p. p.bytes) waits.position,
        ),
      )
      | inr fill ↦ inr (LastRead-fill left reads old mid new before after due waits count fill)
    ]

stops-by : {S : Type 0} (left : S → Option (List ℕ)) (reads : S → List ℕ → S → Type 0)
    (old new : LineReaderView) (before after : S) (result : Option (Result Line ReadStop))
    → ReadsInNeed left reads old new before after
    → LineStopsReading left reads old new before after result
stops-by left reads old new before after None need = need
stops-by left reads old new before after (Some (Ok (Text number))) need = need
stops-by left reads old new before after (Some (Ok (End number))) need = need
stops-by left reads old new before after (Some (Err ReadFault)) need = tt
stops-by left reads old new before after (Some (Err (LineTooLong number))) need = need
stops-by left reads old new before after (Some (Err (InputTooLong number))) need = need

pub wait-last : {S : Type 0} (left : S → Option (List ℕ)) (reads : S → List ℕ → S → Type 0)
    (old mid new : LineReaderView) (before after : S) (due : Due)
    (result : Option (Result Line ReadStop)) → Waits old mid (left before) (left after) due
    → EndsWait mid new due result → bytes_taken new ≡ bytes_taken mid
    → StopsReading left reads (most_held old) old.held mid.held before after due
    → LineStopsReading left reads old new before after result
wait-last left reads old mid new before after (Ended at) result waits ends count last =
    stops-by left reads old new before after result
    (need-fill left reads old mid new before after (Ended at) waits count last)
wait-last left reads old mid new before after Open result waits ends count last =
    stops-by left reads old new before after result
    (need-fill left reads old mid new before after Open waits count last)
wait-last left reads old mid new before after Failed result waits ends count last =
    subst (LineStopsReading left reads old new before after) (sym ends.0) tt
wait-last left reads old mid new before after Stuck result waits ends count last =
    stops-by left reads old new before after result
    (need-fill left reads old mid new before after Stuck waits count last)
wait-last left reads old mid new before after Full result waits ends count last =
    stops-by left reads old new before after result
    (need-fill left reads old mid new before after Full waits count last)

-- lines that were passed before count as taken before the last read
pub need-more : {S : Type 0} (left : S → Option (List ℕ)) (reads : S → List ℕ → S → Type 0)
    (a b c : LineReaderView) (first second third : S)
    → contents_to_come a (left first) ≡ contents_to_come b (left second)
    → TakesInput a b (left first) (left second)
    → ReadsInNeed left reads a b first second → ReadsInNeed left reads b c second third
    → ReadsInNeed left reads a c first third
need-more left reads a b c first second third same takes one two =
    elim two [
      | inr more ↦ inr (record {
        reader = more.reader;
        source = more.source;
        last = more.last;
        same = same ∙ more.same;
        front = TakesInput-more a b more.reader _ _ _ takes more.front;
        unanswered = more.unanswered;
        read = more.read;
        stream = more.stream;
        count = more.count;
      })
      | inl none ↦ elim one [
        | inl nothing ↦ inl (none.0 ∙ nothing.0, none.1 ∙ nothing.1)
        | inr last ↦ inr (record {
          reader = last.reader;
          source = last.source;
          last = last.last;
          same = last.same;
          front = last.front;
          unanswered = last.unanswered;
          read = subst (reads last.source last.last) (sym none.0) last.read;
          stream = last.stream ∙ ap (λ s. prepend_known last.last (left s)) (sym none.0);
          count = none.1 ∙ last.count;
        })
      ]
    ]

-- the same of an answer
pub stops-more : {S : Type 0} (left : S → Option (List ℕ)) (reads : S → List ℕ → S → Type 0)
    (a b c : LineReaderView) (first second third : S) (result : Result Line ReadStop)
    → contents_to_come a (left first) ≡ contents_to_come b (left second)
    → TakesInput a b (left first) (left second)
    → ReadsInNeed left reads a b first second
    → StopsAtAnswer left reads b c second third result
    → StopsAtAnswer left reads a c first third result
stops-more left reads a b c first second third (Ok (Text number)) same takes one two =
    need-more left reads a b c first second third same takes one two
stops-more left reads a b c first second third (Ok (End number)) same takes one two =
    need-more left reads a b c first second third same takes one two
stops-more left reads a b c first second third (Err ReadFault) same takes one two = tt
stops-more left reads a b c first second third (Err (LineTooLong number)) same takes one two =
    need-more left reads a b c first second third same takes one two
stops-more left reads a b c first second third (Err (InputTooLong number)) same takes one two =
    need-more left reads a b c first second third same takes one two
