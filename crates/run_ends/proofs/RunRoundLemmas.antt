-- A round of a feed on the way of a session: what it gives, from what was passed and what was
-- written.
use Rattle.std.proofs.Common.{◌≡◌, ℕ, Bool, List, [], ◌∷◌, ◌++◌, Option, Some, None, Result, Ok}
use Rattle.std.proofs.Common.{Err}
use Rattle.std.proofs.Common.{refl, ap, sym, ◌∙◌, subst}
use Rattle.std.specs.Prelude.{IfSome}
use Rattle.std.specs.Io.KnownBytes.{append_known, prepend_known, IsAtEnd}
use Rattle.std.proofs.lemmas.List.{append_assoc, append-nil}
use Rattle.league_core.specs.declared.season.Event.{Event}
use Rattle.port_core.specs.declared.line.ReadStop.{ReadStop}
use Rattle.port_core.specs.declared.line.ReadStop.TheVariants as stop
use Rattle.port_core.specs.Lines.{lines_of, HasNoLineFeed}
use Rattle.port_core.specs.Contents.{Contents, Position, start, number_at, ended, with_line}
use Rattle.port_core.specs.Contents.{with_lines}
use Rattle.port_core.specs.Contents.{contents_from}
use Rattle.port_core.specs.Readers.{contents_after, stream_of}
use Rattle.port_core.specs.inside.ReaderCalls.{given_by, Passes, PassesKnown}
use Rattle.port_core.proofs.ContentLemmas.{with_lines-append}
use Rattle.port_core.proofs.PassingLemmas.{passes-more}
use Rattle.result_log.specs.declared.entry.Entry.{Entry}
use Rattle.result_log.specs.declared.entry.Entry.TheVariants.{Ask, End}
use Rattle.result_log.specs.declared.fault.FeedFault.{FeedFault}
use Rattle.result_log.specs.declared.fault.FeedStop.{FeedStop}
use Rattle.result_log.specs.declared.fault.FeedStop.TheVariants as feed_stop
use Rattle.result_log.specs.inside.Calls.{entry_answer_after}
use Rattle.result_log.specs.inside.Rounds.{EndsRound, Spot}
use Rattle.answer_rows.specs.Parts.{IsMadeOf}
use Rattle.run_ends.specs.declared.status.Status.{Status}
use Rattle.run_ends.specs.declared.status.Status.TheVariants.{ReadFault, OutOfMemory}
use Rattle.run_ends.specs.declared.run_end.Cause.TheVariants as cause
use Rattle.run_ends.specs.declared.run_end.Fault.{Fault}
use Rattle.run_ends.specs.declared.run_end.RunEnd.{RunEnd}
use Rattle.run_ends.specs.declared.run_end.RunEnd.TheVariants.{Complete, Refused}
use Rattle.run_ends.specs.InputEnds.{input_fault, line_fault, outcome_at_stop}
use Rattle.run_ends.specs.Courses.{CourseOf, FeedKind, course_ended, feed_course, with_asks}
use Rattle.run_ends.specs.Texts.{IsLastText, IsRefusedAtEnd, SessionKind}
use Rattle.run_ends.specs.Runs.{Serves}
use Rattle.run_ends.specs.inside.RunTurns.{AskEnds, EndGives}
use Rattle.run_ends.specs.inside.Stops.{FaultEnds, StopEnds, stop_of_feed}
use Rattle.run_ends.specs.inside.Ways.{LeadsOn, Path}
use Rattle.run_ends.proofs.FeedCourseLemmas.{asks-joined, course-ask, course-refused, course-told}
use Rattle.run_ends.proofs.RunTextLemmas.{IsAnswered, Reached, answers-append, reached, reached-as}
use Rattle.run_ends.proofs.RunEndLemmas.{ask-serves, closed_by, end-serves, fault-serves}
use Rattle.run_ends.proofs.RunEndLemmas.{memory-serves}
use Rattle.run_ends.proofs.StopLemmas.{stop-stands}
use Rattle.run_ends.proofs.WayLemmas.{all-contents, answers-in, leads-on}
use Rattle.league_core.proofs.plain.Streams.{append_known-more}

-- ---- where a round leads

-- after lines that told events, this line was passed last, or none
pub record Onward {Play : Type 0} (kind : SessionKind Play) (input after : List ℕ)
    (told0 told' : Bool) (to : Position) (last : List (ℕ × List ℕ))
    (from : Contents → CourseOf Play) (old now : Option (List ℕ)) : Type 0 where
  pub taken : List (ℕ × List ℕ)
  pub written : List ℕ
  pub known : now ≡ append_known old written
  pub passed : Passes start input told0 to after told' (taken ++ last)
  pub way : LeadsOn kind taken written from

-- the same, where the source tells its bytes
abbrev pub OnwardKnown : {Play : Type 0} → SessionKind Play → Option (List ℕ) → Option (List ℕ)
    → Bool → Bool → Position → List (ℕ × List ℕ) → (Contents → CourseOf Play) → Option (List ℕ)
    → Option (List ℕ) → Type 0
OnwardKnown kind None after told0 told' to last from old now = Unit {0}
OnwardKnown kind (Some input) None told0 told' to last from old now = ⊥
OnwardKnown kind (Some input) (Some after) told0 told' to last from old now =
    Onward kind input after told0 told' to last from old now

module _ {Play : Type 0} (kind : SessionKind Play) where
  pub onward : (input : Option (List ℕ)) (told0 : Bool)
      (before : Option (List ℕ)) (told : Bool) (after : Option (List ℕ)) (told' : Bool)
      (from to : Position) (lines last : List (ℕ × List ℕ)) (course next : Contents → CourseOf Play)
      (old now : Option (List ℕ))
      → Path kind input told0 before told from course old now
      → PassesKnown from before told to after told' (lines ++ last)
      → ((rest : Contents) → course (with_lines lines rest) ≡ next rest)
      → OnwardKnown kind input after told0 told' to last next old now
  onward None told0 before told after told' from to lines last course next old now path passed
      leads = tt
  onward (Some input) told0 None told after told' from to lines last course next old now path
      passed leads = absurd path
  onward (Some input) told0 (Some before) told None told' from to lines last course next old now
      path passed leads = absurd passed
  onward (Some input) told0 (Some before) told (Some after) told' from to lines last course next
      old now path passed leads =
      let P : List (ℕ × List ℕ) → Type 0 = λ ls. Passes start input told0 to after told' ls in
      record {
        taken = path.0 ++ lines;
        written = path.1;
        known = path.2;
        passed = subst P (sym (append_assoc path.0 lines last))
            (passes-more start from to (Some input) (Some before) (Some after) told0 told told'
            path.0 (lines ++ last) path.3 passed);
        way = leads-on kind path.0 lines path.1 course next path.4 leads;
      }

  -- the way over lines that were passed, the last of which led on too
  pub onward-path : (input after : Option (List ℕ)) (told0 told' : Bool)
      (to : Position) (last : List (ℕ × List ℕ)) (from next : Contents → CourseOf Play)
      (old now : Option (List ℕ))
      → OnwardKnown kind input after told0 told' to last from old now
      → ((rest : Contents) → from (with_lines last rest) ≡ next rest)
      → Path kind input told0 after told' to next old now
  onward-path None after told0 told' to last from next old now on leads = tt
  onward-path (Some input) None told0 told' to last from next old now on leads = absurd on
  onward-path (Some input) (Some after) told0 told' to last from next old now on leads = (
    on.taken ++ last,
    on.written,
    on.known,
    on.passed,
    leads-on kind on.taken last on.written from next on.way leads,
  )

  module _ (told0 told' : Bool) (to : Position) (from : Contents → CourseOf Play)
      (old now0 : Option (List ℕ)) where
    -- what is reached there, said in another way
    pub onward-reached : (input after : List ℕ) (last : List (ℕ × List ℕ)) (behind : CourseOf Play)
        (on : Onward kind input after told0 told' to last from old now0)
        → from (with_lines last (contents_from to (lines_of after))) ≡ behind
        → Reached kind input on.written behind
    onward-reached input after last behind on is =
        let rest = with_lines last (contents_from to (lines_of after)) in
        reached-as kind input on.written (from rest) behind
        (reached kind input on.taken on.written from rest on.way
        (all-contents input after told0 told' to (on.taken ++ last) on.passed
        ∙ with_lines-append on.taken last (contents_from to (lines_of after))))
        is

    -- the source failed, where nothing would be asked any more if the input ended there, and no
    -- line would be refused
    fails : (input held left : List ℕ)
        → Onward kind input (held ++ left) told0 told' to [] from old now0 → HasNoLineFeed held
        → (from (ended (Ok (number_at to)))).asks ≡ []
        → IsRefusedAtEnd (number_at to) (from (ended (Ok (number_at to)))).outcome
        → Serves kind (Some input) (Some left) told' old now0 ReadFault
    fails input held left on no_feed none at_end =
        let taken = on.taken ++ [] in
        let rest = ended (Ok (number_at to)) in
        let read : kind.course (with_lines taken rest) ≡ with_asks on.way.asks (from rest) =
        ap (λ lines. kind.course (with_lines lines rest)) (append-nil on.taken)
        ∙ on.way.course rest in
        let P : List Play → Type 0 = λ asks. IsMadeOf kind.IsAnswer asks on.written in
        let same : on.way.asks ++ (from rest).asks ≡ on.way.asks =
        ap (λ more. on.way.asks ++ more) none ∙ append-nil on.way.asks in (
          on.written,
          on.known,
          (
            on.passed.lines,
            held,
            no_feed,
            on.passed.split,
            on.passed.whole,
            answers-in kind input (held ++ left) told0 told' to taken on.written
                (with_asks on.way.asks (from rest)) on.passed read
                (subst P (sym same) on.way.answers, at_end),
          ),
        )

    pub turn-fails : (input : Option (List ℕ)) (held : List ℕ) (left : Option (List ℕ))
        → OnwardKnown kind input (prepend_known held left) told0 told' to [] from old now0
        → HasNoLineFeed held → (from (ended (Ok (number_at to)))).asks ≡ []
        → IsRefusedAtEnd (number_at to) (from (ended (Ok (number_at to)))).outcome
        → Serves kind input left told' old now0 ReadFault
    turn-fails None held left on no_feed none at_end = tt
    turn-fails (Some input) held None on no_feed none at_end = absurd on
    turn-fails (Some input) held (Some left) on no_feed none at_end =
        fails input held left on no_feed none at_end

  module _ (answered : IsAnswered kind) where
    -- running out of memory, after which nothing more is known
    pub turn-starved : (input : Option (List ℕ)) (told0 : Bool)
        (before : Option (List ℕ)) (told : Bool) (from : Position)
        (course : Contents → CourseOf Play) (left : Option (List ℕ)) (told' : Bool)
        (old now : Option (List ℕ))
        → Path kind input told0 before told from course old now
        → Serves kind input left told' old now OutOfMemory
    turn-starved None told0 before told from course left told' old now path = tt
    turn-starved (Some input) told0 None told from course left told' old now path = absurd path
    turn-starved (Some input) told0 (Some before) told from course left told' old now path =
        memory-serves kind answered input path.1 left told' old now
        (course (contents_from from (lines_of before)))
        (reached kind input path.0 path.1 course (contents_from from (lines_of before)) path.4
        (all-contents input before told0 told from path.0 path.3))
        path.2

    module _ (told0 told' : Bool) (to : Position) (from : Contents → CourseOf Play)
        (old now0 : Option (List ℕ)) where
      -- a fault of the input, at the last line that was passed, or after it
      pub turn-fault : (left now1 : Option (List ℕ)) (status : Status)
          (input after : Option (List ℕ)) (last : List (ℕ × List ℕ)) (fault : Fault)
          → OnwardKnown kind input after told0 told' to last from old now0
          → IfSome (contents_after to after)
          (λ rest. from (with_lines last rest) ≡ course_ended (Refused fault))
          → FaultEnds fault now0 now1 status → Serves kind input left told' old now1 status
      turn-fault left now1 status None after last fault on is ends = tt
      turn-fault left now1 status (Some input) None last fault on is ends = absurd on
      turn-fault left now1 status (Some input) (Some after) last fault on is ends =
          fault-serves kind answered input on.written left told' old now0 now1 fault status
          (onward-reached told0 told' to from old now0 input after last
          (course_ended (Refused fault)) on is) on.known ends

      -- the end of the input, which has this answered, if something
      pub turn-end : (closing : Option Play)
          → from (contents_from to (lines_of [])) ≡ closed_by closing
          → (input : Option (List ℕ)) (held : List ℕ) (left now1 : Option (List ℕ))
          (status : Status)
          → OnwardKnown kind input (prepend_known held left) told0 told' to [] from old now0
          → held ≡ [] → IsAtEnd left
          → EndGives (IsLastText kind.IsClosing Complete closing) now0 now1 status
          → Serves kind input left told' old now1 status
      turn-end closing is None held left now1 status on none at_end gives = tt
      turn-end closing is (Some input) held None now1 status on none at_end gives = absurd on
      turn-end closing is (Some input) held (Some left) now1 status on none at_end gives =
          let nothing : held ++ left ≡ [] = ap (λ h. h ++ left) none ∙ at_end in
          end-serves kind answered input on.written (Some left) told' old now0 now1 closing
          (onward-reached told0 told' to from old now0 input (held ++ left) []
          (closed_by closing) on
          (ap (λ bytes. from (contents_from to (lines_of bytes))) nothing ∙ is))
          on.known status (ap Some at_end) gives

-- ---- an ask

module _ {Play : Type 0} (kind : SessionKind Play) (feed : FeedKind Play)
    (behind : List Event → Contents → CourseOf Play) where
  -- a line that asks, and what its asks have answered
  leads-asks : (taken : List (ℕ × List ℕ)) (number : ℕ) (text written answer : List ℕ)
      (log : List Event) → LeadsOn kind taken written (feed_course feed behind log)
      → feed.line log text ≡ Ok (Some Ask) → IsMadeOf kind.IsAnswer (feed.asks log text) answer
      → LeadsOn kind (taken ++ (number, text) ∷ []) (written ++ answer)
      (feed_course feed behind log)
  leads-asks taken number text written answer log way is answer_it =
      let asks = feed.asks log text in
      record {
        asks = way.asks ++ asks;
        answers = answers-append kind.IsAnswer way.asks asks written answer way.answers answer_it;
        course = λ rest. ap kind.course (with_lines-append taken ((number, text) ∷ []) rest)
            ∙ way.course (with_line number text rest)
            ∙ ap (with_asks way.asks) (course-ask feed behind log number text rest is)
            ∙ asks-joined way.asks asks (feed_course feed behind log rest);
      }

  module _ (answered : IsAnswered kind) (told0 told' : Bool) (to : Position) (log : List Event)
      (old now0 : Option (List ℕ)) (number : ℕ) (text : List ℕ) (IsAnswer : List ℕ → Type 0)
      (left now1 : Option (List ℕ)) (is : feed.line log text ≡ Ok (Some Ask))
      (are : (answer : List ℕ) → IsAnswer answer
      → IsMadeOf kind.IsAnswer (feed.asks log text) answer) where
    -- its answer is written, and the way goes on
    pub ask-path : (input after : Option (List ℕ)) (answer : List ℕ)
        → OnwardKnown kind input after told0 told' to ((number, text) ∷ [])
        (feed_course feed behind log) old now0
        → IsAnswer answer → now1 ≡ append_known now0 answer
        → Path kind input told0 after told' to (feed_course feed behind log) old now1
    ask-path None after answer on answers puts = tt
    ask-path (Some input) None answer on answers puts = absurd on
    ask-path (Some input) (Some after) answer on answers puts = (
      on.taken ++ (number, text) ∷ [],
      on.written ++ answer,
      append_known-more old now0 now1 on.written answer on.known puts,
      on.passed,
      leads-asks on.taken number text on.written answer log on.way is (are answer answers),
    )

    -- or the run ends
    pub ask-ends : (input after : Option (List ℕ)) (status : Status)
        → OnwardKnown kind input after told0 told' to ((number, text) ∷ [])
        (feed_course feed behind log) old now0
        → AskEnds IsAnswer now0 now1 status → Serves kind input left told' old now1 status
    ask-ends None after status on gives = tt
    ask-ends (Some input) None status on gives = absurd on
    ask-ends (Some input) (Some after) status on gives =
        let rest = contents_from to (lines_of after) in
        let course = feed_course feed behind log rest in
        let asks = feed.asks log text in
        ask-serves kind answered input on.written IsAnswer asks course left told' old now0 now1 are
        (onward-reached kind told0 told' to (feed_course feed behind log) old now0 input after
        ((number, text) ∷ []) (with_asks asks course) on
        (course-ask feed behind log number text rest is))
        on.known status gives

-- ---- a round that is over

module _ {Play : Type 0} (kind : SessionKind Play) (answered : IsAnswered kind)
    (feed : FeedKind Play) (behind : List Event → Contents → CourseOf Play)
    (input : Option (List ℕ)) (told0 : Bool) (log log' : List Event) (from to : Spot)
    (old now0 : Option (List ℕ))
    (path : Path kind input told0 (stream_of from.reader from.left) from.ended
    from.reader.position (feed_course feed behind log) old now0) where
  -- a session that ends like this
  pub serves-as : (status other : Status) (now1 : Option (List ℕ)) → status ≡ other → now1 ≡ now0
      → Serves kind input to.left to.ended old now0 other
      → Serves kind input to.left to.ended old now1 status
  serves-as status other now1 is same serves =
      let P : Status → Type 0 = λ s. Serves kind input to.left to.ended old now1 s in
      let Q : Option (List ℕ) → Type 0 =
      λ now. Serves kind input to.left to.ended old now other in
      subst P (sym is) (subst Q (sym same) serves)

  -- where it leads
  pub ends-onward : (close : Result Entry FeedStop)
      → EndsRound feed.line log log' from to close
      → OnwardKnown kind input (stream_of to.reader to.left) told0 to.ended to.reader.position
      (given_by (entry_answer_after to.reader close) to.reader.text)
      (feed_course feed behind log') old now0
  ends-onward close ends =
      onward kind input told0 (stream_of from.reader from.left) from.ended
      (stream_of to.reader to.left) to.ended from.reader.position to.reader.position ends.lines
      (given_by (entry_answer_after to.reader close) to.reader.text) (feed_course feed behind log)
      (feed_course feed behind log') old now0 path ends.passes
      (λ rest. course-told feed behind log log' ends.lines rest ends.tells)

  -- by the end of the input, which has this answered, if something
  pub round-end : (closing : Option Play) (now1 : Option (List ℕ)) (status : Status)
      → EndsRound feed.line log log' from to (Ok End)
      → feed.ending (number_at to.reader.position) log' ≡ closed_by closing
      → EndGives (IsLastText kind.IsClosing Complete closing) now0 now1 status
      → Serves kind input to.left to.ended old now1 status
  round-end closing now1 status ends is gives =
      turn-end kind answered told0 to.ended to.reader.position (feed_course feed behind log') old
      now0 closing is input to.reader.held to.left now1 status (ends-onward (Ok End) ends)
      ends.leaves.1 ends.leaves.2 gives

  -- by a fault of the input
  round-fault : (fault : Fault) (close : Result Entry FeedStop) (now1 : Option (List ℕ))
      (status : Status) → EndsRound feed.line log log' from to close
      → IfSome (contents_after to.reader.position (stream_of to.reader to.left)) (λ rest.
      feed_course feed behind log' (with_lines (given_by (entry_answer_after to.reader close)
      to.reader.text) rest) ≡ course_ended (Refused fault))
      → FaultEnds fault now0 now1 status → Serves kind input to.left to.ended old now1 status
  round-fault fault close now1 status ends is stops =
      turn-fault kind answered told0 to.ended to.reader.position (feed_course feed behind log') old
      now0 to.left now1 status input (stream_of to.reader to.left)
      (given_by (entry_answer_after to.reader close) to.reader.text) fault
      (ends-onward close ends) is stops

  -- a stop in hand ends the course there
  stopped-there : (rest : Option Contents) (stop : ReadStop) (fault : Fault)
      → IfSome rest (λ contents. contents ≡ ended (Err stop))
      → outcome_at_stop stop ≡ Refused fault
      → IfSome rest (λ contents.
      feed_course feed behind log' contents ≡ course_ended (Refused fault))
  stopped-there None stop fault there is = tt
  stopped-there (Some contents) stop fault there is =
      let P : RunEnd → CourseOf Play = λ outcome. course_ended outcome in
      ap (feed_course feed behind log') there ∙ ap P is

  -- a refused line ends it
  refused-there : (rest : Option Contents) (number : ℕ) (text : List ℕ) (fault : FeedFault)
      → feed.line log' text ≡ Err fault
      → IfSome rest (λ contents. feed_course feed behind log' (with_line number text contents)
      ≡ course_ended (Refused (record { number = number; cause = cause.Feed fault })))
  refused-there None number text fault is = tt
  refused-there (Some contents) number text fault is =
      course-refused feed behind log' number text contents fault is

  -- by a stop of the feed: a refused line, a line or an input that is too long, a fault of the
  -- source, or running out of memory
  pub round-stop : ((number : ℕ) → (feed.ending number log').asks ≡ [])
      → ((number : ℕ) → IsRefusedAtEnd number (feed.ending number log').outcome)
      → (stop : FeedStop) (now1 : Option (List ℕ)) (status : Status)
      → EndsRound feed.line log log' from to (Err stop)
      → StopEnds (stop_of_feed stop) now0 now1 status
      → Serves kind input to.left to.ended old now1 status
  round-stop none at_end (feed_stop.Fault number fault) now1 status ends stops =
      round-fault (record { number = number; cause = cause.Feed fault })
      (Err (feed_stop.Fault number fault)) now1 status ends
      (refused-there (contents_after to.reader.position (stream_of to.reader to.left)) number
      to.reader.text fault ends.comes)
      stops
  round-stop none at_end (feed_stop.Read stop.ReadFault) now1 status ends stops =
      let number = number_at to.reader.position in
      serves-as status ReadFault now1 stops.0 stops.1
      (turn-fails kind told0 to.ended to.reader.position (feed_course feed behind log') old now0
      input to.reader.held to.left (ends-onward (Err (feed_stop.Read stop.ReadFault)) ends)
      ends.leaves.0 (none number) (at_end number))
  round-stop none at_end (feed_stop.Read (stop.LineTooLong number)) now1 status ends stops =
      round-fault (line_fault number) (Err (feed_stop.Read (stop.LineTooLong number))) now1 status
      ends
      (stopped-there (contents_after to.reader.position (stream_of to.reader to.left))
      (stop.LineTooLong number) (line_fault number)
      (stop-stands to.reader.position to.reader.held to.left (stop.LineTooLong number)
      ends.leaves) refl)
      stops
  round-stop none at_end (feed_stop.Read (stop.InputTooLong number)) now1 status ends stops =
      round-fault (input_fault number) (Err (feed_stop.Read (stop.InputTooLong number))) now1
      status ends
      (stopped-there (contents_after to.reader.position (stream_of to.reader to.left))
      (stop.InputTooLong number) (input_fault number)
      (stop-stands to.reader.position to.reader.held to.left (stop.InputTooLong number)
      ends.leaves) refl)
      stops
  round-stop none at_end feed_stop.OutOfMemory now1 status ends stops =
      serves-as status OutOfMemory now1 stops.0 stops.1
      (turn-starved kind answered input told0 (stream_of from.reader from.left) from.ended
      from.reader.position (feed_course feed behind log) to.left to.ended old now0 path)
