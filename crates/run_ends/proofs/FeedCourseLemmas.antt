-- Courses line by line: lines that tell events, an ask, a refused line, the record `proofs`.
use Rattle.std.proofs.Common.{◌≡◌, ℕ, List, [], ◌∷◌, ◌++◌, Option, Some, None, Result, Ok, Err, ap}
use Rattle.std.proofs.Common.{sym}
use Rattle.std.proofs.lemmas.List.{append_assoc}
use Rattle.league_core.specs.declared.season.Event.{Event}
use Rattle.port_core.specs.declared.line.ReadStop.{ReadStop}
use Rattle.port_core.specs.Contents.{Contents, with_line, with_lines}
use Rattle.result_log.specs.declared.entry.Entry.{Entry}
use Rattle.result_log.specs.declared.entry.Entry.TheVariants.{Change, Ask, Proofs, End}
use Rattle.result_log.specs.declared.fault.FeedFault.{FeedFault}
use Rattle.result_log.specs.inside.Rounds.{ReadsEvents, read_on}
use Rattle.run_ends.specs.declared.run_end.Cause.TheVariants as cause
use Rattle.run_ends.specs.declared.run_end.RunEnd.TheVariants.{Refused}
use Rattle.run_ends.specs.Courses.{CourseOf, FeedKind, course_by, course_ended, course_in}
use Rattle.run_ends.specs.Courses.{feed_course, with_asks}

-- more asks after the first ones
pub asks-joined : {Play : Type 0} (asks others : List Play) (course : CourseOf Play)
    → with_asks asks (with_asks others course) ≡ with_asks (asks ++ others) course
asks-joined {Play} asks others course =
    let P : List Play → CourseOf Play =
    λ all. record { asks = all; outcome = course.outcome; closing = course.closing } in
    ap P (sym (append_assoc asks others course.asks))

-- the course after a line that tells an event, or holds no record, is that of what comes after it
told-course : {Play : Type 0} (kind : FeedKind Play) (log : List Event) (line : ℕ × List ℕ)
    (proofs after : List Event → CourseOf Play) (onward : List Event → Type 0)
    (whole : CourseOf Play) → ((next : List Event) → onward next → after next ≡ whole)
    → (found : Result (Option Entry) FeedFault) → read_on found onward log
    → course_by kind line proofs after log found ≡ whole
told-course kind log line proofs after onward whole behind (Ok None) told = behind log told
told-course kind log line proofs after onward whole behind (Ok (Some (Change event))) told =
    behind _ told
told-course kind log line proofs after onward whole behind (Ok (Some Ask)) told = absurd told
told-course kind log line proofs after onward whole behind (Ok (Some Proofs)) told = absurd told
told-course kind log line proofs after onward whole behind (Ok (Some End)) told = absurd told
told-course kind log line proofs after onward whole behind (Err fault) told = absurd told

module _ {Play : Type 0} (kind : FeedKind Play) (behind : List Event → Contents → CourseOf Play)
  where
    -- so is that after all lines of a round
    tells-course : (log log' : List Event) (lines more : List (ℕ × List ℕ))
        (ending : Result ℕ ReadStop) → ReadsEvents kind.line log lines log'
        → course_in kind behind (lines ++ more) ending log
        ≡ course_in kind behind more ending log'
    tells-course log log' [] more ending told = ap (course_in kind behind more ending) (sym told)
    tells-course log log' (line ∷ lines) more ending told =
        told-course kind log line
        (λ next. behind next (record { lines = lines ++ more; ending = ending }))
        (course_in kind behind (lines ++ more) ending)
        (λ next. ReadsEvents kind.line next lines log')
        (course_in kind behind more ending log')
        (λ next telling. tells-course next log' lines more ending telling)
        (kind.line log line.1) told

    pub course-told : (log log' : List Event) (lines : List (ℕ × List ℕ)) (rest : Contents)
        → ReadsEvents kind.line log lines log'
        → feed_course kind behind log (with_lines lines rest) ≡ feed_course kind behind log' rest
    course-told log log' lines rest told = tells-course log log' lines rest.lines rest.ending told

    module _ (log : List Event) (number : ℕ) (text : List ℕ) (rest : Contents) where
      -- the course from a line on is what the line makes of the course after it
      course-line : (found : Result (Option Entry) FeedFault) → kind.line log text ≡ found
          → feed_course kind behind log (with_line number text rest)
          ≡ course_by kind (number, text) (λ next. behind next rest)
          (λ next. feed_course kind behind next rest) log found
      course-line found is =
          ap (course_by kind (number, text) (λ next. behind next rest)
          (λ next. feed_course kind behind next rest) log) is

      -- an ask stands before what comes after it
      pub course-ask : kind.line log text ≡ Ok (Some Ask)
          → feed_course kind behind log (with_line number text rest)
          ≡ with_asks (kind.asks log text) (feed_course kind behind log rest)
      course-ask is = course-line (Ok (Some Ask)) is

      -- a refused line ends it
      pub course-refused : (fault : FeedFault) → kind.line log text ≡ Err fault
          → feed_course kind behind log (with_line number text rest)
          ≡ course_ended (Refused (record { number = number; cause = cause.Feed fault }))
      course-refused fault is = course-line (Err fault) is

      -- after the record `proofs` comes what follows it
      pub course-proofs : kind.line log text ≡ Ok (Some Proofs)
          → feed_course kind behind log (with_line number text rest) ≡ behind log rest
      course-proofs is = course-line (Ok (Some Proofs)) is
