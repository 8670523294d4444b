-- The course of an input: what is asked on the way through it, and how it ends. What is asked about
-- is left open here: a play, such as what was played of a sheet so far. The lines of a feed make a
-- course one after another, each read after the events before it.
use Rattle.std.specs.Prelude.{ℕ, List, [], ◌∷◌, ◌++◌, Option, None, Some, Result, Ok, Err}
use Rattle.league_core.specs.declared.season.Event.{Event}
use Rattle.port_core.specs.declared.line.ReadStop.{ReadStop}
use Rattle.port_core.specs.Contents.{Contents}
use Rattle.result_log.specs.declared.entry.Entry.{Entry}
use Rattle.result_log.specs.declared.entry.Entry.TheVariants as entry
use Rattle.result_log.specs.declared.fault.FeedFault.{FeedFault}
use Rattle.run_ends.specs.declared.run_end.Cause.TheVariants as cause
use Rattle.run_ends.specs.declared.run_end.RunEnd.{RunEnd}
use Rattle.run_ends.specs.declared.run_end.RunEnd.TheVariants.{Complete, Refused}
use Rattle.run_ends.specs.InputEnds.{outcome_at_stop}

-- ---- courses

-- the play at each ask that is answered, in their order, how the input ends, and the play there, if
-- its end has something answered
pub record CourseOf (Play : Type 0) : Type 0 where
  pub asks : List Play
  pub outcome : RunEnd
  pub closing : Option Play

-- nothing is asked any more
abbrev pub course_ended : {Play : Type 0} → RunEnd → CourseOf Play
course_ended outcome = record { asks = []; outcome = outcome; closing = None }

-- these asks at the front
abbrev pub with_asks : {Play : Type 0} → List Play → CourseOf Play → CourseOf Play
with_asks asks course = record course { asks = asks ++ course.asks }

-- ---- the course of lines

-- how the lines of a feed make a course: what the content of a line is after these events, what an
-- ask there has answered, and the course where the feed ends: by its own record, or with the input
-- at this number
pub record FeedKind (Play : Type 0) : Type 0 where
  pub line : List Event → List ℕ → Result (Option Entry) FeedFault
  pub asks : List Event → List ℕ → List Play
  pub closed : List Event → CourseOf Play
  pub ending : ℕ → List Event → CourseOf Play

-- the course from a line on, after these events, by what the line is; `proofs` is the course after
-- a record `proofs`, and `onward` that of the lines after this one, each by the events before them
abbrev pub course_by : {Play : Type 0} → FeedKind Play → ℕ × List ℕ → (List Event → CourseOf Play)
    → (List Event → CourseOf Play) → List Event → Result (Option Entry) FeedFault → CourseOf Play
course_by kind line proofs onward events (Ok None) = onward events
course_by kind line proofs onward events (Ok (Some (entry.Change event))) =
    onward (events ++ event ∷ [])
course_by kind line proofs onward events (Ok (Some entry.Ask)) =
    with_asks (kind.asks events line.1) (onward events)
course_by kind line proofs onward events (Ok (Some entry.Proofs)) = proofs events
course_by kind line proofs onward events (Ok (Some entry.End)) = kind.closed events
course_by kind line proofs onward events (Err fault) =
    course_ended (Refused (record { number = line.0; cause = cause.Feed fault }))

-- where the lines end, after these events: with the input, or at a stop of it
abbrev pub course_at_end : {Play : Type 0} → FeedKind Play → Result ℕ ReadStop → List Event
    → CourseOf Play
course_at_end kind (Ok number) events = kind.ending number events
course_at_end kind (Err stop) events = course_ended (outcome_at_stop stop)

-- the course of these lines and this ending, after these events: each line is read after the events
-- before it; `after` is the course after a record `proofs`
abbrev pub course_in : {Play : Type 0} → FeedKind Play → (List Event → Contents → CourseOf Play)
    → List (ℕ × List ℕ) → Result ℕ ReadStop → List Event → CourseOf Play
course_in kind after [] ending events = course_at_end kind ending events
course_in kind after (line ∷ lines) ending events =
    course_by kind line (λ log. after log (record { lines = lines; ending = ending }))
    (course_in kind after lines ending) events (kind.line events line.1)

-- the same of contents
abbrev pub feed_course : {Play : Type 0} → FeedKind Play → (List Event → Contents → CourseOf Play)
    → List Event → Contents → CourseOf Play
feed_course kind after events contents = course_in kind after contents.lines contents.ending events

-- nothing comes after it
abbrev pub nothing_after : {Play : Type 0} → List Event → Contents → CourseOf Play
nothing_after events rest = course_ended Complete
