-- The course of an input: what is asked on the way through it, and how it ends. The sheet comes
-- first, and then line after line, each read in the season of the events before it. Each mode reads
-- the same lines, but for the record `when`, which only `whatif` knows, and the record `proofs`,
-- after which `resume` reads a saved text, and then such lines again.
use Rattle.std.specs.Prelude.{ℕ, ◌==◌, Bool, true, false, List, [], ◌∷◌, Option, None, Some}
use Rattle.std.specs.Prelude.{Result, Ok, Err, if◌then◌else◌}
use Rattle.league_core.specs.declared.sheet.Sheet.{Sheet}
use Rattle.league_core.specs.declared.season.Event.{Event}
use Rattle.league_core.specs.game.Results.{Results}
use Rattle.league_core.specs.game.Seasons.{epoch_of, season_after}
use Rattle.league_core.specs.search.Trees.{Tree}
use Rattle.port_core.specs.Contents.{Contents}
use Rattle.fixture_sheet.specs.Sheets.{SheetStop}
use Rattle.fixture_sheet.specs.Sheets.{SheetReading, sheet_reading_of}
use Rattle.result_log.specs.declared.entry.Entry.{Entry}
use Rattle.result_log.specs.declared.fault.FeedFault.{FeedFault}
use Rattle.result_log.specs.Feeds.{entry_in}
use Rattle.answer_rows.specs.AskedQuestions.{questions_of}
use Rattle.what_if.specs.Steps.{about_of, step_line}
use Rattle.pool_save.specs.declared.stop.SaveStop.{SaveStop}
use Rattle.pool_save.specs.declared.stop.SaveStop.TheVariants as save_stop
use Rattle.pool_save.specs.SavedReadings.{SavedReading, SaveState, nothing_saved, saved_reading_of}
use Rattle.command_words.specs.declared.command.Mode.{Mode}
use Rattle.command_words.specs.declared.command.Mode.TheVariants.{WhatIf, Save, Resume}
use Rattle.run_ends.specs.declared.run_end.RunEnd.{RunEnd}
use Rattle.run_ends.specs.declared.run_end.RunEnd.TheVariants.{Complete, Refused}
use Rattle.run_ends.specs.InputEnds.{outcome_at_sheet, outcome_at_stop, save_fault}
use Rattle.run_ends.specs.Courses.{CourseOf, FeedKind, course_ended, feed_course, nothing_after}
use Rattle.session_turns.specs.Plays.{Played, played_after}

-- ---- how an input ends

-- where no saved text comes
abbrev pub outcome_at_save : SaveStop → RunEnd
outcome_at_save (save_stop.BadSave number) = Refused (save_fault number)
outcome_at_save (save_stop.Read stop) = outcome_at_stop stop
outcome_at_save save_stop.OutOfMemory = Complete

-- ---- how lines are read

-- what the course of lines goes out from: a sheet, the trees that a saved text before these lines
-- gave for the questions about it, if one did, and how many events there were when it did
pub record Origin : Type 0 where
  pub sheet : Sheet
  pub saved : Option (List (Option Tree))
  pub since : ℕ

-- the lines right after a sheet
abbrev pub first_origin : Sheet → Origin
first_origin sheet = record { sheet = sheet; saved = None; since = 0 }

-- the lines after a saved text that gave these trees after these events
abbrev pub saved_origin : Sheet → List Event → List (Option Tree) → Origin
saved_origin sheet events trees =
    record { sheet = sheet; saved = Some trees; since = epoch_of events }

-- a saved text must come yet: in `resume` only
abbrev pub awaits_saved : Mode → Option (List (Option Tree)) → Bool
awaits_saved (Resume proofs) None = true
awaits_saved mode saved = false

-- what the content of a line is, in this season and after so many events: an entry of a feed, which
-- proofs follow only if a saved text does, or a refusal; where a `when` may stand, it is an ask too
abbrev pub line_of : Mode → Origin → Results → ℕ → List ℕ → Result (Option Entry) FeedFault
line_of WhatIf origin season events content = step_line origin.sheet season events content
line_of mode origin season events content =
    entry_in origin.sheet season events (awaits_saved mode origin.saved) content

-- ---- what is asked

-- the fixture that a line with this content asks about, if it asks about one: only a `when` does
abbrev pub about_in : Mode → List ℕ → Option ℕ
about_in WhatIf content = about_of content
about_in mode content = None

-- the saved trees, if nothing was reported since
abbrev pub saved_since : ℕ → ℕ → Option (List (Option Tree)) → Option (List (Option Tree))
saved_since since epoch None = None
saved_since since epoch (Some trees) = if epoch == since then Some trees else None

-- the same after these events
abbrev pub saved_at : Origin → List Event → Option (List (Option Tree))
saved_at origin events = saved_since origin.since (epoch_of events) origin.saved

-- what is asked after these events by an ask about this
abbrev pub asked_about : Origin → List Event → Option ℕ → Played
asked_about origin events about = played_after origin.sheet events about (saved_at origin events)

-- what an ask there has answered: nothing in `save`, nor before a saved text
abbrev pub asks_about : Mode → Origin → List Event → Option ℕ → List Played
asks_about Save origin events about = []
asks_about mode origin events about =
    if awaits_saved mode origin.saved then [] else asked_about origin events about ∷ []

-- the same of a line with this content that is an ask
abbrev pub asks_at : Mode → Origin → List Event → List ℕ → List Played
asks_at mode origin events content = asks_about mode origin events (about_in mode content)

-- ---- courses

-- the course of a session: what was played at each ask that is answered, and at its end, if that
-- has something answered
abbrev pub Course : Type 0
Course = CourseOf Played

-- the input ends after these events: only in `save` that has something answered
abbrev pub course_closed : Mode → Origin → List Event → Course
course_closed Save origin events =
    record {
      asks = [];
      outcome = Complete;
      closing = Some (played_after origin.sheet events None None);
    }
course_closed mode origin events = course_ended Complete

-- where its lines end, at this number: it may end anywhere, but before a saved text that must come
-- yet
abbrev pub course_at_ending : Mode → Origin → ℕ → List Event → Course
course_at_ending mode origin number events =
    if awaits_saved mode origin.saved then course_ended (Refused (save_fault number))
    else course_closed mode origin events

-- how the lines from an origin make a course: each is read in the season of the events before it
abbrev pub feed_kind : Mode → Origin → FeedKind Played
feed_kind mode origin = record {
  line = λ events. line_of mode origin (season_after origin.sheet events) (epoch_of events);
  asks = asks_at mode origin;
  closed = course_closed mode origin;
  ending = course_at_ending mode origin;
}

-- the course after a saved text, by what it gave
abbrev pub course_after_saved : Mode → Sheet → List Event → Contents
    → Result (List (Option Tree)) SaveStop → Course
course_after_saved mode sheet events rest (Ok trees) =
    feed_course (feed_kind mode (saved_origin sheet events trees)) nothing_after events rest
course_after_saved mode sheet events rest (Err stop) = course_ended (outcome_at_save stop)

-- the course of a reading of a saved text
abbrev pub course_of_saved : Mode → Sheet → List Event → SavedReading → Course
course_of_saved mode sheet events reading =
    course_after_saved mode sheet events reading.rest reading.gives

-- the course of contents that go on with a saved text of which so much is read
abbrev pub course_from_saved : Mode → Sheet → List Event → SaveState → Contents → Course
course_from_saved mode sheet events state rest =
    course_of_saved mode sheet events (saved_reading_of sheet (questions_of sheet) rest state)

-- the course after a record `proofs`: a saved text, if one must come yet; else no line is such a
-- record
abbrev pub course_after_proofs : Mode → Origin → List Event → Contents → Course
course_after_proofs mode origin events rest =
    if awaits_saved mode origin.saved
    then course_from_saved mode origin.sheet events nothing_saved rest
    else course_ended Complete

-- the course of contents from an origin, after these events
abbrev pub course_from : Mode → Origin → List Event → Contents → Course
course_from mode origin events contents =
    feed_course (feed_kind mode origin) (course_after_proofs mode origin) events contents

-- the course after what came of the sheet
abbrev pub course_after : Mode → Result Sheet SheetStop → Contents → Course
course_after mode (Ok sheet) rest = course_from mode (first_origin sheet) [] rest
course_after mode (Err stop) rest = course_ended (outcome_at_sheet stop)

-- the course of a reading of a sheet, and of what comes after it
abbrev pub course_of_reading : Mode → SheetReading → Course
course_of_reading mode reading = course_after mode reading.gives reading.rest

-- the course of all contents of an input
abbrev pub course_of : Mode → Contents → Course
course_of mode contents = course_of_reading mode (sheet_reading_of contents None)
