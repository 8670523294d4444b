-- The course of lines has a whole text, where each ask has an answer and so has the end.
use Rattle.std.proofs.Common.{◌≡◌, ℕ, Bool, List, [], ◌∷◌, ◌++◌, Option, Some, None, Result, Ok}
use Rattle.std.proofs.Common.{Err, refl, ap}
use Rattle.league_core.specs.declared.sheet.Sheet.{Sheet}
use Rattle.league_core.specs.game.Seasons.{AreEventsOf, epoch_of, season_after}
use Rattle.league_core.proofs.LogLemmas.{AreEventsOf-push, season_after_of}
use Rattle.league_core.specs.declared.season.Event.{Event}
use Rattle.port_core.specs.declared.line.ReadStop.{ReadStop}
use Rattle.port_core.specs.Contents.{Contents, ended, with_line}
use Rattle.result_log.proofs.FeedLemmas.{contents_may_come}
use Rattle.result_log.specs.Feeds.{entry_in}
use Rattle.result_log.specs.inside.FeedParts.{EntryReading, entry_reading_by}
use Rattle.result_log.specs.declared.entry.Entry.{Entry}
use Rattle.result_log.specs.declared.entry.Entry.TheVariants.{Change, Ask, Proofs, End}
use Rattle.result_log.specs.declared.fault.FeedFault.{FeedFault}
use Rattle.run_ends.specs.declared.run_end.Cause.TheVariants as cause
use Rattle.run_ends.specs.declared.run_end.RunEnd.TheVariants.{Refused}
use Rattle.run_ends.specs.InputEnds.{outcome_at_stop}
use Rattle.run_ends.specs.Courses.{CourseOf, FeedKind, course_by, course_in}
use Rattle.run_ends.specs.Texts.{SessionKind}
use Rattle.run_ends.proofs.RunTextLemmas.{HasAnswers, HasText, ended-there, text-front}

-- an event of a feed may come after events of the sheet
pub entry-may_come : (proofs : Bool) (sheet : Sheet) (events : List Event) (content : List ℕ)
    (event : Event) → AreEventsOf sheet events
    → entry_in sheet (season_after sheet events) (epoch_of events) proofs content
    ≡ Ok (Some (Change event))
    → AreEventsOf sheet (events ++ event ∷ [])
entry-may_come proofs sheet events content event of_sheet is =
    let none : EntryReading = record { gives = Ok End; rest = ended (Ok 0) } in
    AreEventsOf-push sheet events event of_sheet
    (contents_may_come sheet (season_after sheet events) (epoch_of events) proofs
    (with_line 0 content (ended (Ok 0))) (Change event) (season_after_of sheet events)
    (ap (λ found. (entry_reading_by 0 (ended (Ok 0)) none found).gives) is)).0

module _ {Play : Type 0} (kind : SessionKind Play) (feed : FeedKind Play)
    (MayBe : List Event → Type 0)
    (told : (events : List Event) (content : List ℕ) (event : Event) → MayBe events
    → feed.line events content ≡ Ok (Some (Change event)) → MayBe (events ++ event ∷ []))
    (asked : (events : List Event) (content : List ℕ) → MayBe events
    → feed.line events content ≡ Ok (Some Ask)
    → HasAnswers kind.IsAnswer (feed.asks events content))
    (closed : (events : List Event) → MayBe events → HasText kind (feed.closed events))
    (ending : (number : ℕ) (events : List Event) → MayBe events
    → HasText kind (feed.ending number events)) where
  -- where what comes after it has texts, a line has, by what it is
  line-there : (line : ℕ × List ℕ) (proofs onward : List Event → CourseOf Play)
      (events : List Event) → MayBe events
      → ((log : List Event) → MayBe log → HasText kind (proofs log))
      → ((log : List Event) → MayBe log → HasText kind (onward log))
      → (found : Result (Option Entry) FeedFault) → feed.line events line.1 ≡ found
      → HasText kind (course_by feed line proofs onward events found)
  line-there line proofs onward events may saved behind (Ok None) is = behind events may
  line-there line proofs onward events may saved behind (Ok (Some (Change event))) is =
      behind (events ++ event ∷ []) (told events line.1 event may is)
  line-there line proofs onward events may saved behind (Ok (Some Ask)) is =
      text-front kind (feed.asks events line.1) (onward events) (asked events line.1 may is)
      (behind events may)
  line-there line proofs onward events may saved behind (Ok (Some Proofs)) is = saved events may
  line-there line proofs onward events may saved behind (Ok (Some End)) is = closed events may
  line-there line proofs onward events may saved behind (Err fault) is =
      ended-there kind (Refused (record { number = line.0; cause = cause.Feed fault }))

  -- so the course of these lines has
  pub course-there : (behind : List Event → Contents → CourseOf Play)
      (lines : List (ℕ × List ℕ)) (end : Result ℕ ReadStop)
      → ((rest : Contents) (events : List Event) → MayBe events → HasText kind (behind events rest))
      → (events : List Event) → MayBe events
      → HasText kind (course_in feed behind lines end events)
  course-there behind [] (Ok number) saved events may = ending number events may
  course-there behind [] (Err stop) saved events may = ended-there kind (outcome_at_stop stop)
  course-there behind (line ∷ lines) end saved events may =
      line-there line (λ log. behind log (record { lines = lines; ending = end }))
      (course_in feed behind lines end) events may
      (saved (record { lines = lines; ending = end }))
      (λ log are. course-there behind lines end saved log are) (feed.line events line.1) refl
