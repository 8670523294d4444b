-- A round of the feed: what it gives, from what was passed and what was written.
use Rattle.std.proofs.Common.{◌≡◌, ℕ, Bool, List, [], ◌∷◌, Option, Some, None, Result, Ok}
use Rattle.std.proofs.Common.{Err, true, false, if◌then◌else◌, refl, ap, ap₂, sym, ◌∙◌, subst, inl}
use Rattle.std.proofs.Common.{inr}
use Rattle.league_core.specs.declared.season.Event.{Event}
use Rattle.port_core.specs.Contents.{number_at}
use Rattle.port_core.specs.Readers.{stream_of}
use Rattle.port_core.specs.inside.ReaderCalls.{given_by}
use Rattle.result_log.specs.declared.entry.Entry.{Entry}
use Rattle.result_log.specs.declared.entry.Entry.TheVariants.{Ask, End}
use Rattle.result_log.specs.declared.fault.FeedStop.{FeedStop}
use Rattle.result_log.specs.inside.Calls.{entry_answer_after}
use Rattle.branch_pool.specs.inside.States.{PoolView}
use Rattle.result_log.specs.inside.Rounds.{EndsRound, Spot}
use Rattle.run_ends.specs.declared.status.Status.{Status}
use Rattle.command_words.specs.declared.command.Mode.{Mode}
use Rattle.command_words.specs.declared.command.Mode.TheVariants.{Save, Resume}
use Rattle.run_ends.specs.declared.run_end.RunEnd.TheVariants.{Complete, Refused}
use Rattle.session_turns.specs.declared.turn.Step.{Step}
use Rattle.session_turns.specs.declared.turn.Step.TheVariants.{GoesOn, Ends}
use Rattle.session_turns.specs.Plays.{Played, played_after}
use Rattle.session_turns.specs.Courses.{Origin, about_in, asked_about, asks_about, asks_at}
use Rattle.session_turns.specs.Courses.{awaits_saved, course_closed, course_from}
use Rattle.session_turns.specs.Courses.{saved_at}
use Rattle.run_ends.specs.InputEnds.{save_fault}
use Rattle.session_turns.specs.Answers.{IsAnswerTo}
use Rattle.session_turns.specs.Texts.{AreAnswers}
use Rattle.session_turns.specs.inside.Progress.{IsOpened, IsOriginOf, line_after}
use Rattle.run_ends.specs.inside.Stops.{StopEnds, stop_of_feed}
use Rattle.session_turns.specs.inside.Turns.{AskGives, TurnGives, closing_of}
use Rattle.session_turns.specs.inside.Turns.{reported_to}
use Rattle.session_turns.proofs.OriginLemmas.{opened-awaits, origin-kept}
use Rattle.run_ends.proofs.RunEndLemmas.{closed_by}
use Rattle.run_ends.proofs.RunRoundLemmas.{OnwardKnown, ask-ends, ask-path, ends-onward, round-end}
use Rattle.run_ends.proofs.RunRoundLemmas.{round-stop}
use Rattle.run_ends.proofs.RunTextLemmas.{answers-one}
use Rattle.run_ends.specs.Courses.{course_ended}
use Rattle.run_ends.specs.Runs.{Serves}
use Rattle.run_ends.specs.Texts.{IsLastText, IsRefusedAtEnd}
use Rattle.run_ends.specs.inside.RunTurns.{EndGives}
use Rattle.run_ends.specs.inside.Ways.{Path}
use Rattle.session_turns.proofs.AnsweredLemmas.{session-answered}
use Rattle.session_turns.specs.Courses.{course_after_proofs, course_at_ending, feed_kind}
use Rattle.session_turns.specs.Texts.{IsSavedText, session_kind}

-- where no saved text must come any more, an ask has its answer
pub opened-asks : (mode : Mode) (origin : Origin) (log : List Event) (about : Option ℕ)
    (answer : List ℕ) → IsOpened mode origin.saved
    → IsAnswerTo mode (asked_about origin log about) answer
    → AreAnswers mode (asks_about mode origin log about) answer
opened-asks Save origin log about answer opened is = is
opened-asks (Resume proofs) origin log about answer opened is =
    let asked = asked_about origin log about in
    let P : Bool → Type 0 =
    λ silent. AreAnswers (Resume proofs) (if silent then [] else asked ∷ []) answer in
    subst P (sym (ap (awaits_saved (Resume proofs)) opened.1))
    (answers-one (IsAnswerTo (Resume proofs)) asked answer is)
opened-asks mode origin log about answer opened is =
    answers-one (IsAnswerTo mode) (asked_about origin log about) answer is

-- ---- where the lines of a feed end

module _ (mode : Mode) (origin : Origin) (number : ℕ) (log : List Event) where
  -- nothing is asked there
  closed-asks : (is : Bool)
      → (if is then course_ended (Refused (save_fault number)) else course_closed mode origin
      log).asks ≡ []
  closed-asks true = refl
  closed-asks false = close mode
    where
      close : (m : Mode) → (course_closed m origin log).asks ≡ []
      close Save = refl
      close m = refl

  -- and no line is refused
  closed-refuses : (is : Bool)
      → IsRefusedAtEnd number (if is then course_ended (Refused (save_fault number))
      else course_closed mode origin log).outcome
  closed-refuses true = inr (inr (inr refl))
  closed-refuses false = close mode
    where
      close : (m : Mode) → IsRefusedAtEnd number (course_closed m origin log).outcome
      close Save = inl refl
      close m = inl refl

-- ---- an ask

module _ (mode : Mode) (origin : Origin) (log : List Event) (text : List ℕ) (pool : PoolView)
    (about : Option ℕ) (told : log ≡ pool.log) (of_pool : IsOriginOf mode origin pool)
    (about_is : about ≡ about_in mode text) where
  -- what the line asks is what the pool was told, about the same fixture
  line-asks : asked_about origin log (about_in mode text)
      ≡ reported_to pool about (saved_at origin pool.log)
  line-asks =
      ap₂ (λ sheet events. played_after sheet events (about_in mode text)
      (saved_at origin events)) of_pool.sheet told
      ∙ ap (λ asked. played_after pool.sheet pool.log asked (saved_at origin pool.log))
      (sym about_is)

  -- an answer to it answers what the line has answered
  line-answers : (answer : List ℕ)
      → IsAnswerTo mode (reported_to pool about (saved_at origin pool.log)) answer
      → AreAnswers mode (asks_at mode origin log text) answer
  line-answers answer answers =
      let P : Played → Type 0 = λ asked. IsAnswerTo mode asked answer in
      opened-asks mode origin log (about_in mode text) answer of_pool.opened
      (subst P (sym line-asks) answers)

-- ---- the end of the input

module _ (mode : Mode) (origin : Origin) (log : List Event) (number : ℕ) where
  -- where no saved text must come any more
  opened-end : IsOpened mode origin.saved
      → course_at_ending mode origin number log ≡ course_closed mode origin log
  opened-end opened =
      ap (λ awaits.
      if awaits then course_ended (Refused (save_fault number))
      else course_closed mode origin log) (opened-awaits mode origin.saved opened)

  -- what is answered there
  closing-is : (pool : PoolView) → IsOriginOf mode origin pool → log ≡ pool.log
      → course_closed mode origin log ≡ closed_by (closing_of mode pool)
  closing-is pool of_pool told = close mode
    where
      close : (m : Mode) → course_closed m origin log ≡ closed_by (closing_of m pool)
      close Save = ap₂ (λ sheet events. closed_by (Some (played_after sheet events None None)))
          of_pool.sheet told
      close m = refl

-- ---- a round that is over

module _ (mode : Mode) (input : Option (List ℕ)) (told0 : Bool) (origin : Origin)
    (log log' : List Event) (from to : Spot) (old now0 : Option (List ℕ))
    (path : Path (session_kind mode) input told0 (stream_of from.reader from.left) from.ended
    from.reader.position (course_from mode origin log) old now0) where
  -- where it leads
  pub mode-onward : (close : Result Entry FeedStop)
      → EndsRound (line_after mode origin) log log' from to close
      → OnwardKnown (session_kind mode) input (stream_of to.reader to.left) told0 to.ended
      to.reader.position (given_by (entry_answer_after to.reader close) to.reader.text)
      (course_from mode origin log') old now0
  mode-onward close ends =
      ends-onward (session_kind mode) (session-answered mode) (feed_kind mode origin)
      (course_after_proofs mode origin) input told0 log log' from to old now0 path close ends

  -- by an ask, which the pool of the round answers
  pub round-ask : (pool : PoolView) (about : Option ℕ) (now1 : Option (List ℕ)) (turn : Step)
      → EndsRound (line_after mode origin) log log' from to (Ok Ask) → log' ≡ pool.log
      → IsOriginOf mode origin pool → about ≡ about_in mode to.reader.text
      → AskGives mode pool about (saved_at origin pool.log) now0 now1 turn
      → TurnGives mode input told0 (stream_of to.reader to.left) to.ended to.reader.position
      to.left old now1 turn
  round-ask pool about now1 (GoesOn next) ends told of_pool about_is gives =
      let P : List Event → Type 0 = λ events. Path (session_kind mode) input told0
      (stream_of to.reader to.left) to.ended to.reader.position (course_from mode origin events)
      old now1 in (
        origin,
        origin-kept mode origin pool next of_pool gives.0 gives.1,
        subst P (told ∙ sym gives.0.1)
            (ask-path (session_kind mode) (feed_kind mode origin)
            (course_after_proofs mode origin) (session-answered mode) told0 to.ended
            to.reader.position log' old now0 to.reader.position.lines to.reader.text
            (IsAnswerTo mode (reported_to pool about (saved_at origin pool.log))) to.left now1
            ends.comes (line-answers mode origin log' to.reader.text pool about told of_pool
            about_is) input (stream_of to.reader to.left) gives.2.0 (mode-onward (Ok Ask) ends)
            gives.2.1 gives.2.2),
      )
  round-ask pool about now1 (Ends status) ends told of_pool about_is gives =
      ask-ends (session_kind mode) (feed_kind mode origin) (course_after_proofs mode origin)
      (session-answered mode) told0 to.ended to.reader.position log' old now0
      to.reader.position.lines to.reader.text
      (IsAnswerTo mode (reported_to pool about (saved_at origin pool.log))) to.left now1 ends.comes
      (line-answers mode origin log' to.reader.text pool about told of_pool about_is) input
      (stream_of to.reader to.left) status (mode-onward (Ok Ask) ends) gives

  -- by the end of the input
  pub mode-end : (pool : PoolView) (now1 : Option (List ℕ)) (status : Status)
      → EndsRound (line_after mode origin) log log' from to (Ok End) → log' ≡ pool.log
      → IsOriginOf mode origin pool
      → EndGives (IsLastText IsSavedText Complete (closing_of mode pool)) now0 now1 status
      → Serves (session_kind mode) input to.left to.ended old now1 status
  mode-end pool now1 status ends told of_pool gives =
      round-end (session_kind mode) (session-answered mode) (feed_kind mode origin)
      (course_after_proofs mode origin) input told0 log log' from to old now0 path
      (closing_of mode pool) now1 status ends
      (opened-end mode origin log' (number_at to.reader.position) of_pool.opened
      ∙ closing-is mode origin log' (number_at to.reader.position) pool of_pool told) gives

  -- by a stop of the feed: a refused line, a line or an input that is too long, a fault of the
  -- source, or running out of memory
  pub mode-stop : (stop : FeedStop) (now1 : Option (List ℕ)) (status : Status)
      → EndsRound (line_after mode origin) log log' from to (Err stop)
      → StopEnds (stop_of_feed stop) now0 now1 status
      → Serves (session_kind mode) input to.left to.ended old now1 status
  mode-stop stop now1 status ends stops =
      round-stop (session_kind mode) (session-answered mode) (feed_kind mode origin)
      (course_after_proofs mode origin) input told0 log log' from to old now0 path
      (λ number. closed-asks mode origin number log' (awaits_saved mode origin.saved))
      (λ number. closed-refuses mode origin number log' (awaits_saved mode origin.saved)) stop now1
      status ends stops
