-- The opening of a session that goes on from a saved text: round by round of the feed before it,
-- whose asks are not answered, and then over the saved text.
use Rattle.std.proofs.Common.{◌≡◌, ℕ, Bool, true, false, List, [], ◌∷◌, ◌++◌, Option, Some, None}
use Rattle.std.proofs.Common.{Result, Ok, Err, refl, ap, sym, ◌∙◌, subst, inl, inr, option_map}
use Rattle.std.proofs.Common.{append-nil, arith, if◌then◌else◌}
use Rattle.std.specs.Prelude.{◌==◌, IfSome}
use Rattle.std.proofs.lemmas.Option.{none-some}
use Rattle.std.specs.Io.KnownBytes.{IsAtEnd, prepend_known}
use Rattle.std.proofs.lemmas.Bool.{false≢true}
use Rattle.league_core.specs.declared.sheet.Sheet.{Sheet}
use Rattle.league_core.specs.declared.season.Event.{Event}
use Rattle.league_core.specs.game.Seasons.{epoch_of}
use Rattle.league_core.specs.search.Trees.{Tree}
use Rattle.port_core.specs.declared.line.Line.TheVariants as line
use Rattle.port_core.specs.declared.line.ReadStop.TheVariants as stop
use Rattle.port_core.specs.Lines.{HasNoLineFeed, lines_of}
use Rattle.port_core.specs.Contents.{Contents, Position, number_at, ended, with_lines}
use Rattle.port_core.specs.Contents.{contents_from}
use Rattle.port_core.specs.Readers.{LineReaderView, TakesInput, contents_after, contents_to_come}
use Rattle.port_core.specs.Readers.{stream_of}
use Rattle.port_core.specs.inside.ReaderCalls.{PassesKnown, PassesTo, given_by}
use Rattle.port_core.proofs.ContentLemmas.{with_lines-append}
use Rattle.port_core.proofs.TakingLemmas.{TakesInput-more}
use Rattle.fixture_sheet.specs.inside.Calls.{PassesUpTo, refused_before}
use Rattle.fixture_sheet.specs.LastReads.{ReadsOnWay}
use Rattle.fixture_sheet.proofs.LastReadLemmas.{passed-to-come, way-more}
use Rattle.result_log.specs.declared.entry.Entry.{Entry}
use Rattle.result_log.specs.declared.entry.Entry.TheVariants.{Ask, Proofs, End}
use Rattle.result_log.specs.declared.fault.FeedStop.{FeedStop}
use Rattle.result_log.specs.declared.fault.FeedStop.TheVariants as feed_stop
use Rattle.result_log.specs.inside.Calls.{CountsEntry}
use Rattle.result_log.specs.inside.LastReads.{GivesEvents}
use Rattle.result_log.specs.inside.Readings.{answer_as}
use Rattle.result_log.specs.inside.Rounds.{EndsRound, Spot}
use Rattle.branch_pool.specs.inside.States.{PoolView}
use Rattle.answer_rows.specs.AskedQuestions.{questions_of}
use Rattle.pool_save.specs.declared.stop.SaveStop.{SaveStop}
use Rattle.pool_save.specs.declared.stop.SaveStop.TheVariants as save_stop
use Rattle.pool_save.specs.SavedReadings.{nothing_saved}
use Rattle.pool_save.specs.inside.Calls.{CountsSaved, LeadsSaved, LeadsToState, LeavesSaved}
use Rattle.pool_save.specs.inside.Calls.{ReadsSaved, ReadsSavedAs}
use Rattle.pool_save.specs.inside.Calls.{StopsBySave, saved_answer_after}
use Rattle.pool_save.specs.inside.SavedPools.{AreNearlySaved}
use Rattle.pool_save.specs.inside.TakingUp.{TakesUp}
use Rattle.pool_save.proofs.ElsewhereLemmas.{saved-elsewhere, saved-leads, saved-reading}
use Rattle.pool_save.proofs.SavedPoolLemmas.{taken_nearly_saved}
use Rattle.run_ends.specs.declared.status.Status.{Status}
use Rattle.run_ends.specs.declared.status.Status.TheVariants.{ReadFault, OutOfMemory}
use Rattle.command_words.specs.declared.command.Mode.{Mode}
use Rattle.command_words.specs.declared.command.Mode.TheVariants.{Resume}
use Rattle.run_ends.specs.declared.refuse.InputStop.{InputStop}
use Rattle.run_ends.specs.declared.refuse.InputStop.TheVariants as input_stop
use Rattle.run_ends.specs.declared.run_end.RunEnd.TheVariants.{Refused}
use Rattle.run_ends.specs.declared.run_end.Fault.{Fault}
use Rattle.session_turns.specs.Courses.{Course, awaits_saved}
use Rattle.session_turns.specs.Courses.{course_from, course_from_saved, course_of, course_of_saved}
use Rattle.session_turns.specs.Courses.{first_origin, outcome_at_save}
use Rattle.run_ends.specs.InputEnds.{input_fault, line_fault}
use Rattle.session_turns.specs.Courses.{saved_origin}
use Rattle.run_ends.specs.InputEnds.{save_fault}
use Rattle.session_turns.specs.LastReads.{LeadToFeed, LeadToSavedBy}
use Rattle.session_turns.specs.inside.Progress.{IsOpened, IsOriginOf, KeepsSaved}
use Rattle.session_turns.specs.inside.Progress.{line_after}
use Rattle.session_turns.specs.declared.turn.Step.{Step}
use Rattle.session_turns.specs.declared.turn.Step.TheVariants.{GoesOn, Ends}
use Rattle.run_ends.specs.inside.Stops.{CountsStop, stop_of_feed}
use Rattle.session_turns.specs.inside.SavedStops.{EndsBefore, stop_of_save}
use Rattle.session_turns.specs.inside.TurnReads.{HasComeTo, HasComeToPool, HasComeToSaved}
use Rattle.session_turns.specs.inside.TurnReads.{StopsBy, TurnStops}
use Rattle.session_turns.specs.inside.Turns.{CountsOpeningStop, IsLive, IsUnworked, SavedGives}
use Rattle.session_turns.specs.inside.Turns.{ServesBy, TurnCounts, TurnGives, TurnIsLive}
use Rattle.session_turns.proofs.LastReadLemmas.{proofs-stands, round-course}
use Rattle.session_turns.proofs.OriginLemmas.{origin-none}
use Rattle.session_turns.proofs.RoundLemmas.{mode-onward}
use Rattle.session_turns.proofs.RoundLemmas.{mode-stop}
use Rattle.session_turns.proofs.SheetLemmas.{same-lines}
use Rattle.run_ends.proofs.FeedCourseLemmas.{course-ask, course-proofs}
use Rattle.run_ends.proofs.RunRoundLemmas.{OnwardKnown, onward, onward-path, serves-as, turn-fails}
use Rattle.run_ends.proofs.RunRoundLemmas.{turn-fault, turn-starved}
use Rattle.run_ends.proofs.StandLemmas.{stands-on, stops-any, told-front, told-nothing}
use Rattle.run_ends.specs.Courses.{course_ended, with_asks}
use Rattle.run_ends.specs.LastReads.{Stands, StopsSession, fresh_reader}
use Rattle.run_ends.specs.Runs.{Serves}
use Rattle.run_ends.specs.inside.Ways.{Path}
use Rattle.session_turns.proofs.AnsweredLemmas.{session-answered}
use Rattle.session_turns.proofs.TurnLemmas.{ended-as}
use Rattle.session_turns.specs.Courses.{course_after_proofs, feed_kind}
use Rattle.session_turns.specs.LastReads.{LeadSession}
use Rattle.session_turns.specs.Texts.{session_kind}
use Rattle.run_ends.proofs.RunEndLemmas.{counts-end}

-- ---- the modes

-- what holds of the mode before whose asks a saved text comes
pub by-resume : (P : Mode → Type 0) → ((proofs : Bool) → P (Resume proofs)) → (mode : Mode)
    → awaits_saved mode None ≡ true → P mode
by-resume P each (Resume proofs) is = each proofs
by-resume P each mode is = absurd (false≢true is)

plain-opened : (mode : Mode) → awaits_saved mode None ≡ false → IsOpened mode None
plain-opened (Resume proofs) is = absurd (false≢true (sym is))
plain-opened mode is = refl

-- in the others asks are answered right after the sheet
pub fresh-origin : (mode : Mode) (sheet : Sheet) (pool : PoolView)
    → awaits_saved mode None ≡ false → pool.sheet ≡ sheet
    → IsOriginOf mode (first_origin sheet) pool
fresh-origin mode sheet pool is same =
    origin-none mode (first_origin sheet) pool (sym same) (plain-opened mode is) refl

-- the way to a pool that is begun there
pub begun-gives : (mode : Mode) (input : Option (List ℕ)) (ended : Bool)
    (stream : Option (List ℕ)) (ended' : Bool) (position : Position)
    (left old now : Option (List ℕ))
    (sheet : Sheet) (pool : PoolView) → awaits_saved mode None ≡ false → pool.sheet ≡ sheet
    → pool.log ≡ []
    → Path (session_kind mode) input ended stream ended' position (course_from mode (first_origin
    sheet) []) old
    now
    → TurnGives mode input ended stream ended' position left old now (GoesOn pool)
begun-gives mode input ended stream ended' position left old now sheet pool is same none path =
    let P : List Event → Type 0 =
    λ log. Path (session_kind mode) input ended stream ended' position (course_from mode
    (first_origin sheet) log)
    old now in
    (first_origin sheet, fresh-origin mode sheet pool is same, subst P (sym none) path)

-- and the reads on it
pub begun-stops : {S : Type 0} (left : S → Option (List ℕ)) (reads : S → List ℕ → S → Type 0)
    (mode : Mode) (first : S) (reader : LineReaderView) (now : S) (sheet : Sheet) (pool : PoolView)
    → awaits_saved mode None ≡ false → pool.sheet ≡ sheet → pool.log ≡ []
    → HasComeTo left reads mode first reader now (first_origin sheet) []
    → TurnStops left reads mode first reader now (GoesOn pool)
begun-stops left reads mode first reader now sheet pool is same none come =
    let P : List Event → Type 0 =
    λ log. HasComeTo left reads mode first reader now (first_origin sheet) log in
    (first_origin sheet, fresh-origin mode sheet pool is same, subst P (sym none) come)

-- the way through a saved text, from a pool that is begun before it
pub opened-gives : (mode : Mode) (input : Option (List ℕ)) (ended : Bool)
    (stream : Option (List ℕ)) (ended' : Bool) (position : Position)
    (left old now now' : Option (List ℕ)) (sheet : Sheet) (pool : PoolView) (turn : Step)
    → awaits_saved mode None ≡ true → pool.sheet ≡ sheet → pool.log ≡ []
    → (from : Option (List ℕ)) (ended0 : Bool) (start : Position)
    → ((proofs : Bool)
    → Path (session_kind (Resume proofs)) input ended from ended0 start
    (course_from (Resume proofs) (first_origin pool.sheet) pool.log) old now
    → TurnGives (Resume proofs) input ended stream ended' position left old now' turn)
    → Path (session_kind mode) input ended from ended0 start (course_from mode (first_origin sheet)
    []) old now
    → TurnGives mode input ended stream ended' position left old now' turn
opened-gives mode input ended stream ended' position left old now now' sheet pool turn is same none
    from ended0 start gives =
    by-resume (λ m. Path (session_kind m) input ended from ended0 start (course_from m
    (first_origin sheet) []) old
    now → TurnGives m input ended stream ended' position left old now' turn)
    (λ proofs path.
    let P : Sheet → Type 0 =
    λ s. Path (session_kind (Resume proofs)) input ended from ended0 start
    (course_from (Resume proofs) (first_origin s) []) old now in
    let Q : List Event → Type 0 =
    λ log. Path (session_kind (Resume proofs)) input ended from ended0 start
    (course_from (Resume proofs) (first_origin pool.sheet) log) old now in
    gives proofs (subst Q (sym none) (subst P (sym same) path)))
    mode is

-- and the reads on it
pub opened-stops : {S : Type 0} (left : S → Option (List ℕ)) (reads : S → List ℕ → S → Type 0)
    (mode : Mode) (first : S) (reader new : LineReaderView) (before after : S) (sheet : Sheet)
    (pool : PoolView) (turn : Step)
    → awaits_saved mode None ≡ true → pool.sheet ≡ sheet → pool.log ≡ []
    → ((proofs : Bool)
    → HasComeTo left reads (Resume proofs) first reader before (first_origin pool.sheet) pool.log
    → TurnStops left reads (Resume proofs) first new after turn)
    → HasComeTo left reads mode first reader before (first_origin sheet) []
    → TurnStops left reads mode first new after turn
opened-stops left reads mode first reader new before after sheet pool turn is same none opens =
    by-resume (λ m. HasComeTo left reads m first reader before (first_origin sheet) []
    → TurnStops left reads m first new after turn)
    (λ proofs come.
    let P : Sheet → Type 0 =
    λ s. HasComeTo left reads (Resume proofs) first reader before (first_origin s) [] in
    let Q : List Event → Type 0 =
    λ log. HasComeTo left reads (Resume proofs) first reader before (first_origin pool.sheet) log in
    opens proofs (subst Q (sym none) (subst P (sym same) come)))
    mode is

-- with proofs or without the pool is as live
resume-live : (one other : Bool) (pool : PoolView) → IsLive (Resume one) pool
    → IsLive (Resume other) pool
resume-live one other pool live = record {
  limits = live.limits;
  questions = live.questions;
  season = live.season;
  home = live.home;
  unworked = tt;
}

pub opened-live : (mode : Mode) (pool : PoolView) → awaits_saved mode None ≡ true
    → IsLive mode pool → IsLive (Resume false) pool
opened-live mode pool is =
    by-resume (λ m. IsLive m pool → IsLive (Resume false) pool)
    (λ proofs live. resume-live proofs false pool live) mode is

pub live-opened : (mode : Mode) (turn : Step) → awaits_saved mode None ≡ true
    → TurnIsLive (Resume false) turn → TurnIsLive mode turn
live-opened mode (GoesOn pool) is =
    by-resume (λ m. IsLive (Resume false) pool → IsLive m pool)
    (λ proofs live. resume-live false proofs pool live) mode is
live-opened mode (Ends status) is = λ live. live

-- what a round is told last, as an entry
pub told-as : (last : Result Entry FeedStop) (told entry : Entry) → last ≡ Ok told → told ≡ entry
    → Ok entry ≡ answer_as (λ it. it) last
told-as last told entry is same = sym (ap (answer_as (λ it. it)) (is ∙ ap Ok same))

pub stopped-as : (last : Result Entry FeedStop) (stop : FeedStop) → last ≡ Err stop
    → Err stop ≡ answer_as (λ it. it) last
stopped-as last stop is = sym (ap (answer_as (λ it. it)) is)

-- ---- the feed before the saved text

module _ (proofs : Bool) (input : Option (List ℕ)) (told0 : Bool) (sheet : Sheet)
    (log log' : List Event) (from to : Spot) (old now : Option (List ℕ))
    (path : Path (session_kind (Resume proofs)) input told0 (stream_of from.reader from.left)
    from.ended
    from.reader.position (course_from (Resume proofs) (first_origin sheet) log) old now) where
  -- an ask is not answered
  pub opening-ask : EndsRound (line_after (Resume proofs) (first_origin sheet)) log log' from to
      (Ok Ask)
      → Path (session_kind (Resume proofs)) input told0 (stream_of to.reader to.left) to.ended
      to.reader.position
      (course_from (Resume proofs) (first_origin sheet) log') old now
  opening-ask ends =
      let origin = first_origin sheet in
      onward-path (session_kind (Resume proofs)) input (stream_of to.reader to.left) told0 to.ended
      to.reader.position ((to.reader.position.lines, to.reader.text) ∷ [])
      (course_from (Resume proofs) origin log') (course_from (Resume proofs) origin log') old now
      (mode-onward (Resume proofs) input told0 origin log log' from to old now path (Ok Ask) ends)
      (λ rest. course-ask (feed_kind (Resume proofs) origin)
      (course_after_proofs (Resume proofs) origin) log' to.reader.position.lines to.reader.text rest
      ends.comes)

  -- the record `proofs` leads to the saved text
  pub opening-proofs : EndsRound (line_after (Resume proofs) (first_origin sheet)) log log' from to
      (Ok Proofs)
      → Path (session_kind (Resume proofs)) input told0 (stream_of to.reader to.left) to.ended
      to.reader.position
      (course_from_saved (Resume proofs) sheet log' nothing_saved) old now
  opening-proofs ends =
      let origin = first_origin sheet in
      onward-path (session_kind (Resume proofs)) input (stream_of to.reader to.left) told0 to.ended
      to.reader.position ((to.reader.position.lines, to.reader.text) ∷ [])
      (course_from (Resume proofs) origin log')
      (course_from_saved (Resume proofs) sheet log' nothing_saved) old now
      (mode-onward (Resume proofs) input told0 origin log log' from to old now path (Ok Proofs)
      ends)
      (λ rest. course-proofs (feed_kind (Resume proofs) origin)
      (course_after_proofs (Resume proofs) origin) log' to.reader.position.lines to.reader.text
      rest ends.comes)

  -- nothing comes at the end
  end-there : (held : List ℕ) (left : Option (List ℕ)) → held ≡ [] → IsAtEnd left
      → IfSome (contents_after to.reader.position (prepend_known held left)) (λ rest.
      course_from (Resume proofs) (first_origin sheet) log' rest
      ≡ course_ended (Refused (save_fault (number_at to.reader.position))))
  end-there held None none at_end = tt
  end-there held (Some left) none at_end =
      ap (λ bytes. course_from (Resume proofs) (first_origin sheet) log'
      (contents_from to.reader.position (lines_of bytes)))
      (ap (λ h. h ++ left) none ∙ at_end)

  -- the input ends before the saved text
  pub opening-end : EndsRound (line_after (Resume proofs) (first_origin sheet)) log log' from to
      (Ok End)
      → ServesBy (Resume proofs) input to.left to.ended old now
      (input_stop.Refused (save_fault (number_at to.reader.position)))
  opening-end ends = λ now' status stops.
      turn-fault (session_kind (Resume proofs))
      (session-answered (Resume proofs)) told0 to.ended to.reader.position
      (course_from (Resume proofs) (first_origin sheet) log') old now to.left now' status input
      (stream_of to.reader to.left) [] (save_fault (number_at to.reader.position))
      (mode-onward (Resume proofs) input told0 (first_origin sheet) log log' from to old now path
      (Ok End) ends)
      (end-there to.reader.held to.left ends.leaves.1 ends.leaves.2) stops

  -- a stop of the feed
  pub opening-stop : (stop : FeedStop)
      → EndsRound (line_after (Resume proofs) (first_origin sheet)) log log' from to (Err stop)
      → ServesBy (Resume proofs) input to.left to.ended old now (stop_of_feed stop)
  opening-stop stop ends = λ now' status stops.
      mode-stop (Resume proofs) input told0 (first_origin sheet) log log' from to old now path stop
      now' status ends stops

  -- running out of memory
  pub opening-starved : ServesBy (Resume proofs) input to.left to.ended old now
      input_stop.OutOfMemory
  opening-starved = λ now' status stops.
      serves-as (session_kind (Resume proofs)) (session-answered (Resume proofs))
      (feed_kind (Resume proofs) (first_origin sheet))
      (course_after_proofs (Resume proofs) (first_origin sheet)) input told0 log log' from to old
      now path
      status OutOfMemory now' stops.0 stops.1
      (turn-starved (session_kind (Resume proofs))
      (session-answered (Resume proofs)) input told0 (stream_of from.reader from.left) from.ended
      from.reader.position (course_from (Resume proofs) (first_origin sheet) log) to.left to.ended
      old now path)

-- the end of the input, or no memory for its number
pub ends-before : (mode : Mode) (input left : Option (List ℕ)) (ended : Bool)
    (old now : Option (List ℕ)) (position : Position) (stop : InputStop) → EndsBefore position stop
    → ServesBy mode input left ended old now
    (input_stop.Refused (save_fault (number_at position)))
    → ServesBy mode input left ended old now input_stop.OutOfMemory
    → ServesBy mode input left ended old now stop
ends-before mode input left ended old now position stop (inl is) one other =
    subst (λ s. ServesBy mode input left ended old now s) (sym is) one
ends-before mode input left ended old now position stop (inr is) one other =
    subst (λ s. ServesBy mode input left ended old now s) (sym is) other

-- ---- its reads

module _ {S : Type 0} (left : S → Option (List ℕ)) (reads : S → List ℕ → S → Type 0)
    (proofs : Bool) (first : S) (reader new : LineReaderView) (before after : S) (sheet : Sheet)
    (log : List Event)
    (come : HasComeTo left reads (Resume proofs) first reader before (first_origin sheet) log)
    (ways : ReadsOnWay left reads
    (GivesEvents (line_after (Resume proofs) (first_origin sheet)) log) reader new before after)
  where
    -- the record `proofs` leads to the saved text
    pub proofs-come : (log' : List Event) (x y : Bool) (m n : ℕ)
        → EndsRound (line_after (Resume proofs) (first_origin sheet)) log log'
        (record { reader = reader; left = left before; ended = x; faults = m })
        (record { reader = new; left = left after; ended = y; faults = n }) (Ok Proofs)
        → HasComeToSaved left reads (Resume proofs) first new after sheet log'
    proofs-come log' x y m n ends =
        let origin = first_origin sheet in
        record {
          way = proofs-stands (Resume proofs) origin (contents_to_come fresh_reader (left first))
              (contents_to_come reader (left before)) (contents_to_come new (left after)) ends.lines
              new.position.lines new.text log log' come.way
              (passed-to-come reader new (left before) (left after) x y
              (ends.lines ++ (new.position.lines, new.text) ∷ []) ends.passes)
              ends.tells
              (λ rest. course-proofs (feed_kind (Resume proofs) origin)
              (course_after_proofs (Resume proofs) origin) log' new.position.lines new.text rest
              ends.comes);
          takes = TakesInput-more fresh_reader reader new _ _ _ come.takes ends.takes;
          last = round-course left reads first reader new before after (Resume proofs) origin log
              come
              ways;
        }

-- ---- the saved text

-- the lines that were passed lead from these contents to those, if they are shown
abbrev pub LeadOver : Option Contents → Option Contents → List (ℕ × List ℕ) → Type 0
LeadOver before after given = before ≡ option_map (with_lines given) after

module _ (proofs : Bool) (sheet : Sheet) (log : List Event) where
  -- the course of contents that begin with a saved text
  saved_course : Contents → Course
  saved_course = course_from_saved (Resume proofs) sheet log nothing_saved

  -- what was read of a saved text is read of it whatever follows
  read-there : (given : List (ℕ × List ℕ)) (before after : Option Contents) (trees : List
      (Option Tree)) → LeadOver before after given
      → ReadsSavedAs sheet (questions_of sheet) before after (Ok trees)
      → IfSome before (λ contents. (rest : Contents)
      → course_from_saved (Resume proofs) sheet log nothing_saved (with_lines given rest)
      ≡ course_from (Resume proofs) (saved_origin sheet log trees) log rest)
  read-there given None after trees is reads = tt
  read-there given (Some before) None trees is reads = absurd (told-nothing given before is)
  read-there given (Some before) (Some after) trees is reads =
      let asked = questions_of sheet in
      λ rest. ap (course_of_saved (Resume proofs) sheet log)
      (saved-elsewhere sheet asked given before after trees (told-front given before after is)
      (saved-reading sheet asked before after (Ok trees) reads) rest)

  -- why nothing is read of it
  stop-there : (given : List (ℕ × List ℕ)) (before after : Option Contents) (stop : SaveStop)
      → LeadOver before after given
      → ReadsSavedAs sheet (questions_of sheet) before after (Err stop)
      → IfSome after (λ rest.
      course_from_saved (Resume proofs) sheet log nothing_saved (with_lines given rest)
      ≡ course_ended (outcome_at_save stop))
  stop-there given before None stop is reads = tt
  stop-there given None (Some after) stop is reads = absurd (none-some _ is)
  stop-there given (Some before) (Some after) stop is reads =
      let asked = questions_of sheet in
      ap (λ contents. course_from_saved (Resume proofs) sheet log nothing_saved contents)
      (sym (told-front given before after is))
      ∙ ap (course_of_saved (Resume proofs) sheet log)
      (saved-reading sheet asked before after (Err stop) reads)

module _ (proofs : Bool) (input : Option (List ℕ)) (told0 : Bool) (reader new : LineReaderView)
    (left left' : Option (List ℕ)) (told told' : Bool) (sheet : Sheet) (log : List Event)
    (old now : Option (List ℕ))
    (path : Path (session_kind (Resume proofs)) input told0 (stream_of reader left) told
    reader.position
    (course_from_saved (Resume proofs) sheet log nothing_saved) old now) where
  -- over lines that lead on
  over : (given last : List (ℕ × List ℕ)) (next : Contents → Course)
      → PassesTo reader new left left' told told' (given ++ last)
      → IfSome (contents_to_come reader left) (λ contents. (rest : Contents)
      → course_from_saved (Resume proofs) sheet log nothing_saved (with_lines given rest)
      ≡ next rest)
      → OnwardKnown (session_kind (Resume proofs)) input (stream_of new left') told0 told'
      new.position last next
      old now
  over given last next passes leads =
      by input (stream_of reader left) path passes leads
    where
      by : (shown before : Option (List ℕ))
          → Path (session_kind (Resume proofs)) shown told0 before told reader.position
          (course_from_saved (Resume proofs) sheet log nothing_saved) old now
          → PassesKnown reader.position before told new.position (stream_of new left') told'
          (given ++ last)
          → IfSome (contents_after reader.position before) (λ contents. (rest : Contents)
          → course_from_saved (Resume proofs) sheet log nothing_saved (with_lines given rest)
          ≡ next rest)
          → OnwardKnown (session_kind (Resume proofs)) shown (stream_of new left') told0 told'
          new.position last
          next old now
      by None before way passed on = tt
      by (Some bytes) None way passed on = absurd way
      by (Some bytes) (Some before) way passed on =
          onward (session_kind (Resume proofs)) (Some bytes) told0 (Some before) told (stream_of
          new left') told'
          reader.position new.position given last
          (course_from_saved (Resume proofs) sheet log nothing_saved) next old now way passed on

  -- its trees, and the way after it
  pub saved-path : (trees : List (Option Tree))
      → PassesUpTo reader new left left' told told' (Ok (line.Text new.position.lines))
      → ReadsSavedAs sheet (questions_of sheet) (contents_to_come reader left)
      (contents_to_come new left') (Ok trees)
      → Path (session_kind (Resume proofs)) input told0 (stream_of new left') told' new.position
      (course_from (Resume proofs) (saved_origin sheet log trees) log) old now
  saved-path trees passes read =
      let given = passes.0 ++ (new.position.lines, new.text) ∷ [] in
      let from = course_from (Resume proofs) (saved_origin sheet log trees) log in
      let P : List (ℕ × List ℕ) → Type 0 =
      λ all. PassesTo reader new left left' told told' all in
      onward-path (session_kind (Resume proofs)) input (stream_of new left') told0 told'
      new.position [] from from
      old now
      (over given [] from (subst P (sym (append-nil given)) passes.1)
      (read-there proofs sheet log given (contents_to_come reader left)
      (contents_to_come new left') trees
      (passed-to-come reader new left left' told told' given passes.1) read))
      (λ rest. refl)

  -- a fault of the input in it
  saved-fault : (given : List (ℕ × List ℕ)) (stop : SaveStop) (fault : Fault)
      → PassesTo reader new left left' told told' given
      → ReadsSavedAs sheet (questions_of sheet) (contents_to_come reader left)
      (contents_to_come new left') (Err stop)
      → outcome_at_save stop ≡ Refused fault
      → ServesBy (Resume proofs) input left' told' old now (input_stop.Refused fault)
  saved-fault given stop fault passes read is = λ now' status ends.
      let from = course_from_saved (Resume proofs) sheet log nothing_saved in
      turn-fault (session_kind (Resume proofs))
      (session-answered (Resume proofs)) told0 told' new.position from old now left' now' status
      input
      (stream_of new left') given fault
      (over [] given from passes (all-there (contents_to_come reader left)))
      (fault-there (contents_to_come new left')
      (stop-there proofs sheet log given (contents_to_come reader left) (contents_to_come new left')
      stop (passed-to-come reader new left left' told told' given passes) read))
      ends
    where
      all-there : (before : Option Contents) → IfSome before (λ contents. (rest : Contents)
          → course_from_saved (Resume proofs) sheet log nothing_saved rest
          ≡ course_from_saved (Resume proofs) sheet log nothing_saved rest)
      all-there None = tt
      all-there (Some contents) = λ rest. refl

      fault-there : (after : Option Contents)
          → IfSome after (λ rest.
          course_from_saved (Resume proofs) sheet log nothing_saved (with_lines given rest)
          ≡ course_ended (outcome_at_save stop))
          → IfSome after (λ rest.
          course_from_saved (Resume proofs) sheet log nothing_saved (with_lines given rest)
          ≡ course_ended (Refused fault))
      fault-there None there = tt
      fault-there (Some rest) there = there ∙ ended-as is

  -- the source failed in it
  saved-fails : (front : List (ℕ × List ℕ))
      → PassesTo reader new left left' told told' (front ++ [])
      → ReadsSaved sheet (questions_of sheet) (contents_to_come reader left)
      (contents_to_come new left') (Err (save_stop.Read stop.ReadFault))
      → HasNoLineFeed new.held
      → Serves (session_kind (Resume proofs)) input left' told' old now ReadFault
  saved-fails front passes read no_feed =
      let state = read.0 in
      turn-fails (session_kind (Resume proofs)) told0 told' new.position
      (course_from_saved (Resume proofs) sheet log state) old now input new.held left'
      (over front [] (course_from_saved (Resume proofs) sheet log state) passes
      (leads-there (contents_to_come reader left) (contents_to_come new left')
      (passed-to-come reader new left left' told told' (front ++ []) passes) read.1))
      no_feed refl (inr (inr (inr refl)))
    where
      leads-there : (before after : Option Contents) → LeadOver before after (front ++ [])
          → LeadsSaved sheet (questions_of sheet) before after read.0
          → IfSome before (λ contents. (rest : Contents)
          → course_from_saved (Resume proofs) sheet log nothing_saved (with_lines front rest)
          ≡ course_from_saved (Resume proofs) sheet log read.0 rest)
      leads-there None after is leads = tt
      leads-there (Some before) None is leads = absurd (told-nothing (front ++ []) before is)
      leads-there (Some before) (Some after) is leads =
          let same : front ≡ leads.0 =
          sym (append-nil front)
          ∙ same-lines (front ++ []) leads.0 after
          (sym (told-front (front ++ []) before after is) ∙ told-front leads.0 before after leads.1)
          in
          λ rest. ap (λ lines.
          course_from_saved (Resume proofs) sheet log nothing_saved (with_lines lines rest)) same
          ∙ ap (course_of_saved (Resume proofs) sheet log) (leads.2 rest)

  -- running out of memory
  pub saved-starved : ServesBy (Resume proofs) input left' told' old now input_stop.OutOfMemory
  saved-starved = λ now' status ends.
      let P : Status → Type 0 = λ s. Serves (session_kind (Resume proofs)) input left' told' old
      now' s in
      let Q : Option (List ℕ) → Type 0 =
      λ n. Serves (session_kind (Resume proofs)) input left' told' old n OutOfMemory in
      subst P (sym ends.0) (subst Q (sym ends.1)
      (turn-starved (session_kind (Resume proofs))
      (session-answered (Resume proofs)) input told0 (stream_of reader left) told reader.position
      (course_from_saved (Resume proofs) sheet log nothing_saved) left' told' old now path))

  -- whatever came in place of its trees
  stopped-there : (A : Type 0) (stop : SaveStop)
      → PassesUpTo reader new left left' told told' (saved_answer_after {A = A} new (Err stop))
      → ReadsSaved sheet (questions_of sheet) (contents_to_come reader left)
      (contents_to_come new left') (Err stop)
      → LeavesSaved {A = A} new left' (Err stop)
      → ServesBy (Resume proofs) input left' told' old now (stop_of_save stop)
  stopped-there A (save_stop.BadSave number) passes read leaves =
      saved-fault
      (passes.0 ++ given_by (Ok (refused_before new.position number)) new.text)
      (save_stop.BadSave number) (save_fault number) passes.1 read refl
  stopped-there A (save_stop.Read (stop.LineTooLong number)) passes read leaves =
      saved-fault (passes.0 ++ []) (save_stop.Read (stop.LineTooLong number)) (line_fault number)
      passes.1 read refl
  stopped-there A (save_stop.Read (stop.InputTooLong number)) passes read leaves =
      saved-fault (passes.0 ++ []) (save_stop.Read (stop.InputTooLong number)) (input_fault number)
      passes.1 read refl
  stopped-there A (save_stop.Read stop.ReadFault) passes read leaves = λ now' status ends.
      let P : Status → Type 0 = λ s. Serves (session_kind (Resume proofs)) input left' told' old
      now' s in
      let Q : Option (List ℕ) → Type 0 =
      λ n. Serves (session_kind (Resume proofs)) input left' told' old n ReadFault in
      subst P (sym ends.0) (subst Q (sym ends.1) (saved-fails passes.0 passes.1 read leaves.0))
  stopped-there A save_stop.OutOfMemory passes read leaves = saved-starved

  pub saved-stop : {A : Type 0} (result : Result A SaveStop) (stop : SaveStop) → result ≡ Err stop
      → PassesUpTo reader new left left' told told' (saved_answer_after new result)
      → ReadsSaved sheet (questions_of sheet) (contents_to_come reader left)
      (contents_to_come new left') (Err stop)
      → LeavesSaved new left' result
      → ServesBy (Resume proofs) input left' told' old now (stop_of_save stop)
  saved-stop {A = A} result stop is passes read leaves =
      stopped-there A stop
      (subst (λ r. PassesUpTo reader new left left' told told' (saved_answer_after new r)) is
      passes)
      read (subst (λ r. LeavesSaved new left' r) is leaves)

-- ---- the pool after it

-- the trees were taken up
taken-kept : (trees : List (Option Tree)) (is : Bool) (pool : PoolView) → AreNearlySaved pool trees
    → KeepsSaved (if is then Some trees else None) pool
taken-kept trees true pool nearly = nearly
taken-kept trees false pool nearly = tt

pub taken-origin : (proofs : Bool) (pool next : PoolView) (trees : List (Option Tree))
    → TakesUp pool trees next → IsUnworked pool
    → IsOriginOf (Resume proofs) (saved_origin pool.sheet pool.log trees) next
taken-origin proofs pool next trees taken unworked =
    let same : next.log ≡ pool.log = ap (λ (p : PoolView). p.log) taken in
    let epochs : epoch_of next.log ≡ epoch_of pool.log = ap epoch_of same in
    record {
      sheet = sym (ap (λ (p : PoolView). p.sheet) taken);
      opened = (trees, refl);
      since = omega (arith, epochs);
      kept = taken-kept trees (epoch_of next.log == epoch_of pool.log) next
          (taken_nearly_saved pool next trees taken unworked);
    }

-- the pool is as live
pub taken-live : (pool next : PoolView) (trees : List (Option Tree)) → TakesUp pool trees next
    → IsLive (Resume false) pool → IsLive (Resume false) next
taken-live pool next trees taken live =
    subst (λ (p : PoolView). IsLive (Resume false) p) (sym taken) (record {
      limits = live.limits;
      questions = live.questions;
      season = live.season;
      home = live.home;
      unworked = tt;
    })

-- the way after it leads on from its trees
pub taken-gives : (proofs : Bool) (input : Option (List ℕ)) (ended : Bool) (pool next : PoolView)
    (trees : List (Option Tree)) (stream : Option (List ℕ)) (ended' : Bool) (position : Position)
    (left old now : Option (List ℕ)) → TakesUp pool trees next → IsUnworked pool
    → Path (session_kind (Resume proofs)) input ended stream ended' position
    (course_from (Resume proofs) (saved_origin pool.sheet pool.log trees) pool.log) old now
    → SavedGives (Resume proofs) input ended stream ended' position left old now (Ok next)
taken-gives proofs input ended pool next trees stream ended' position left old now taken unworked
    path =
    let origin = saved_origin pool.sheet pool.log trees in
    let P : List Event → Type 0 =
    λ log. Path (session_kind (Resume proofs)) input ended stream ended' position
    (course_from (Resume proofs) origin log) old now in (
      origin,
      taken-origin proofs pool next trees taken unworked,
      subst P (sym (ap (λ (p : PoolView). p.log) taken)) path,
    )

-- ---- its reads

-- what is read of it is on the course
saved-on_course : (proofs : Bool) (sheet : Sheet) (log : List Event)
    (before mid after : Option Contents)
    → Stands (λ taken. LeadToSavedBy (Resume proofs) taken sheet log nothing_saved) before mid
    → LeadsToState sheet (questions_of sheet) mid after
    → Stands (LeadSession (Resume proofs)) before after
saved-on_course proofs sheet log None mid after stands leads = tt
saved-on_course proofs sheet log (Some before) None after stands leads = absurd stands
saved-on_course proofs sheet log (Some before) (Some mid) None stands leads =
    absurd (told-nothing leads.1.0 mid leads.1.1)
saved-on_course proofs sheet log (Some before) (Some mid) (Some after) stands leads =
    let led = saved-leads sheet (questions_of sheet) mid after leads in
    let way = stands.2 in (
      stands.0 ++ led.1,
      stands.1 ∙ ap (with_lines stands.0) led.2 ∙ sym (with_lines-append stands.0 led.1 after),
      inr (inr (
        sheet,
        log,
        led.0,
        (
          way.0,
          λ rest. ap (course_of (Resume proofs)) (with_lines-append stands.0 led.1 rest)
              ∙ way.1 (with_lines led.1 rest)
              ∙ ap (λ reading. with_asks way.0 (course_of_saved (Resume proofs) sheet log reading))
              (led.3 rest),
        ),
      )),
    )

module _ {S : Type 0} (left : S → Option (List ℕ)) (reads : S → List ℕ → S → Type 0)
    (proofs : Bool) (first : S) (reader new : LineReaderView) (before after : S) (pool : PoolView)
    (come : HasComeToSaved left reads (Resume proofs) first reader before pool.sheet pool.log)
  where
    -- what was read of it was read on the course
    saved-way : ReadsOnWay left reads (LeadsToState pool.sheet (questions_of pool.sheet)) reader new
        before after
        → ReadsOnWay left reads (Stands (LeadSession (Resume proofs))) fresh_reader new first after
    saved-way ways =
        way-more left reads (Stands (LeadSession (Resume proofs)))
        (LeadsToState pool.sheet (questions_of pool.sheet)) fresh_reader reader new first before
        after
        (λ mid leads. saved-on_course proofs pool.sheet pool.log
        (contents_to_come fresh_reader (left first)) (contents_to_come reader (left before)) mid
        come.way leads)
        come.takes come.last ways

    -- a stop ends the session, if the source did not fail
    pub saved-ends : (stop : SaveStop)
        → StopsBySave pool.sheet (questions_of pool.sheet) left reads reader new before after stop
        → StopsBy left reads (Resume proofs) first after (stop_of_save stop)
    saved-ends (save_stop.Read stop.ReadFault) ways = λ old now status ends.
        subst (λ s. StopsSession left reads (LeadSession (Resume proofs)) first after s) (sym
        ends.0) tt
    saved-ends stop ways = λ old now status ends.
        stops-any left reads (LeadSession (Resume proofs)) new first after status (saved-way ways)

    -- memory runs out after it
    pub taken-ends : ReadsOnWay left reads (LeadsToState pool.sheet (questions_of pool.sheet))
        reader
        new before after
        → StopsBy left reads (Resume proofs) first after input_stop.OutOfMemory
    taken-ends ways = λ old now status ends.
        stops-any left reads (LeadSession (Resume proofs)) new first after status (saved-way ways)

    -- where the session stands after it
    saved-stands : (trees : List (Option Tree)) (given : List (ℕ × List ℕ))
        (start mid last : Option Contents)
        → Stands (λ taken. LeadToSavedBy (Resume proofs) taken pool.sheet pool.log nothing_saved)
        start mid
        → LeadOver mid last given
        → ReadsSavedAs pool.sheet (questions_of pool.sheet) mid last (Ok trees)
        → Stands (λ taken. LeadToFeed (Resume proofs) taken
        (saved_origin pool.sheet pool.log trees) pool.log) start last
    saved-stands trees given None mid last stands is read = tt
    saved-stands trees given (Some start) None last stands is read = absurd stands
    saved-stands trees given (Some start) (Some mid) last stands is read =
        let on = read-there proofs pool.sheet pool.log given (Some mid) last trees is read in
        stands-on (λ taken. LeadToSavedBy (Resume proofs) taken pool.sheet pool.log nothing_saved)
        (λ taken. LeadToFeed (Resume proofs) taken (saved_origin pool.sheet pool.log trees)
        pool.log)
        (Some start) (Some mid) last given stands is
        (λ taken leads. (
          leads.0,
          λ rest. ap (course_of (Resume proofs)) (with_lines-append taken given rest)
              ∙ leads.1 (with_lines given rest) ∙ ap (with_asks leads.0) (on rest),
        ))

    pub saved-come : (next : PoolView) (trees : List (Option Tree)) (x y : Bool)
        → PassesUpTo reader new (left before) (left after) x y (Ok (line.Text new.position.lines))
        → ReadsSavedAs pool.sheet (questions_of pool.sheet) (contents_to_come reader (left before))
        (contents_to_come new (left after)) (Ok trees)
        → TakesInput reader new (left before) (left after)
        → ReadsOnWay left reads (LeadsToState pool.sheet (questions_of pool.sheet)) reader new
        before
        after
        → TakesUp pool trees next → IsUnworked pool
        → HasComeToPool left reads (Resume proofs) first new after next
    saved-come next trees x y passes read takes ways taken unworked =
        let given = passes.0 ++ (new.position.lines, new.text) ∷ [] in
        let origin = saved_origin pool.sheet pool.log trees in
        let P : List Event → Type 0 =
        λ log. HasComeTo left reads (Resume proofs) first new after origin log in (
          origin,
          taken-origin proofs pool next trees taken unworked,
          subst P (sym (ap (λ (p : PoolView). p.log) taken)) (record {
            way = saved-stands trees given (contents_to_come fresh_reader (left first))
                (contents_to_come reader (left before)) (contents_to_come new (left after)) come.way
                (passed-to-come reader new (left before) (left after) x y given passes.1) read;
            takes = TakesInput-more fresh_reader reader new _ _ _ come.takes takes;
            last = saved-way ways;
          }),
        )

-- ---- the counts of faults

-- of the feed before it
pub opening-counts : (reads reads' : ℕ) (stop : FeedStop)
    → CountsEntry reads reads' (Err stop) → CountsOpeningStop reads reads' (stop_of_feed stop)
opening-counts reads reads' (feed_stop.Fault number fault) counts = counts
opening-counts reads reads' (feed_stop.Read stop.ReadFault) counts = counts
opening-counts reads reads' (feed_stop.Read (stop.LineTooLong number)) counts = counts
opening-counts reads reads' (feed_stop.Read (stop.InputTooLong number)) counts = counts
opening-counts reads reads' feed_stop.OutOfMemory counts = counts

-- and of the saved text
save-counts : (A : Type 0) (reads reads' : ℕ) (stop : SaveStop)
    → CountsSaved {A = A} reads reads' (Err stop)
    → CountsOpeningStop reads reads' (stop_of_save stop)
save-counts A reads reads' (save_stop.BadSave number) counts = counts
save-counts A reads reads' (save_stop.Read stop.ReadFault) counts = counts
save-counts A reads reads' (save_stop.Read (stop.LineTooLong number)) counts = counts
save-counts A reads reads' (save_stop.Read (stop.InputTooLong number)) counts = counts
save-counts A reads reads' save_stop.OutOfMemory counts = counts

pub saved-counts : {A : Type 0} (reads reads' : ℕ) (result : Result A SaveStop) (stop : SaveStop)
    → result ≡ Err stop → CountsSaved reads reads' result
    → CountsOpeningStop reads reads' (stop_of_save stop)
saved-counts {A = A} reads reads' result stop is counts =
    save-counts A reads reads' stop (subst (λ r. CountsSaved reads reads' r) is counts)

-- what ends a run at a stop of the opening
pub opened-counts : (reads reads' writes writes' : ℕ) (stop : InputStop) (status : Status)
    → CountsOpeningStop reads reads' stop
    → CountsStop stop writes writes' status
    → TurnCounts reads reads' writes writes' (Ends status)
opened-counts reads reads' writes writes' input_stop.ReadFault status rose counts =
    let P : Status → Type 0 = λ s. TurnCounts reads reads' writes writes' (Ends s) in
    subst P (sym counts.0) ((rose, counts.1), tt)
opened-counts reads reads' writes writes' (input_stop.Refused fault) status same counts =
    counts-end reads reads' writes writes' status same counts
opened-counts reads reads' writes writes' input_stop.OutOfMemory status same counts =
    counts-end reads reads' writes writes' status same counts
