-- Lemmas on the last read of a session.
use Rattle.std.proofs.Common.{◌≡◌, ℕ, Bool, List, [], ◌∷◌, ◌++◌, Option, Some, None, option_map}
use Rattle.std.proofs.Common.{Ok, Err, ap, sym, ◌∙◌, subst, inl, inr}
use Rattle.league_core.specs.declared.sheet.Sheet.{Sheet}
use Rattle.league_core.specs.declared.season.Event.{Event}
use Rattle.port_core.specs.Contents.{Contents, with_line, with_lines}
use Rattle.port_core.specs.Readers.{LineReaderView, TakesInput, contents_to_come}
use Rattle.port_core.specs.inside.ReaderCalls.{PassesTo}
use Rattle.fixture_sheet.specs.inside.Calls.{ReadsSheetAs}
use Rattle.fixture_sheet.specs.LastReads.{ReadsOnWay}
use Rattle.fixture_sheet.specs.inside.SheetReads.{LeadsToDraft}
use Rattle.fixture_sheet.specs.Records.{sheet_rules}
use Rattle.fixture_sheet.proofs.LastReadLemmas.{passed-to-come}
use Rattle.result_log.specs.declared.entry.Entry.TheVariants.{Ask}
use Rattle.result_log.specs.declared.fault.FeedStop.{FeedStop}
use Rattle.branch_pool.specs.inside.States.{PoolView}
use Rattle.result_log.specs.inside.Rounds.{EndsRound, ReadsEvents}
use Rattle.result_log.specs.inside.LastReads.{GivesEvents, StopsAtClose}
use Rattle.run_ends.specs.declared.status.Status.{Status}
use Rattle.command_words.specs.declared.command.Mode.{Mode}
use Rattle.session_turns.specs.declared.turn.Step.{Step}
use Rattle.session_turns.specs.declared.turn.Step.TheVariants.{GoesOn, Ends}
use Rattle.session_turns.specs.Courses.{Origin, course_from, course_of}
use Rattle.session_turns.specs.Courses.{course_from_saved, course_of_reading, first_origin}
use Rattle.session_turns.specs.Courses.{saved_at}
use Rattle.pool_save.specs.SavedReadings.{nothing_saved}
use Rattle.session_turns.specs.LastReads.{LeadToFeed, LeadToSavedBy}
use Rattle.session_turns.specs.inside.Progress.{IsOriginOf, line_after}
use Rattle.run_ends.specs.inside.Stops.{StopEnds, stop_of_feed}
use Rattle.session_turns.specs.inside.TurnReads.{HasComeTo, TurnStops}
use Rattle.session_turns.specs.inside.Turns.{AskGives}
use Rattle.port_core.proofs.ContentLemmas.{with_lines-append}
use Rattle.session_turns.proofs.OriginLemmas.{origin-kept}
use Rattle.session_turns.proofs.SheetLemmas.{sheet-elsewhere}
use Rattle.run_ends.proofs.FeedCourseLemmas.{course-told}
use Rattle.run_ends.proofs.StandLemmas.{fresh-way, stand-come, stand-course, stand-feed_stops}
use Rattle.run_ends.proofs.StandLemmas.{stand-stops, stands-on, stops-any}
use Rattle.run_ends.proofs.StandLemmas.{told-front, told-nothing}
use Rattle.run_ends.specs.Courses.{with_asks}
use Rattle.run_ends.specs.LastReads.{Stands, StopsSession, fresh_reader}
use Rattle.session_turns.specs.Courses.{course_after_proofs, feed_kind}
use Rattle.session_turns.specs.LastReads.{LeadSession}
use Rattle.session_turns.specs.Texts.{session_kind}

-- ---- on the way

-- the way to a sheet is on the course
draft-course : (mode : Mode) (before after : Option Contents)
    → LeadsToDraft sheet_rules before after → Stands (LeadSession mode) before after
draft-course mode None after leads = tt
draft-course mode (Some before) None leads =
    absurd (told-nothing leads.1.0 before leads.1.1)
draft-course mode (Some before) (Some after) leads =
    (leads.1.0, told-front leads.1.0 before after leads.1.1, inl (leads.0, leads.1.2))

-- lines that lead on from an origin do not end the session
on-course : (mode : Mode) (origin : Origin) (taken : List (ℕ × List ℕ)) (log : List Event)
    → LeadToFeed mode taken origin log → LeadSession mode taken
on-course mode origin taken log leads = inr (inl (origin, log, leads))

-- ---- where a session stands

module _ (mode : Mode) (origin : Origin) where
  -- after its sheet
  sheet-stands : (before after : Option Contents) (given : List (ℕ × List ℕ))
      → before ≡ option_map (with_lines given) after
      → ReadsSheetAs sheet_rules before after (Ok origin.sheet)
      → Stands (λ taken. LeadToFeed mode taken (first_origin origin.sheet) []) before after
  sheet-stands None after given is reads = tt
  sheet-stands (Some before) None given is reads = absurd (told-nothing given before is)
  sheet-stands (Some before) (Some after) given is reads =
      let front = told-front given before after is in
      let elsewhere = sheet-elsewhere given before after origin.sheet front reads in
      (given, front, ([], λ rest. ap (course_of_reading mode) (elsewhere rest)))

  -- after a record `proofs` that leads to a saved text
  pub proofs-stands : (before mid after : Option Contents) (lines : List (ℕ × List ℕ))
      (number : ℕ) (text : List ℕ) (log log' : List Event)
      → Stands (λ taken. LeadToFeed mode taken origin log) before mid
      → mid ≡ option_map (with_lines (lines ++ (number, text) ∷ [])) after
      → ReadsEvents (line_after mode origin) log lines log'
      → ((rest : Contents) → course_from mode origin log' (with_line number text rest)
      ≡ course_from_saved mode origin.sheet log' nothing_saved rest)
      → Stands (λ taken. LeadToSavedBy mode taken origin.sheet log' nothing_saved) before after
  proofs-stands before mid after lines number text log log' stands is tells proofs =
      let last : List (ℕ × List ℕ) = (number, text) ∷ [] in
      stands-on (λ taken. LeadToFeed mode taken origin log)
      (λ taken. LeadToSavedBy mode taken origin.sheet log' nothing_saved) before mid after
      (lines ++ last) stands is
      (λ taken leads. (
        leads.0,
        λ rest. ap (course_of mode) (with_lines-append taken (lines ++ last) rest
            ∙ ap (with_lines taken) (with_lines-append lines last rest))
            ∙ leads.1 (with_lines lines (with_line number text rest))
            ∙ ap (with_asks leads.0)
            (course-told (feed_kind mode origin) (course_after_proofs mode origin) log log' lines
            (with_line number text rest) tells
            ∙ proofs rest),
      ))

module _ {S : Type 0} (left : S → Option (List ℕ)) (reads : S → List ℕ → S → Type 0) where
  -- ---- the sheet

  module _ (mode : Mode) (reader new : LineReaderView) (before after : S)
      (fresh : reader ≡ fresh_reader)
      (takes : TakesInput reader new (left before) (left after)) where
    -- what was read of the sheet was read on the course
    sheet-course : ReadsOnWay left reads (LeadsToDraft sheet_rules) reader new before after
        → ReadsOnWay left reads (Stands (LeadSession mode)) fresh_reader new before after
    sheet-course ways =
        fresh-way left reads (LeadSession mode) (LeadsToDraft sheet_rules) reader new before after
        fresh
        (draft-course mode) ways

    -- what came in place of a sheet
    pub sheet-ends : (status : Status)
        → ReadsOnWay left reads (LeadsToDraft sheet_rules) reader new before after
        → StopsSession left reads (LeadSession mode) before after status
    sheet-ends status ways =
        stops-any left reads (LeadSession mode) new before after status (sheet-course ways)

    -- the sheet
    pub sheet-come : (x y : Bool) (given : List (ℕ × List ℕ)) (sheet : Sheet)
        → PassesTo reader new (left before) (left after) x y given
        → ReadsSheetAs sheet_rules (contents_to_come reader (left before))
        (contents_to_come new (left after)) (Ok sheet)
        → ReadsOnWay left reads (LeadsToDraft sheet_rules) reader new before after
        → HasComeTo left reads mode before new after (first_origin sheet) []
    sheet-come x y given sheet passes read ways =
        let origin = first_origin sheet in
        let P : LineReaderView → Type 0 =
        λ r. PassesTo r new (left before) (left after) x y given in
        let Q : LineReaderView → Type 0 =
        λ r. ReadsSheetAs sheet_rules (contents_to_come r (left before))
        (contents_to_come new (left after)) (Ok sheet) in
        let R : LineReaderView → Type 0 = λ r. TakesInput r new (left before) (left after) in
        record {
          way = sheet-stands mode origin (contents_to_come fresh_reader (left before))
              (contents_to_come new (left after)) given
              (passed-to-come fresh_reader new (left before) (left after) x y given
              (subst P fresh passes))
              (subst Q fresh read);
          takes = subst R fresh takes;
          last = sheet-course ways;
        }

  -- ---- a round

  module _ (first : S) (reader new : LineReaderView) (before after : S) (mode : Mode)
      (origin : Origin) (log : List Event)
      (come : HasComeTo left reads mode first reader before origin log)
      (ways : ReadsOnWay left reads (GivesEvents (line_after mode origin) log) reader new
      before after) where
    -- it ends the session
    pub round-stops : (status : Status)
        → StopsSession left reads (LeadSession mode) first after status
    round-stops status =
        stand-stops left reads (LeadSession mode) (session_kind mode) (feed_kind mode origin)
        (course_after_proofs mode origin) (on-course mode origin) first reader new before after log
        come ways status

    -- what was read of it was read on the course
    pub round-course : ReadsOnWay left reads (Stands (LeadSession mode)) fresh_reader new first
        after
    round-course =
        stand-course left reads (LeadSession mode) (session_kind mode) (feed_kind mode origin)
        (course_after_proofs mode origin) (on-course mode origin) first reader new before after log
        come ways

    -- its ask is answered
    pub round-come : (log' : List Event) (x y : Bool) (m n : ℕ)
        → EndsRound (line_after mode origin) log log'
        (record { reader = reader; left = left before; ended = x; faults = m })
        (record { reader = new; left = left after; ended = y; faults = n }) (Ok Ask)
        → HasComeTo left reads mode first new after origin log'
    round-come log' x y m n ends =
        stand-come left reads (LeadSession mode) (session_kind mode) (feed_kind mode origin)
        (course_after_proofs mode origin) (on-course mode origin) first reader new before after log
        come ways log' x y m n ends

    -- the session goes on after it, or ends there
    pub round-goes_on : (pool : PoolView) (about : Option ℕ) (old now : Option (List ℕ))
        (turn : Step) (x y : Bool) (m n : ℕ)
        → EndsRound (line_after mode origin) log pool.log
        (record { reader = reader; left = left before; ended = x; faults = m })
        (record { reader = new; left = left after; ended = y; faults = n }) (Ok Ask)
        → IsOriginOf mode origin pool
        → AskGives mode pool about (saved_at origin pool.log) old now turn
        → TurnStops left reads mode first new after turn
    round-goes_on pool about old now (GoesOn next) x y m n ends of_pool gives =
        let P : List Event → Type 0 =
        λ told. HasComeTo left reads mode first new after origin told in (
          origin,
          origin-kept mode origin pool next of_pool gives.0 gives.1,
          subst P (sym gives.0.1) (round-come pool.log x y m n ends),
        )
    round-goes_on pool about old now (Ends status) x y m n ends of_pool gives =
        round-stops status

  -- a stop of the feed ends it, if the source did not fail
  module _ (first : S) (reader new : LineReaderView) (before after : S) (mode : Mode)
      (origin : Origin) (log : List Event)
      (come : HasComeTo left reads mode first reader before origin log) where
    pub feed-stops : (stop : FeedStop)
        → StopsAtClose left reads (line_after mode origin) log reader new before after (Err stop)
        → (old now : Option (List ℕ)) (status : Status) → StopEnds (stop_of_feed stop) old now
        status
        → StopsSession left reads (LeadSession mode) first after status
    feed-stops stop ways old now status stops =
        stand-feed_stops left reads (LeadSession mode) (session_kind mode) (feed_kind mode origin)
        (course_after_proofs mode origin) (on-course mode origin) first reader new before after log
        come stop ways old now status stops
