-- A turn after a round, or after the sheet: where it leads, by what ended the round, or came in
-- place of a sheet.
use Rattle.std.proofs.Common.{◌≡◌, ℕ, Bool, List, Option, None, Err, refl, sym, ◌∙◌, subst}
use Rattle.league_core.specs.declared.sheet.Sheet.{Sheet}
use Rattle.port_core.specs.declared.line.ReadStop.TheVariants as read_stop
use Rattle.port_core.specs.Readers.{LineReaderView, TakesInput, stream_of}
use Rattle.fixture_sheet.specs.Sheets.{SheetStop}
use Rattle.fixture_sheet.specs.declared.fault.ReadingStop.TheVariants as sheet_stop
use Rattle.fixture_sheet.specs.LastReads.{ReadsOnWay}
use Rattle.fixture_sheet.specs.inside.Calls.{CountsSheet}
use Rattle.fixture_sheet.specs.inside.SheetReads.{StopsAtSheet}
use Rattle.fixture_sheet.specs.Records.{sheet_rules}
use Rattle.result_log.specs.declared.fault.FeedStop.{FeedStop}
use Rattle.result_log.specs.inside.Calls.{CountsEntry, MovesToEntry}
use Rattle.result_log.specs.inside.FeedParts.{LiveReading}
use Rattle.result_log.specs.inside.Rounds.{EndsRound, Spot}
use Rattle.result_log.specs.inside.LastReads.{GivesEvents, StopsAtClose}
use Rattle.branch_pool.specs.inside.States.{PoolView}
use Rattle.plain_rounds.specs.declared.round.RoundEnd.{RoundEnd}
use Rattle.plain_rounds.specs.declared.round.RoundEnd.TheVariants.{Ask, End, Stop}
use Rattle.plain_rounds.specs.inside.Rounds.{close_of}
use Rattle.run_ends.specs.declared.status.Status.{Status}
use Rattle.run_ends.specs.declared.status.Status.TheVariants.{ReadFault}
use Rattle.command_words.specs.declared.command.Mode.{Mode}
use Rattle.session_turns.specs.declared.turn.Step.{Step}
use Rattle.session_turns.specs.declared.turn.Step.TheVariants.{GoesOn, Ends}
use Rattle.session_turns.specs.inside.TurnReads.{HasComeToPool, TurnStops}
use Rattle.session_turns.specs.Courses.{saved_at}
use Rattle.session_turns.specs.inside.Progress.{IsOriginOf, PathToPool, line_after, round_line}
use Rattle.session_turns.specs.inside.RoundHalts.{IsReportedIn}
use Rattle.run_ends.specs.inside.Stops.{CountsStop, StopEnds, stop_of_feed}
use Rattle.run_ends.specs.inside.Stops.{stop_of_sheet}
use Rattle.session_turns.specs.inside.Halts.{IsAboutAt}
use Rattle.session_turns.specs.inside.Turns.{CloseGives, CountsClose, CountsTurn, TurnCounts}
use Rattle.session_turns.specs.inside.Turns.{TurnGives, TurnGoesOn, TurnIsLive}
use Rattle.session_turns.proofs.LastReadLemmas.{feed-stops, round-goes_on, round-stops, sheet-ends}
use Rattle.session_turns.proofs.OriginLemmas.{origin-next, origin-reads}
use Rattle.session_turns.proofs.RoundLemmas.{mode-end, mode-stop, round-ask}
use Rattle.run_ends.specs.LastReads.{StopsSession, fresh_reader}
use Rattle.session_turns.specs.LastReads.{LeadSession}
use Rattle.run_ends.proofs.RunEndLemmas.{counts-end, counts-feed}

-- ---- the way

module _ (mode : Mode) (input : Option (List ℕ)) (told0 : Bool) (pool next : PoolView)
    (about : Option ℕ) (from to : Spot) (old now0 now1 : Option (List ℕ))
    (path : PathToPool mode input told0 (stream_of from.reader from.left) from.ended
    from.reader.position pool old now0) where
  -- whatever ended the round, from the origin of the way
  origin-gives : (end : RoundEnd) (turn : Step)
      → EndsRound (line_after mode path.0) pool.log next.log from to (close_of end)
      → IsOriginOf mode path.0 next → IsAboutAt mode end to.reader.text about
      → CloseGives mode next about end now0 now1 turn
      → TurnGives mode input told0 (stream_of to.reader to.left) to.ended to.reader.position
      to.left old now1 turn
  origin-gives Ask turn ends of_pool about_is gives =
      round-ask mode input told0 path.0 pool.log next.log from to old now0 path.2 next about now1
      turn ends refl of_pool about_is (gives (saved_at path.0 next.log) of_pool.kept)
  origin-gives End (GoesOn other) ends of_pool about_is gives = absurd gives
  origin-gives End (Ends status) ends of_pool about_is gives =
      mode-end mode input told0 path.0 pool.log next.log from to old now0 path.2 next now1 status
      ends refl of_pool gives
  origin-gives (Stop stop) (GoesOn other) ends of_pool about_is gives = absurd gives
  origin-gives (Stop stop) (Ends status) ends of_pool about_is gives =
      mode-stop mode input told0 path.0 pool.log next.log from to old now0 path.2 stop now1
      status ends gives

  -- from the pool before it
  pub close-gives : (end : RoundEnd) (turn : Step)
      → EndsRound (round_line mode pool.sheet) pool.log next.log from to (close_of end)
      → next.sheet ≡ pool.sheet → IsReportedIn mode pool next
      → IsAboutAt mode end to.reader.text about → CloseGives mode next about end now0 now1 turn
      → TurnGives mode input told0 (stream_of to.reader to.left) to.ended to.reader.position
      to.left old now1 turn
  close-gives end turn ends same reported about_is gives =
      let P : LiveReading → Type 0 =
      λ live. EndsRound live pool.log next.log from to (close_of end) in
      origin-gives end turn (subst P (sym (origin-reads mode path.0 pool path.1)) ends)
      (origin-next mode path.0 pool next path.1 same reported) about_is gives

-- ---- how it goes on

-- an ask keeps the sheet, and moves the reader on
pub close-goes_on : (mode : Mode) (pool : PoolView) (about : Option ℕ) (end : RoundEnd)
    (old now : Option (List ℕ)) (turn : Step) (reader new : LineReaderView) (sheet : Sheet)
    → pool.sheet ≡ sheet → MovesToEntry reader new (close_of end) → TurnIsLive mode turn
    → CloseGives mode pool about end old now turn
    → TurnGoesOn mode sheet reader.position.bytes new.position.bytes turn
close-goes_on mode pool about Ask old now (GoesOn next) reader new sheet same moves live gives =
    (live, (gives None tt).0.0 ∙ same, moves.0, moves.1)
close-goes_on mode pool about End old now (GoesOn next) reader new sheet same moves live gives =
    absurd gives
close-goes_on mode pool about (Stop stop) old now (GoesOn next) reader new sheet same moves live
    gives = absurd gives
close-goes_on mode pool about end old now (Ends status) reader new sheet same moves live gives = tt

-- ---- the counts of faults

-- after an ask
ask-counts : (reads reads' writes writes' : ℕ) (turn : Step) → reads' ≡ reads
    → CountsTurn writes writes' turn → TurnCounts reads reads' writes writes' turn
ask-counts reads reads' writes writes' (GoesOn next) same counts = (same, counts)
ask-counts reads reads' writes writes' (Ends status) same counts =
    counts-end reads reads' writes writes' status same counts

-- after a stop in place of a sheet
pub sheet-counts : (reads reads' writes writes' : ℕ) (stop : SheetStop) (status : Status)
    → CountsSheet {A = Sheet} reads reads' (Err stop)
    → CountsStop (stop_of_sheet stop) writes writes' status
    → TurnCounts reads reads' writes writes' (Ends status)
sheet-counts reads reads' writes writes' (sheet_stop.Read read_stop.ReadFault) status rose counts =
    let P : Status → Type 0 = λ s. TurnCounts reads reads' writes writes' (Ends s) in
    subst P (sym counts.0) ((rose, counts.1), tt)
sheet-counts reads reads' writes writes' stop status same counts =
    counts-end reads reads' writes writes' status same counts

-- whatever ended the round
pub close-counts : (reads reads' writes writes' : ℕ) (end : RoundEnd) (turn : Step)
    → CountsEntry reads reads' (close_of end) → CountsClose end writes writes' turn
    → TurnCounts reads reads' writes writes' turn
close-counts reads reads' writes writes' Ask turn same counts =
    ask-counts reads reads' writes writes' turn same counts
close-counts reads reads' writes writes' End (GoesOn next) same counts = absurd counts
close-counts reads reads' writes writes' End (Ends status) same counts =
    counts-end reads reads' writes writes' status same counts
close-counts reads reads' writes writes' (Stop stop) (GoesOn next) cause counts = absurd counts
close-counts reads reads' writes writes' (Stop stop) (Ends status) cause counts =
    counts-feed reads reads' writes writes' stop status cause counts

-- ---- the last read

module _ {S : Type 0} (left : S → Option (List ℕ)) (reads : S → List ℕ → S → Type 0) (first : S)
    (reader new : LineReaderView) (before after : S) (mode : Mode) (pool : PoolView)
    (come : HasComeToPool left reads mode first reader before pool) where
  -- whatever was read of a round from the origin of the way
  origin-stops : (status : Status)
      → ReadsOnWay left reads (GivesEvents (line_after mode come.0) pool.log) reader new
      before after
      → StopsSession left reads (LeadSession mode) first after status
  origin-stops status ways =
      round-stops left reads first reader new before after mode come.0 pool.log come.2 ways
      status

  -- a stop of the feed
  stop-last : (stop : FeedStop) (old now : Option (List ℕ)) (status : Status)
      → StopsAtClose left reads (line_after mode come.0) pool.log reader new before after
      (Err stop)
      → StopEnds (stop_of_feed stop) old now status
      → StopsSession left reads (LeadSession mode) first after status
  stop-last stop old now status ways stops =
      feed-stops left reads first reader new before after mode come.0 pool.log come.2 stop ways old
      now status stops

  -- whatever ended the round
  origin-last : (next : PoolView) (about : Option ℕ) (end : RoundEnd) (old now : Option (List ℕ))
      (turn : Step) (x y : Bool) (m n : ℕ)
      → EndsRound (line_after mode come.0) pool.log next.log
      (record { reader = reader; left = left before; ended = x; faults = m })
      (record { reader = new; left = left after; ended = y; faults = n }) (close_of end)
      → StopsAtClose left reads (line_after mode come.0) pool.log reader new before after
      (close_of end)
      → IsOriginOf mode come.0 next → CloseGives mode next about end old now turn
      → TurnStops left reads mode first new after turn
  origin-last next about Ask old now turn x y m n ends ways of_pool gives =
      round-goes_on left reads first reader new before after mode come.0 pool.log come.2 ways
      next about old now turn x y m n ends of_pool
      (gives (saved_at come.0 next.log) of_pool.kept)
  origin-last next about End old now (GoesOn other) x y m n ends ways of_pool gives =
      absurd gives
  origin-last next about End old now (Ends status) x y m n ends ways of_pool gives =
      origin-stops status ways
  origin-last next about (Stop stop) old now (GoesOn other) x y m n ends ways of_pool gives =
      absurd gives
  origin-last next about (Stop stop) old now (Ends status) x y m n ends ways of_pool gives =
      stop-last stop old now status ways gives

  -- from the pool before it
  pub close-last : (next : PoolView) (about : Option ℕ) (end : RoundEnd)
      (old now : Option (List ℕ)) (turn : Step) (x y : Bool) (m n : ℕ)
      → EndsRound (round_line mode pool.sheet) pool.log next.log
      (record { reader = reader; left = left before; ended = x; faults = m })
      (record { reader = new; left = left after; ended = y; faults = n }) (close_of end)
      → StopsAtClose left reads (round_line mode pool.sheet) pool.log reader new before after
      (close_of end)
      → next.sheet ≡ pool.sheet → IsReportedIn mode pool next
      → CloseGives mode next about end old now turn
      → TurnStops left reads mode first new after turn
  close-last next about end old now turn x y m n ends ways same reported gives =
      let P : LiveReading → Type 0 =
      λ live. EndsRound live pool.log next.log
      (record { reader = reader; left = left before; ended = x; faults = m })
      (record { reader = new; left = left after; ended = y; faults = n }) (close_of end) in
      let Q : LiveReading → Type 0 =
      λ live. StopsAtClose left reads live pool.log reader new before after (close_of end) in
      let reads_so = sym (origin-reads mode come.0 pool come.1) in
      origin-last next about end old now turn x y m n (subst P reads_so ends)
      (subst Q reads_so ways) (origin-next mode come.0 pool next come.1 same reported) gives

  -- where no memory was found
  pub starved-last : ReadsOnWay left reads (GivesEvents (round_line mode pool.sheet) pool.log)
      reader new before after
      → (status : Status) → StopsSession left reads (LeadSession mode) first after status
  starved-last ways status =
      let P : LiveReading → Type 0 =
      λ live. ReadsOnWay left reads (GivesEvents live pool.log) reader new before after in
      origin-stops status (subst P (sym (origin-reads mode come.0 pool come.1)) ways)

module _ {S : Type 0} (left : S → Option (List ℕ)) (reads : S → List ℕ → S → Type 0)
    (mode : Mode) (reader new : LineReaderView) (before after : S) (fresh : reader ≡ fresh_reader)
    (takes : TakesInput reader new (left before) (left after)) where
  -- a stop in place of a sheet
  pub sheet-last : (stop : SheetStop) (old now : Option (List ℕ)) (status : Status)
      → StopsAtSheet sheet_rules left reads reader new before after (Err stop)
      → StopEnds (stop_of_sheet stop) old now status
      → StopsSession left reads (LeadSession mode) before after status
  sheet-last (sheet_stop.Read read_stop.ReadFault) old now status ways stops =
      let P : Status → Type 0 = λ s. StopsSession left reads (LeadSession mode) before after s in
      subst P (sym stops.0) tt
  sheet-last stop old now status ways stops =
      sheet-ends left reads mode reader new before after fresh takes status ways
