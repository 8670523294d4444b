-- A turn of a cup's session: its ask is answered, or the run ends.
use Rattle.std.proofs.Common.{◌≡◌, ℕ, Bool, List, [], Option, None, Some, Ok, Err, refl}
use Rattle.std.proofs.Common.{inl, inr}
use Rattle.league_core.specs.declared.season.Event.{Event}
use Rattle.port_core.specs.Readers.{LineReaderView, stream_of}
use Rattle.result_log.specs.declared.entry.Entry.TheVariants.{Ask, End}
use Rattle.result_log.specs.declared.fault.FeedStop.{FeedStop}
use Rattle.cup_sheet.specs.declared.cup.Cup.{Cup}
use Rattle.cup_sheet.specs.CupFeeds.{joint_sheet}
use Rattle.run_ends.specs.declared.status.Status.{Status}
use Rattle.run_ends.specs.declared.status.Status.TheVariants.{Done}
use Rattle.run_ends.specs.Courses.{nothing_after}
use Rattle.run_ends.specs.LastReads.{StopsSession}
use Rattle.run_ends.specs.Runs.{Serves}
use Rattle.run_ends.specs.inside.Stops.{StopEnds, stop_of_feed}
use Rattle.run_ends.proofs.RunTextLemmas.{IsAnswered, answers-one}
use Rattle.run_ends.proofs.RunRoundLemmas.{ask-ends, ask-path, ends-onward, round-end, round-stop}
use Rattle.run_ends.proofs.StandLemmas.{stand-come, stand-feed_stops, stand-stops}
use Rattle.league_core.proofs.plain.Streams.{append_known-nothing}
use Rattle.cup_turns.specs.declared.round.CupSoFar.{CupSoFar}
use Rattle.cup_turns.specs.CupCourses.{CupPlayed, cup_feed_kind, cup_kind}
use Rattle.cup_turns.specs.CupCourses.{cup_played}
use Rattle.cup_turns.specs.CupLastReads.{LeadCup, LeadToCupFeed}
use Rattle.cup_turns.specs.inside.CupRounds.{IsAfterEvents, IsReadUp}
use Rattle.cup_turns.specs.inside.CupTurns.{CountsCupAsk, CupAskGives, CupTurnCounts, CupTurnGives}
use Rattle.cup_turns.specs.inside.CupTurns.{CupTurnStops, HasComeToCup, PathToCup}
use Rattle.run_ends.proofs.RunEndLemmas.{counts-end}

-- lines that lead on from a cup's sheet do not end its session
on-cup : (cup : Cup) (taken : List (ℕ × List ℕ)) (log : List Event)
    → LeadToCupFeed taken cup log → LeadCup taken
on-cup cup taken log leads = inr (cup, log, leads)

-- ---- the way

module _ {S : Type 0} (left : S → Option (List ℕ)) (ended : S → Bool) (faults : S → ℕ)
    (reads : S → List ℕ → S → Type 0) (IsAnswer : CupPlayed → List ℕ → Type 0)
    (answered : IsAnswered (cup_kind IsAnswer)) (cup : Cup) (so_far next : CupSoFar)
    (reader new : LineReaderView) (before after : S)
    (round : (log : List Event) → IsAfterEvents (joint_sheet cup) log so_far
    → IsReadUp left ended faults reads (joint_sheet cup) log next reader new before after (Ok Ask))
  where
    -- an ask is answered, or the run ends
    pub ask-gives : (input : Option (List ℕ)) (told : Bool) (old now0 now1 : Option (List ℕ))
        (turn : Option Status)
        → ((log : List Event) → IsAfterEvents (joint_sheet cup) log next
        → CupAskGives (IsAnswer (cup_played cup log)) now0 now1 turn)
        → PathToCup IsAnswer cup so_far input told (stream_of reader (left before)) (ended before)
        reader.position old now0
        → CupTurnGives IsAnswer cup next input told (stream_of new (left after)) (ended after)
        new.position (left after) old now1 turn
    ask-gives input told old now0 now1 None gives path =
        let up = round path.0 path.1 in
        let answer = gives up.told up.stands in (
          up.told,
          up.stands,
          ask-path (cup_kind IsAnswer) (cup_feed_kind cup) nothing_after answered told (ended after)
              new.position up.told old now0 new.position.lines new.text
              (IsAnswer (cup_played cup up.told)) (left after) now1 up.ends.comes
              (answers-one IsAnswer (cup_played cup up.told)) input (stream_of new (left after))
              answer.0
              (ends-onward (cup_kind IsAnswer) answered (cup_feed_kind cup) nothing_after input told
              path.0 up.told _ _ old now0 path.2 (Ok Ask) up.ends)
              answer.1 answer.2,
        )
    ask-gives input told old now0 now1 (Some status) gives path =
        let up = round path.0 path.1 in
        ask-ends (cup_kind IsAnswer) (cup_feed_kind cup) nothing_after answered told (ended after)
        new.position up.told old now0 new.position.lines new.text
        (IsAnswer (cup_played cup up.told)) (left after) now1 up.ends.comes
        (answers-one IsAnswer (cup_played cup up.told)) input (stream_of new (left after)) status
        (ends-onward (cup_kind IsAnswer) answered (cup_feed_kind cup) nothing_after input told
        path.0
        up.told _ _ old now0 path.2 (Ok Ask) up.ends)
        (gives up.told up.stands)

    -- and where the session stands then
    pub ask-stops : (first : S) (turn : Option Status)
        → HasComeToCup left reads cup so_far first reader before
        → CupTurnStops left reads cup next first new after turn
    ask-stops first None come =
        let up = round come.0 come.1 in (
          up.told,
          up.stands,
          stand-come left reads LeadCup (cup_kind IsAnswer) (cup_feed_kind cup) nothing_after
              (on-cup cup) first reader new before after come.0 come.2 up.last up.told _ _ _ _
              up.ends,
        )
    ask-stops first (Some status) come =
        let up = round come.0 come.1 in
        stand-stops left reads LeadCup (cup_kind IsAnswer) (cup_feed_kind cup) nothing_after
        (on-cup cup) first reader new before after come.0 come.2 up.last status

module _ {S : Type 0} (left : S → Option (List ℕ)) (ended : S → Bool) (faults : S → ℕ)
    (reads : S → List ℕ → S → Type 0) (IsAnswer : CupPlayed → List ℕ → Type 0)
    (answered : IsAnswered (cup_kind IsAnswer)) (cup : Cup) (so_far next : CupSoFar)
    (reader new : LineReaderView) (before after : S) where
  -- the end of the input
  pub end-gives : ((log : List Event) → IsAfterEvents (joint_sheet cup) log so_far
      → IsReadUp left ended faults reads (joint_sheet cup) log next reader new before after
      (Ok End))
      → (input : Option (List ℕ)) (told : Bool) (old now : Option (List ℕ))
      → PathToCup IsAnswer cup so_far input told (stream_of reader (left before)) (ended before)
      reader.position old now
      → Serves (cup_kind IsAnswer) input (left after) (ended after) old now Done
  end-gives round input told old now path =
      let up = round path.0 path.1 in
      round-end (cup_kind IsAnswer) answered (cup_feed_kind cup) nothing_after input told path.0
      up.told _ _ old now path.2 None now Done up.ends refl
      ([], refl, append_known-nothing now)

  pub end-stops : ((log : List Event) → IsAfterEvents (joint_sheet cup) log so_far
      → IsReadUp left ended faults reads (joint_sheet cup) log next reader new before after
      (Ok End))
      → (first : S) (status : Status) → HasComeToCup left reads cup so_far first reader before
      → StopsSession left reads LeadCup first after status
  end-stops round first status come =
      let up = round come.0 come.1 in
      stand-stops left reads LeadCup (cup_kind IsAnswer) (cup_feed_kind cup) nothing_after
      (on-cup cup) first reader new before after come.0 come.2 up.last status

  module _ (stop : FeedStop)
      (round : (log : List Event) → IsAfterEvents (joint_sheet cup) log so_far
      → IsReadUp left ended faults reads (joint_sheet cup) log next reader new before after
      (Err stop)) where
    -- a stop of the feed
    pub stop-gives : (input : Option (List ℕ)) (told : Bool) (old now0 now1 : Option (List ℕ))
        (status : Status)
        → PathToCup IsAnswer cup so_far input told (stream_of reader (left before)) (ended before)
        reader.position old now0
        → StopEnds (stop_of_feed stop) now0 now1 status
        → Serves (cup_kind IsAnswer) input (left after) (ended after) old now1 status
    stop-gives input told old now0 now1 status path stops =
        let up = round path.0 path.1 in
        round-stop (cup_kind IsAnswer) answered (cup_feed_kind cup) nothing_after input told path.0
        up.told _ _ old now0 path.2 (λ number. refl) (λ number. inl refl) stop now1 status up.ends
        stops

    pub stop-stops : (first : S) (old now : Option (List ℕ)) (status : Status)
        → HasComeToCup left reads cup so_far first reader before
        → StopEnds (stop_of_feed stop) old now status
        → StopsSession left reads LeadCup first after status
    stop-stops first old now status come stops =
        let up = round come.0 come.1 in
        stand-feed_stops left reads LeadCup (cup_kind IsAnswer) (cup_feed_kind cup) nothing_after
        (on-cup cup) first reader new before after come.0 come.2 stop up.last old now status stops

-- ---- the counts of faults

-- after an ask
pub asked-counts : (reads reads' writes writes' : ℕ) (turn : Option Status) → reads' ≡ reads
    → CountsCupAsk writes writes' turn → CupTurnCounts reads reads' writes writes' turn
asked-counts reads reads' writes writes' None same counts = (same, counts)
asked-counts reads reads' writes writes' (Some status) same counts =
    counts-end reads reads' writes writes' status same counts
