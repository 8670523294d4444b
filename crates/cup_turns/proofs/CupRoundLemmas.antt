-- A round of a cup's feed: on from entry to entry, and where it ends.
use Rattle.std.proofs.Common.{◌≡◌, ◌≤◌, ℕ, ◌+◌, Bool, false, List, [], ◌∷◌, ◌++◌, Option, Result}
use Rattle.std.proofs.Common.{Ok}
use Rattle.std.proofs.Common.{ap, sym, ◌∙◌, subst, refl, inl, length, arith}
use Rattle.std.specs.Prelude.{All, IsTrue}
use Rattle.std.proofs.Common.{Err, ap₂}
use Rattle.std.proofs.lemmas.List.{length_push}
use Rattle.league_core.specs.declared.sheet.Sheet.{Sheet}
use Rattle.league_core.specs.declared.season.Event.{Event}
use Rattle.league_core.specs.game.Results.{Results, are_results}
use Rattle.league_core.specs.game.Seasons.{AreEventsOf, IsEventOf, IsSeasonOf}
use Rattle.league_core.specs.game.Seasons.{event_applied}
use Rattle.league_core.specs.game.Seasons.{season_after}
use Rattle.league_core.proofs.LogLemmas.{AreEventsOf-push, season_after_of}
use Rattle.league_core.proofs.TableLemmas.{season_after-push}
use Rattle.port_core.specs.Readers.{LineReaderView, TakesInput, contents_to_come}
use Rattle.port_core.specs.inside.ReaderCalls.{LeavesReader}
use Rattle.result_log.specs.declared.entry.Entry.{Entry}
use Rattle.result_log.specs.declared.entry.Entry.TheVariants.{Change}
use Rattle.result_log.specs.declared.fault.FeedStop.{FeedStop}
use Rattle.result_log.specs.Feeds.{entry_in}
use Rattle.result_log.specs.inside.Calls.{CountsEntry, MovesToEntry, PassesToEntry, ReadsEntry}
use Rattle.result_log.specs.inside.Calls.{entry_answer_after}
use Rattle.result_log.specs.inside.FeedParts.{LineEntry}
use Rattle.result_log.specs.inside.LastReads.{StopsAtEntry}
use Rattle.result_log.specs.inside.Rounds.{IsNextEntry, live_entry, spot_of}
use Rattle.result_log.proofs.LastReadLemmas.{entry-stops-as, round-further, round-stops}
use Rattle.result_log.proofs.LiveLemmas.{goes-further, goes-nowhere, next-as, round-ends}
use Rattle.result_log.proofs.StopLemmas.{stops-there}
use Rattle.answer_rows.specs.declared.output.OutputStop.{OutputStop}
use Rattle.answer_rows.specs.declared.output.OutputStop.TheVariants as output
use Rattle.answer_rows.specs.inside.Outputs.{CountsPut, PutsSomeText}
use Rattle.cup_sheet.specs.declared.cup.Cup.{Cup}
use Rattle.cup_sheet.specs.Cups.{IsCup}
use Rattle.cup_sheet.specs.CupFeeds.{joint_sheet, results_by_group}
use Rattle.cup_feed.proofs.FeedLawLemmas.{results_each}
use Rattle.cup_feed.proofs.FeedLemmas.{cup_clubs, cup_fixtures, length-clubs_of_groups}
use Rattle.cup_feed.proofs.FeedLemmas.{length-fixtures_from}
use Rattle.cup_turns.specs.CupCourses.{CupPlayed, cup_played}
use Rattle.cup_turns.specs.inside.CupTurns.{CountsCupAsk, CupAskGives, cup_turn_of}
use Rattle.cup_turns.specs.declared.round.CupSoFar.{CupSoFar}
use Rattle.cup_turns.specs.inside.CupRounds.{IsAfterEvents, IsReadOn, IsReadUp, WasRead, cup_told}

-- ---- the season so far

-- nothing is read
pub unread-after : (sheet : Sheet) (so_far : CupSoFar) → so_far.season ≡ season_after sheet []
    → so_far.events ≡ 0 → AreEventsOf sheet [] → IsAfterEvents sheet [] so_far
unread-after sheet so_far season count none =
    record { of_sheet = none; season = season; count = count }

-- it is a season of the sheet
pub read-of_sheet : (sheet : Sheet) (so_far : CupSoFar) → WasRead sheet so_far
    → IsSeasonOf sheet so_far.season
read-of_sheet sheet so_far read =
    subst (IsSeasonOf sheet) (sym read.1.season) (season_after_of sheet read.0)

-- one event more
pub told-after : (sheet : Sheet) (log : List Event) (so_far : CupSoFar) (event : Event)
    → IsAfterEvents sheet log so_far → IsEventOf so_far.season event
    → IsAfterEvents sheet (log ++ event ∷ []) (cup_told so_far event)
told-after sheet log so_far event stands may = record {
  of_sheet = AreEventsOf-push sheet log event stands.of_sheet
      (subst (λ season. IsEventOf season event) stands.season may);
  season = ap (λ season. event_applied season event) stands.season
      ∙ sym (season_after-push sheet log event);
  count = ap (λ count. count + 1) stands.count ∙ sym (length_push log event);
}

-- a line there is read in the season of the events
line-as : (sheet : Sheet) (log : List Event) (so_far : CupSoFar) → IsAfterEvents sheet log so_far
    → entry_in sheet so_far.season so_far.events false ≡ live_entry sheet log
line-as sheet log so_far stands =
    ap (λ (r : Results). entry_in sheet r so_far.events false) stands.season
    ∙ ap (λ (n : ℕ). entry_in sheet (season_after sheet log) n false) stands.count

-- ---- through a round

module _ {S : Type 0} (left : S → Option (List ℕ)) (ended : S → Bool) (faults : S → ℕ)
    (reads : S → List ℕ → S → Type 0) (sheet : Sheet) where
  -- what a call for the next entry says of it
  next-read : (found : LineEntry) (old new : LineReaderView) (before after : S)
      (result : Result Entry FeedStop)
      → PassesToEntry found old new (left before) (left after) (ended before) (ended after) result
      → LeavesReader new (left after) (entry_answer_after new result)
      → ReadsEntry found (contents_to_come old (left before)) (contents_to_come new (left after))
      result
      → TakesInput old new (left before) (left after) → MovesToEntry old new result
      → CountsEntry (faults before) (faults after) result
      → IsNextEntry found (spot_of old (left before) (ended before) (faults before))
      (spot_of new (left after) (ended after) (faults after)) result
  next-read found old new before after result passes leaves read takes moves cause = record {
    passes = passes;
    leaves = leaves;
    stops = stops-there found (contents_to_come old (left before))
        (contents_to_come new (left after)) result read;
    takes = takes;
    moves = moves;
    cause = cause;
  }

  -- nothing is read yet
  pub on-nowhere : (log : List Event) (so_far : CupSoFar) (old : LineReaderView) (before : S)
      → IsAfterEvents sheet log so_far
      → IsReadOn left ended faults reads sheet log so_far old old before before
  on-nowhere log so_far old before stands = record {
    told = log;
    stands = stands;
    goes = goes-nowhere (live_entry sheet) log
        (spot_of old (left before) (ended before) (faults before));
    last = inl (refl, refl);
  }

  module _ (log : List Event) (so_far : CupSoFar) (a b c : LineReaderView)
      (first second third : S) (result : Result Entry FeedStop)
      (on : IsReadOn left ended faults reads sheet log so_far a b first second)
      (passes : PassesToEntry (entry_in sheet so_far.season so_far.events false) b c (left second)
      (left third) (ended second) (ended third) result)
      (leaves : LeavesReader c (left third) (entry_answer_after c result))
      (read : ReadsEntry (entry_in sheet so_far.season so_far.events false)
      (contents_to_come b (left second)) (contents_to_come c (left third)) result)
      (takes : TakesInput b c (left second) (left third)) (moves : MovesToEntry b c result)
      (cause : CountsEntry (faults second) (faults third) result)
      (stops : StopsAtEntry left reads (entry_in sheet so_far.season so_far.events false) b c
      second third result) where
    -- the next entry, read in the season of the events
    next : IsNextEntry (live_entry sheet on.told)
        (spot_of b (left second) (ended second) (faults second))
        (spot_of c (left third) (ended third) (faults third)) result
    next =
        next-as (entry_in sheet so_far.season so_far.events false) (live_entry sheet on.told) _ _
        result (line-as sheet on.told so_far on.stands)
        (next-read (entry_in sheet so_far.season so_far.events false) b c second third result passes
        leaves read takes moves cause)

    -- where its reading stops
    stops-as : StopsAtEntry left reads (live_entry sheet on.told) b c second third result
    stops-as =
        entry-stops-as left reads (entry_in sheet so_far.season so_far.events false)
        (live_entry sheet on.told) b c second third result
        (line-as sheet on.told so_far on.stands) stops

    -- what ends the round
    pub on-over : IsReadUp left ended faults reads sheet log so_far a c first third result
    on-over = record {
      told = on.told;
      stands = on.stands;
      ends = round-ends (live_entry sheet) log on.told result _ _ _ on.goes next;
      last = round-stops left reads (live_entry sheet) log on.told a b c first second third
          (ended first) (ended second) (faults first) (faults second) on.goes on.last result
          stops-as;
    }

  -- one event more
  pub on-further : (log : List Event) (so_far : CupSoFar) (a b c : LineReaderView)
      (first second third : S) (event : Event)
      → IsReadOn left ended faults reads sheet log so_far a b first second
      → PassesToEntry (entry_in sheet so_far.season so_far.events false) b c (left second)
      (left third) (ended second) (ended third) (Ok (Change event))
      → LeavesReader c (left third) (entry_answer_after c (Ok (Change event)))
      → ReadsEntry (entry_in sheet so_far.season so_far.events false)
      (contents_to_come b (left second)) (contents_to_come c (left third)) (Ok (Change event))
      → TakesInput b c (left second) (left third) → MovesToEntry b c (Ok (Change event))
      → CountsEntry (faults second) (faults third) (Ok (Change event))
      → StopsAtEntry left reads (entry_in sheet so_far.season so_far.events false) b c
      second third (Ok (Change event))
      → IsEventOf so_far.season event
      → IsReadOn left ended faults reads sheet log (cup_told so_far event) a c first third
  on-further log so_far a b c first second third event on passes leaves read takes moves cause
      stops may = record {
        told = on.told ++ event ∷ [];
        stands = told-after sheet on.told so_far event on.stands may;
        goes = goes-further (live_entry sheet) log on.told event _ _ _ on.goes
            (next log so_far a b c first second third (Ok (Change event)) on passes leaves read
            takes moves cause stops);
        last = round-further left reads (live_entry sheet) log on.told a b c first second third
            (ended first) (ended second) (faults first) (faults second) on.goes on.last
            (stops-as log so_far a b c first second third (Ok (Change event)) on passes leaves read
            takes moves cause stops);
      }

-- one event more was read
pub was-told : (sheet : Sheet) (so_far : CupSoFar) (event : Event) → WasRead sheet so_far
    → IsEventOf so_far.season event → WasRead sheet (cup_told so_far event)
was-told sheet so_far event read may =
    (read.0 ++ event ∷ [], told-after sheet read.0 so_far event read.1 may)

-- a round over a sheet that is another by its value
pub round-as : {S : Type 0} (left : S → Option (List ℕ)) (ended : S → Bool) (faults : S → ℕ)
    (reads : S → List ℕ → S → Type 0) (sheet other : Sheet) (so_far next : CupSoFar)
    (old new : LineReaderView) (before after : S) (close : Result Entry FeedStop) → sheet ≡ other
    → ((log : List Event) → IsAfterEvents sheet log so_far
    → IsReadUp left ended faults reads sheet log next old new before after close)
    → (log : List Event) → IsAfterEvents other log so_far
    → IsReadUp left ended faults reads other log next old new before after close
round-as left ended faults reads sheet other so_far next old new before after close same round =
    let P : Sheet → Type 0 = λ s. (log : List Event) → IsAfterEvents s log so_far
    → IsReadUp left ended faults reads s log next old new before after close in
    subst P same round

-- ---- the joint sheet

-- it has no more clubs than a feed may have
pub joint-clubs : (cup : Cup) (sheet : Sheet) → IsCup cup → sheet ≡ joint_sheet cup
    → length sheet.clubs ≤ 255
joint-clubs cup sheet is same =
    let clubs = ap (λ (s : Sheet). length s.clubs) same in
    omega (arith, clubs, length-clubs_of_groups cup.groups, cup_clubs cup is)

-- nor more fixtures
pub joint-fixtures : (cup : Cup) (sheet : Sheet) → IsCup cup → sheet ≡ joint_sheet cup
    → length sheet.fixtures ≤ 65535
joint-fixtures cup sheet is same =
    let fixtures = ap (λ (s : Sheet). length s.fixtures) same in
    omega (arith, fixtures, length-fixtures_from 0 cup.groups, cup_fixtures cup is)

-- ---- what is asked

-- the seasons of the groups are such as may be
pub asked-results : (cup : Cup) (so_far : CupSoFar) (seasons : List Results)
    → WasRead (joint_sheet cup) so_far → seasons ≡ results_by_group cup.groups so_far.season
    → All (λ (season : Results). IsTrue (are_results season)) seasons
asked-results cup so_far seasons read are =
    let P : List Results → Type 0 =
    λ those. All (λ (season : Results). IsTrue (are_results season)) those in
    subst P (sym (are ∙ ap (results_by_group cup.groups) read.1.season))
    (results_each cup read.0 read.1.of_sheet)

-- they are those after the events
pub asked-played : (cup : Cup) (log : List Event) (so_far : CupSoFar) (seasons : List Results)
    → IsAfterEvents (joint_sheet cup) log so_far
    → seasons ≡ results_by_group cup.groups so_far.season
    → record { cup = cup; seasons = seasons; epoch = so_far.events } ≡ cup_played cup log
asked-played cup log so_far seasons stands are =
    let P : List Results → ℕ → CupPlayed =
    λ those count. record { cup = cup; seasons = those; epoch = count } in
    ap₂ P (are ∙ ap (results_by_group cup.groups) stands.season) stands.count

-- what comes of an answer that was written
pub put-gives : {A : Type 0} (IsAnswer : CupPlayed → List ℕ → Type 0) (played other : CupPlayed)
    (old now : Option (List ℕ)) (put : Result A OutputStop) → played ≡ other
    → PutsSomeText (IsAnswer played) old now put
    → CupAskGives (IsAnswer other) old now (cup_turn_of put)
put-gives {A} IsAnswer played other old now put same puts =
    let P : CupPlayed → Type 0 = λ asked. CupAskGives (IsAnswer asked) old now (cup_turn_of put) in
    subst P same (by_put put puts)
  where
    by_put : (it : Result A OutputStop) → PutsSomeText (IsAnswer played) old now it
        → CupAskGives (IsAnswer played) old now (cup_turn_of it)
    by_put (Ok done) puts = puts
    by_put (Err output.WriteFault) puts = puts
    by_put (Err output.OutOfMemory) puts = puts

pub put-counts : {A : Type 0} (writes writes' : ℕ) (put : Result A OutputStop)
    → CountsPut writes writes' put → CountsCupAsk writes writes' (cup_turn_of put)
put-counts writes writes' (Ok done) counts = counts
put-counts writes writes' (Err output.WriteFault) counts = counts
put-counts writes writes' (Err output.OutOfMemory) counts = counts
